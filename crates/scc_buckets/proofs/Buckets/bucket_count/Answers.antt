use Rattle.scc_common.specs.Contents.{hash_in}
use Rattle.std.proofs.Common.{◌≡◌, sym, ap, ◌∙◌, arith, length, rules}
use Rattle.std.proofs.lemmas.List.Concat.{length-flat_map}
use Rattle.scc_array.specs.Shelf.{shelf_entries}
use Rattle.scc_buckets.proofs.Bounds.{routed-view}
use Rattle.scc_buckets.proofs.Inserts.{sum-bound}
use Rattle.scc_buckets.proofs.Views.{count-view, entries-view, settings-view, spilled-view}
use Rattle.scc_buckets.proofs.Buckets.bucket_count.Goals as goal

pub returns-clause-count : goal.returns-clause-count
returns-clause-count g c =
    let len : c.len.result ≡ length c.self.inside.buckets = search rules in
    len ∙ sym (count-view c.self.inside.buckets _ c.args.self.now c.self.view_is)

pub returns-clause-lawful : goal.returns-clause-lawful
returns-clause-lawful g c =
    let len : c.len.result ≡ length c.self.inside.buckets = search rules in
    rw len c.self.invariant.table.sized

pub returns-clause-few : goal.returns-clause-few
returns-clause-few g c =
    let bs = c.self.inside.buckets in
    let now = c.args.self.now in
    let t = c.self.invariant.table in
    let all = ap length (entries-view bs _ now c.self.view_is) ∙ length-flat_map shelf_entries bs in
    let most = sum-bound bs (λ i b l at. (t.own i b l at).within) in
    omega (arith, all, most, count-view bs _ now c.self.view_is, spilled-view bs _ now c.self.view_is)

pub returns-clause-routed : goal.returns-clause-routed
returns-clause-routed g c =
    rw (settings-view c.self.inside.buckets _ c.args.self.now c.self.view_is, hash_in)
    (routed-view (λ e. g.H.Hashes.hash_of c.self.inside.router.hasher (g.E.Keyed.key_of e)) _ _ c.self.inside.buckets _ c.args.self.now c.self.view_is c.self.invariant.table)

pub returns-clause-unique : goal.returns-clause-unique
returns-clause-unique g c = rw (entries-view c.self.inside.buckets _ c.args.self.now c.self.view_is) c.self.invariant.unique
