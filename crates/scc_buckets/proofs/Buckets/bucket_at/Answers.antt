use Rattle.scc_common.specs.Contents.{hash_in}
use Rattle.std.proofs.Common.{◌≡◌, ap, ◌∙◌, length, rules}
use Rattle.scc_common.specs.Routing.{bucket_number}
use Rattle.scc_buckets.proofs.Bounds.{routed-view}
use Rattle.scc_buckets.proofs.Views.{count-view, entries-view, settings-view}
use Rattle.scc_buckets.proofs.Buckets.bucket_at.Goals as goal

pub returns-clause-value : goal.returns-clause-value
returns-clause-value g c =
    let bs = c.self.inside.buckets in
    let len : c.len.result ≡ length bs = search rules in
    rw (settings-view bs _ c.args.self.now c.self.view_is, count-view bs _ c.args.self.now c.self.view_is) (c.bucket.ensures.value ∙ ap (λ n. bucket_number c.self.inside.router.skipped n c.args.hash) len)

pub returns-clause-within : goal.returns-clause-within
returns-clause-within g c =
    rw (count-view c.self.inside.buckets _ c.args.self.now c.self.view_is) (λ some. search rules)

pub returns-clause-unique : goal.returns-clause-unique
returns-clause-unique g c = rw (entries-view c.self.inside.buckets _ c.args.self.now c.self.view_is) c.self.invariant.unique

pub returns-clause-routed : goal.returns-clause-routed
returns-clause-routed g c =
    rw (settings-view c.self.inside.buckets _ c.args.self.now c.self.view_is, hash_in)
    (routed-view (λ e. g.H.Hashes.hash_of c.self.inside.router.hasher (g.E.Keyed.key_of e)) _ _ c.self.inside.buckets _ c.args.self.now c.self.view_is c.self.invariant.table)
