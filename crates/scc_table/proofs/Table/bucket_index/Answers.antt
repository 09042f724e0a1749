use Rattle.std.proofs.Common.{◌∙◌, ap}
use Rattle.scc_common.specs.Contents.{bucket_count, hash_in, settings_of}
use Rattle.scc_common.specs.Routing.{bucket_number}
use Rattle.scc_table.proofs.arrays.CurrentParts.{count-seen, settings-seen}
use Rattle.scc_table.proofs.Table.bucket_index.Goals as goal

pub returns : goal.returns
returns g c =
    let t = c.self.inside in
    let hk = hash_in g.H.Hashes.hash_of t.current in
    let hash = λ (e : g.row.E.Denot). hk (g.E.Keyed.key_of e) in
    let set = settings-seen hash t.current t.draining.waiting.items t.draining.array c.args.self.now c.self.view_is in
    let count = count-seen hash t.current t.draining.waiting.items t.draining.array c.args.self.now c.self.view_is c.self.invariant.arrays in
    c.bucket_index.ensures
    ∙ ap (λ s. bucket_number s.skipped (bucket_count t.current) (g.H.Hashes.hash_of s.hasher c.args.key.now)) set
    ∙ ap (λ n. bucket_number (settings_of c.args.self.now).skipped n (g.H.Hashes.hash_of (settings_of c.args.self.now).hasher c.args.key.now)) count
