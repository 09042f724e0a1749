use Rattle.std.proofs.Common.{◌∙◌, ◌+◌, ap}
use Rattle.scc_common.specs.Contents.{hash_in}
use Rattle.scc_table.proofs.arrays.CurrentParts.{settings-seen}
use Rattle.scc_table.proofs.Table.minimum.Goals as goal

pub returns-clause-value : goal.returns-clause-value
returns-clause-value g c =
    let t = c.self.inside in
    let hk = hash_in g.H.Hashes.hash_of t.current in
    let hash = λ (e : g.row.E.Denot). hk (g.E.Keyed.key_of e) in
    let set = settings-seen hash t.current t.draining.waiting.items t.draining.array c.args.self.now c.self.view_is in
    c.minimum.ensures.value ∙ ap (λ s. s.asked + s.reserved) set
