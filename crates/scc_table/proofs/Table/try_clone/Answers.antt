use Rattle.std.proofs.Common.{◌∙◌, subst, arith}
use Rattle.scc_common.specs.Clones.{HasClones}
use Rattle.scc_common.specs.Contents.{hash_in}
use Rattle.scc_table.specs.TwoArrays.{together}
use Rattle.scc_table.proofs.arrays.Clones.{clones-together, old-short}
use Rattle.scc_table.proofs.arrays.Lists.{gathered}
use Rattle.scc_table.proofs.arrays.JoinedLists.{count-together, settings-together}
use Rattle.scc_table.proofs.arrays.SameParts.{entries-same, count-same}
use Rattle.scc_table.proofs.Table.try_clone.Goals as goal

pub insert_clones_of-requires : goal.insert_clones_of-requires
insert_clones_of-requires g c =
    let t = c.self.inside in
    let inv = c.self.invariant in
    let hash = λ (e : g.row.E.Denot). hash_in g.H.Hashes.hash_of t.current (g.E.Keyed.key_of e) in
    let few = inv.few in
    record { few = old-short hash _ t.draining.array t.draining.left_overflow inv.arrays.own inv.overflow_is (omega arith) }

pub returns-clause-clones : goal.returns-clause-clones
returns-clause-clones g c =
    let t = c.self.inside in
    let inv = c.self.invariant in
    let hash = λ (e : g.row.E.Denot). hash_in g.H.Hashes.hash_of t.current (g.E.Keyed.key_of e) in
    let all = together hash t.current t.draining.waiting.items t.draining.array in
    let made = c.insert_clones_of.new.table in
    subst (λ z. HasClones g.E.Clone.is_clone g.H.Clone.is_clone z c.over.result) c.self.view_is
    (clones-together g.E.Clone.is_clone g.H.Clone.is_clone all t.current c.in_ok-copy.copy made c.over.result t.draining.array (gathered hash t.current t.draining.waiting.items t.draining.array inv.arrays) (count-together hash t.current t.draining.waiting.items t.draining.array inv.arrays.flags) (settings-together hash t.current t.draining.waiting.items t.draining.array)
    c.in_ok-copy.ensures.clones c.in_ok-insert_clones_of.ensures (entries-same made c.over.result c.over.ensures.lists) (count-same made c.over.result c.over.ensures.lists) c.over.ensures.settings)

pub returns-clause-noted : goal.returns-clause-noted
returns-clause-noted g c = c.over.ensures.noted ∙ c.in_ok-insert_clones_of.ensures.noted ∙ c.in_ok-copy.ensures.noted
