use Rattle.std.specs.Vec.Iter.{into_iter_items}
use Rattle.scc_common.specs.Rules.{AllKeep}
use Rattle.scc_shared.proofs.ruled_map.make.RuledMap+K+V+R+H.upsert_all.Given as goal

abbrev pub invariant-loop-k : goal.invariant-loop-k
invariant-loop-k g l = AllKeep g.R.Rule.holds (into_iter_items l.k-iterator)
