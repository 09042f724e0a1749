use Rattle.std.proofs.Common.{map}
use Rattle.std.specs.Arc.{arc_value}
use Rattle.scc_common.specs.Rules.{AllKeep}
use Rattle.scc_stripes.specs.Walks.{AreOfStripes}
use Rattle.scc_shared.proofs.ruled_index.walks.RuledIndex+K+V+R+H.iter.Given as goal

abbrev pub invariant-loop-stripe : goal.invariant-loop-stripe
invariant-loop-stripe g l = record {
  kept : AllKeep g.R.Rule.holds (map arc_value l.versions.items);
  stripes : AreOfStripes g.K.PartialEq.eq (λ p. p.0) l.stripe (map arc_value l.versions.items);
}
