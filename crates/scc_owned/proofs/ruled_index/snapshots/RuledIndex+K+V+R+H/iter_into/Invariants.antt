use Rattle.std.proofs.Common.{◌≡◌, ◌-◌, ◌++◌, length, map, take, IfSome}
use Rattle.std.specs.Arc.{arc_value}
use Rattle.scc_common.specs.Contents.{entries}
use Rattle.scc_common.specs.Rules.{AllKeep}
use Rattle.scc_table.specs.Places.{IsPlace}
use Rattle.scc_table.proofs.walks.Reach.{reached}
use Rattle.scc_owned.proofs.ruled_index.snapshots.RuledIndex+K+V+R+H.iter_into.Given as goal

abbrev pub invariant-loop-at : goal.invariant-loop-at
invariant-loop-at g l = record {
  within : IfSome l.at (IsPlace l.self);
  listed : map arc_value l.versions.items ≡ map arc_value l.fn.versions.items ++ take (reached l.self l.at) (entries l.self);
  kept : AllKeep g.R.Rule.holds (take (reached l.self l.at) (entries l.self));
}

abbrev pub decreases-loop-at : goal.decreases-loop-at
decreases-loop-at g l = length (entries l.self) - reached l.self l.at
