use Rattle.std.proofs.Common.{◌-◌, length, take, IfSome}
use Rattle.scc_common.specs.Contents.{entries}
use Rattle.scc_common.specs.PairWalks.{Declines}
use Rattle.scc_common.specs.Walks.{CalledOn}
use Rattle.scc_common.specs.Rules.{AllKeep}
use Rattle.scc_table.specs.Places.{IsPlace}
use Rattle.scc_table.proofs.walks.Reach.{reached}
use Rattle.scc_owned.proofs.ruled_index.walk.RuledIndex+K+V+R+H.first_passing.Given as goal

abbrev pub invariant-loop-at : goal.invariant-loop-at
invariant-loop-at g l = record {
  within : IfSome l.at (IsPlace l.self);
  kept : AllKeep g.R.Rule.holds (take (reached l.self l.at) (entries l.self));
  declines : Declines (CalledOn g.P.FnMut) l.fn.p (take (reached l.self l.at) (entries l.self)) l.p;
}

abbrev pub decreases-loop-at : goal.decreases-loop-at
decreases-loop-at g l = length (entries l.self) - reached l.self l.at
