use Rattle.std.proofs.Common.{◌-◌, length, take, drop, IfSome, true}
use Rattle.scc_common.specs.Walks.{CalledOn, CallableWhile, Walks}
use Rattle.scc_common.specs.Contents.{entries}
use Rattle.scc_table.specs.Places.{IsPlace}
use Rattle.scc_table.proofs.walks.Reach.{reached}
use Rattle.scc_table.proofs.walk.pairs.Table+SharedVersion+K+V+H.walk_versions.Given as goal

abbrev pub invariant-loop-at : goal.invariant-loop-at
invariant-loop-at g l = record {
  callable : CallableWhile g.F.FnMut true l.f (drop (reached l.self l.at) (entries l.self));
  within : IfSome l.at (IsPlace l.self);
  walked : Walks (CalledOn g.F.FnMut) l.fn.f (take (reached l.self l.at) (entries l.self)) true l.f;
}

abbrev pub decreases-loop-at : goal.decreases-loop-at
decreases-loop-at g l = length (entries l.self) - reached l.self l.at
