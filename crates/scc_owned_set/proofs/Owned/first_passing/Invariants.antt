use Rattle.std.proofs.Common.{◌≡◌, ◌-◌, length, take, drop, IfSome, false}
use Rattle.std.specs.Fn.{CalledAt}
use Rattle.scc_common.specs.Contents.{entries}
use Rattle.scc_table.specs.Places.{IsPlace}
use Rattle.scc_table.proofs.walks.Reach.{reached}
use Rattle.scc_owned_set.specs.SetWalks.{CallableWhile, Declines}
use Rattle.scc_owned_set.proofs.Owned.first_passing.Given as goal

abbrev pub invariant-loop-at : goal.invariant-loop-at
invariant-loop-at g l = record {
  callable : CallableWhile g.P.FnMut (λ answer. answer ≡ false) l.p (drop (reached l.self l.at) (entries l.self));
  within : IfSome l.at (IsPlace l.self);
  declines : Declines (CalledAt g.P.FnMut) l.fn.p (take (reached l.self l.at) (entries l.self)) l.p;
}

abbrev pub decreases-loop-at : goal.decreases-loop-at
decreases-loop-at g l = length (entries l.self) - reached l.self l.at
