use Rattle.std.proofs.Common.{◌≤◌}
use Rattle.scc_uses.proofs.shared_routing.SharedRoutes.offer_all.Given as goal

abbrev pub invariant-loop-i : goal.invariant-loop-i
invariant-loop-i g l = l.taken ≤ l.i
