use Rattle.std.proofs.Common.{◌≡◌, min, drop, ◌≤◌}
use Rattle.scc_history.specs.Orders.{least}
use Rattle.scc_history.proofs.order.number_at.Given as goal

abbrev pub invariant-loop-j : goal.invariant-loop-j
invariant-loop-j g l = (min l.low (least (drop l.j l.history)) ≡ least (drop l.from l.history)) × (l.low ≤ 18446744073709551615)
