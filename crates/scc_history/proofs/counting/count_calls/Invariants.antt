use Rattle.std.proofs.Common.{◌≡◌, ◌+◌, ◌≤◌, drop}
use Rattle.scc_history.specs.Stamps.{calls_in}
use Rattle.scc_history.proofs.counting.count_calls.Given as goal

abbrev pub invariant-loop-j : goal.invariant-loop-j
invariant-loop-j g l = (l.count + calls_in (drop l.j l.history) ≡ calls_in l.history) × (l.count ≤ l.j)
