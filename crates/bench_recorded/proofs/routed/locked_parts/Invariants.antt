use Rattle.std.proofs.Common.{◌≡◌, length}
use Rattle.bench_recorded.proofs.routed.locked_parts.Given as goal

abbrev pub invariant-loop-part : goal.invariant-loop-part
invariant-loop-part l = length l.parts.items ≡ l._part
