use Rattle.std.proofs.Common.{◌≡◌, length}
use Rattle.bench_recorded.proofs.pairs.drawn_pairs.Given as goal

abbrev pub invariant-loop-number : goal.invariant-loop-number
invariant-loop-number l = length l.pairs.items ≡ l.number
