use Rattle.std.proofs.Common.{◌≡◌}
use Rattle.bench_recorded.proofs.plain.upsert_all.Given as goal

abbrev pub invariant-loop-key : goal.invariant-loop-key
invariant-loop-key g l = l.made ≡ l.key-index
