use Rattle.std.proofs.Common.{ℕ, ◌<◌, map}
use Rattle.std.specs.Prelude.{slice_get}
use Rattle.scc_history.specs.Receipts.{SameAt, seen}
use Rattle.scc_history.proofs.matching.first_difference.Given as goal

abbrev pub invariant-loop-j : goal.invariant-loop-j
invariant-loop-j g l = (k : ℕ) → k < l.j → SameAt g.A.PartialEq.eq g.R.PartialEq.eq (slice_get l.receipts k) (slice_get (map seen l.records) k)
