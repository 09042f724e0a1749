-- The receipts so far are in order.
use Rattle.std.proofs.Common.{◌≡◌, ℕ, ◌<◌}
use Rattle.std.specs.Prelude.{IfSome, slice_get}
use Rattle.scc_play.proofs.receipts.are_in_order.Given as goal

abbrev pub invariant-loop-i : goal.invariant-loop-i
invariant-loop-i g l = (k : ℕ) → k < l.i → IfSome (slice_get l.receipts k) (λ r. r.stripe ≡ k)
