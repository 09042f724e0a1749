-- The receipts so far are of the call.
use Rattle.std.proofs.Common.{◌≡◌, take}
use Rattle.std.specs.List.{AllByRecursion}
use Rattle.scc_play.proofs.receipts.are_all_of.Given as goal

abbrev pub invariant-loop-receipt : goal.invariant-loop-receipt
invariant-loop-receipt g l = AllByRecursion (λ r. r.call ≡ l.call) (take l.receipt-index l.receipts)
