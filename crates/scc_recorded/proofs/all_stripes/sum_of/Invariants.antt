use Rattle.std.proofs.Common.{◌≡◌, min, take}
use Rattle.std.specs.List.{sum_by}
use Rattle.scc_recorded.specs.Adds.{number_or_zero}
use Rattle.scc_recorded.proofs.all_stripes.sum_of.Given as goal

abbrev pub invariant-loop-receipt : goal.invariant-loop-receipt
invariant-loop-receipt g l = l.sum ≡ min 18446744073709551615 (sum_by (λ r. number_or_zero (g.C.WholeCalls.counted r.reply)) (take l.receipt-index l.receipts))
