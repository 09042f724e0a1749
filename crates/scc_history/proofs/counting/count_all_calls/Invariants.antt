-- The records so far and those of the histories that are left are the records of all histories.
use Rattle.std.proofs.Common.{◌≡◌, ◌+◌, drop, map}
use Rattle.std.specs.List.{sum_by}
use Rattle.scc_history.specs.Stamps.{calls_in}
use Rattle.scc_history.proofs.counting.count_all_calls.Given as goal

abbrev pub invariant-loop-history : goal.invariant-loop-history
invariant-loop-history g l = l.records + sum_by calls_in (map (λ h. h.items) (drop l.history-index l.histories)) ≡ sum_by calls_in (map (λ h. h.items) l.histories)
