-- The calls of the histories so far are known.
use Rattle.std.proofs.Common.{take, map}
use Rattle.std.specs.List.{AllByRecursion}
use Rattle.scc_play.specs.Played.{IsMadeBy}
use Rattle.scc_play.proofs.finished_text.are_known.Given as goal

abbrev pub invariant-loop-history : goal.invariant-loop-history
invariant-loop-history g l = AllByRecursion (AllByRecursion (IsMadeBy l.workers)) (map (λ h. h.items) (take l.history-index l.histories))
