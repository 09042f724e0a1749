-- The calls so far are known.
use Rattle.std.proofs.Common.{take}
use Rattle.std.specs.List.{AllByRecursion}
use Rattle.scc_play.specs.Played.{IsMadeBy}
use Rattle.scc_play.proofs.finished_text.is_known.Given as goal

abbrev pub invariant-loop-step : goal.invariant-loop-step
invariant-loop-step g l = AllByRecursion (IsMadeBy l.workers) (take l.step-index l.history)
