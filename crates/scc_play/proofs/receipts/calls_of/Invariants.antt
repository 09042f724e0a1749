-- The calls so far, and then the worker's calls among the calls that are left, are all calls of the worker.
use Rattle.std.proofs.Common.{◌≡◌, ◌++◌, drop}
use Rattle.scc_play.specs.Answered.{calls_by}
use Rattle.scc_play.proofs.receipts.calls_of.Given as goal

abbrev pub invariant-loop-call : goal.invariant-loop-call
invariant-loop-call g l = l.own.items ++ calls_by l.worker (drop l.call-index l.calls) ≡ calls_by l.worker l.calls
