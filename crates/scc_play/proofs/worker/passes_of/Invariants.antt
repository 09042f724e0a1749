-- The passes so far are the passes of the first workers.
use Rattle.std.proofs.Common.{◌≡◌, map}
use Rattle.scc_play.proofs.worker.passes_of.Given as goal

abbrev pub invariant-loop-worker : goal.invariant-loop-worker
invariant-loop-worker g l = l.passes.items ≡ map (λ w. w.pass) l.yielded
