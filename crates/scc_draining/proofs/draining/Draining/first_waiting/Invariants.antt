use Rattle.std.proofs.Common.{◌≡◌, ◌<◌, ℕ, false}
use Rattle.scc_draining.specs.Waiting.{waits_at}
use Rattle.scc_draining.proofs.draining.Draining.first_waiting.Given as goal

abbrev pub invariant-loop-bucket : goal.invariant-loop-bucket
invariant-loop-bucket g l = (j : ℕ) → j < l.bucket → waits_at l.self.waiting.items j ≡ false
