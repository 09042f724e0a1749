use Rattle.std.proofs.Common.{◌≡◌, ◌<◌, ℕ, false}
use Rattle.scc_draining.specs.Waiting.{waits_at}
use Rattle.scc_draining.proofs.draining.Draining.second_waiting.Given as goal

-- no bucket between the first waiting one and this one waits
abbrev pub invariant-loop-bucket : goal.invariant-loop-bucket
invariant-loop-bucket g l = (j : ℕ) → l.first < j → j < l.bucket → waits_at l.self.waiting.items j ≡ false
