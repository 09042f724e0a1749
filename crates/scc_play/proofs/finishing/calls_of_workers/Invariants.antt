-- The lists so far are the lists of the first workers.
use Rattle.std.proofs.Common.{◌≡◌, ℕ, ◌<◌, vec_len}
use Rattle.std.specs.Prelude.{IfSome, slice_get}
use Rattle.scc_play.specs.Answered.{calls_by}
use Rattle.scc_play.proofs.finishing.calls_of_workers.Given as goal

abbrev pub invariant-loop-worker : goal.invariant-loop-worker
invariant-loop-worker g l = record {
  len : vec_len l.lists ≡ l.worker;
  each : (w : ℕ) → w < l.worker → IfSome (slice_get l.lists.items w) (λ c. c.items ≡ calls_by w l.calls);
}
