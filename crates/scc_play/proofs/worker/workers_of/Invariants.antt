-- The workers so far have the first passes and the first lists.
use Rattle.std.proofs.Common.{◌≡◌, ◌+◌, ◌++◌, length, map, take}
use Rattle.scc_play.proofs.worker.workers_of.Given as goal

abbrev pub invariant-loop-calls : goal.invariant-loop-calls
invariant-loop-calls g l = record {
  passes : map (λ w. w.pass) l.workers.items ++ l.passes.items ≡ l.fn.passes.items;
  left : length l.passes.items + l.calls-index ≡ length l.lists;
  calls : map (λ w. w.calls.now) l.workers.items ≡ map (λ c. c.items) (take l.calls-index l.lists);
}
