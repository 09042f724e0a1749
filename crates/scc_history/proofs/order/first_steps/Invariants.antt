use Rattle.std.proofs.Common.{map}
use Rattle.std.specs.BinaryHeap.{IsHeap, heap_items}
use Rattle.std.specs.Ordering.{nat_cmp, ordering_then}
use Rattle.scc_history.specs.Queues.{Queued}
use Rattle.scc_history.proofs.order.first_steps.Given as goal

abbrev pub invariant-loop-i : goal.invariant-loop-i
invariant-loop-i g l = record {
  waiting : Queued (λ x. x.0) (map g.H.Histories.history l.stripes) l.i (map (λ _. 0) l.stripes) (heap_items l.next);
  heap : IsHeap (λ x y. ordering_then (nat_cmp y.0.0 x.0.0) (nat_cmp y.0.1 x.0.1)) (heap_items l.next);
}
