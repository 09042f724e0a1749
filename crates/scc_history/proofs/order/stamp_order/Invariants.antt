use Rattle.std.proofs.Common.{map, length}
use Rattle.std.specs.BinaryHeap.{IsHeap, heap_items}
use Rattle.std.specs.Ordering.{nat_cmp, ordering_then}
use Rattle.scc_history.specs.Queues.{Queued}
use Rattle.scc_history.proofs.Ordering.{Ordered, left}
use Rattle.scc_history.proofs.order.stamp_order.Given as goal

abbrev pub invariant-loop-i : goal.invariant-loop-i
invariant-loop-i g l = record {
  ordered : Ordered (map g.H.Histories.history l.stripes) l.done.items l.order.items;
  waiting : Queued (λ x. x.0) (map g.H.Histories.history l.stripes) (length l.stripes) l.done.items (heap_items l.next);
  heap : IsHeap (λ x y. ordering_then (nat_cmp y.0.0 x.0.0) (nat_cmp y.0.1 x.0.1)) (heap_items l.next);
}

abbrev pub decreases-loop-i : goal.decreases-loop-i
decreases-loop-i g l = left (map length (map g.H.Histories.history l.stripes)) l.done.items
