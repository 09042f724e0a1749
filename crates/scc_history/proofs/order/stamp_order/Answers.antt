use Rattle.std.proofs.Common.{◌≡◌, ◌+◌, ◌<◌, [], Some, map, length, arith, rules, replicate, sym, ap, ◌∙◌}
use Rattle.std.specs.Prelude.{slice_index, slice_set}
use Rattle.std.specs.BinaryHeap.{heap_items}
use Rattle.std.proofs.lemmas.List.{length-map, nil_from_length, get_or_read, get_or-set_same}
use Rattle.scc_history.proofs.Ordering.{left_falls, ordered_none, ordered_more, ordered_all, zeros_of, history_at, length_at}
use Rattle.scc_history.proofs.Unique.{only_order}
use Rattle.scc_history.proofs.Waiting.{here, least_here, taken, advanced, all_done}
use Rattle.scc_history.proofs.order.stamp_order.Goals as goal

pub loop-i-init : goal.loop-i-init
loop-i-init g c =
    let stripes = c.args.stripes.now in
    let hs = map g.H.Histories.history stripes in
    let n : length hs ≡ length stripes = simp length-map in
    let e : c.in_ok-done.done.items ≡ replicate (length stripes) 0 = search rules in
    let f : c.new-order.result.items ≡ [] = search rules in
    let z = e ∙ zeros_of stripes in
    let y = e ∙ ap (λ k. replicate k 0) (sym n) ∙ zeros_of hs in
    record { ordered = rw (y, f) (ordered_none _ _ hs); waiting = rw z c.in_ok-next.ensures.waiting; heap = c.in_ok-next.ensures.heap }

pub overflow_add-j : goal.overflow_add-j
overflow_add-j g c =
    let stripes = c.args.stripes.now in
    let hs = map g.H.Histories.history stripes in
    let x = c.in-Some.field-0 in
    let n : length hs ≡ length stripes = simp length-map in
    let next = here (λ x. x.0) hs (length stripes) c.loop-i.done.items _ _ x c.loop-i.invariant.waiting c.in-Some.ensures.permutation in
    let h : x.0.1 < length c.loop-i.done.items = omega (arith, next.0, c.loop-i.invariant.ordered.same) in
    let j = get_or_read c.loop-i.done.items x.0.1 c.index-j.result.now h c.index-j.ensures 0 in
    let at = history_at _ _ _ g.H.Histories.history stripes x.0.1 c.index-stripes-i.result (omega (arith, next.0, n)) c.index-stripes-i.is in
    let long = length_at (Unit {0}) _ _ (λ _. []) hs x.0.1 _ at in
    let short = c.history-history.ensures.short in
    omega (arith, j, next.1, long, short)

pub loop-i-smaller : goal.loop-i-smaller
loop-i-smaller g c =
    let stripes = c.args.stripes.now in
    let hs = map g.H.Histories.history stripes in
    let x = c.in-Some.field-0 in
    let next = here (λ x. x.0) hs (length stripes) c.loop-i.done.items _ _ x c.loop-i.invariant.waiting c.in-Some.ensures.permutation in
    let h : x.0.1 < length c.loop-i.done.items = omega (arith, next.0, c.loop-i.invariant.ordered.same) in
    let j = get_or_read c.loop-i.done.items x.0.1 c.index-j.result.now h c.index-j.ensures 0 in
    rw j (left_falls (map length hs) c.loop-i.done.items x.0.1 h next.1)

pub loop-i-preserved : goal.loop-i-preserved
loop-i-preserved g c =
    let stripes = c.args.stripes.now in
    let hs = map g.H.Histories.history stripes in
    let done = c.loop-i.done.items in
    let x = c.in-Some.field-0 in
    let w = c.loop-i.invariant.waiting in
    let perm = c.in-Some.ensures.permutation in
    let popped = c.in-Some.ensures.heap_order c.loop-i.invariant.heap in
    let n : length hs ≡ length stripes = simp length-map in
    let next = here (λ x. x.0) hs (length stripes) done _ _ x w perm in
    let h : x.0.1 < length done = omega (arith, next.0, c.loop-i.invariant.ordered.same) in
    let j = get_or_read done x.0.1 c.index-j.result.now h c.index-j.ensures 0 in
    let within : x.0.1 < length stripes = omega (arith, next.0, n) in
    let at = history_at _ _ _ g.H.Histories.history stripes x.0.1 c.index-stripes-i.result within c.index-stripes-i.is ∙ ap Some (sym c.history-history.ensures.same) in
    let least = least_here (λ x. x.0) hs (length stripes) done _ _ x w perm popped.1 (omega (arith, n)) in
    let t = taken (λ x. x.0) hs (length stripes) done _ _ x w perm within h in
    record {
      ordered = rw (c.in_ok-push.ensures.items, j) (ordered_more _ _ hs done c.loop-i.order.items x.0.1 c.loop-i.invariant.ordered next.0 next.1 least);
      waiting = rw j (advanced (λ x. x.0) hs x.0.1 (length stripes) (slice_index done x.0.1 + 1) (slice_set done x.0.1 (slice_index done x.0.1 + 1)) _ _ c.history-history.result.now t within next.0 at (get_or-set_same done x.0.1 (slice_index done x.0.1 + 1) 0 h) (rw j at c.in_ok-queue_step.ensures.joins));
      heap = c.in_ok-queue_step.ensures.heap popped.0;
    }

pub returns : goal.returns
returns g c =
    let stripes = c.args.stripes.now in
    let hs = map g.H.Histories.history stripes in
    let n : length hs ≡ length stripes = simp length-map in
    let none = c.in_default.ensures.none in
    let e : heap_items c.loop-i.next ≡ [] = nil_from_length (heap_items c.loop-i.next) (omega (arith, none, c.loop-i.next.data.ok.0)) in
    let w = rw e at c.loop-i.invariant.waiting in
    let o = ordered_all _ _ hs c.loop-i.done.items c.loop-i.order.items c.loop-i.invariant.ordered (λ k h. all_done (λ x. x.0) hs (length stripes) c.loop-i.done.items w k (omega (arith, n))) in
    (o, λ others p. only_order _ _ hs others c.loop-i.order.items p o)
