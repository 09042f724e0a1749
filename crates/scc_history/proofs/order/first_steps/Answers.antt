use Rattle.std.proofs.Common.{◌≡◌, ◌+◌, ℕ, List, Some, map, length, arith, sym, ◌∙◌, ap}
use Rattle.std.proofs.lemmas.List.{length-map}
use Rattle.scc_history.proofs.Ordering.{history_at}
use Rattle.scc_history.proofs.Waiting.{opened, advanced, zero_at}
use Rattle.scc_history.proofs.order.first_steps.Goals as goal

pub loop-i-preserved : goal.loop-i-preserved
loop-i-preserved g c =
    let stripes = c.args.stripes.now in
    let i = c.loop-i.i in
    let hs = map g.H.Histories.history stripes in
    let zeros : List ℕ = map (λ (_ : g.row.H.Denot). 0) stripes in
    let at = history_at _ _ _ g.H.Histories.history stripes i c.index-stripes-i.result c.loop-i-test.true c.index-stripes-i.is ∙ ap Some (sym c.history.ensures.same) in
    let n : length hs ≡ length stripes = simp length-map in
    let t = opened (λ x. x.0) hs i zeros _ c.loop-i.invariant.waiting in
    record {
      waiting = advanced (λ x. x.0) hs i (i + 1) 0 zeros _ _ c.history.result.now t (omega arith) (omega (arith, n, c.loop-i-test.true)) at (zero_at stripes i) c.in_ok-queue_step.ensures.joins;
      heap = c.in_ok-queue_step.ensures.heap c.loop-i.invariant.heap;
    }
