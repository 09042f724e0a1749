use Rattle.std.proofs.Common.{◌≡◌, ◌+◌, Some, length, arith, sym, ap, ◌∙◌}
use Rattle.scc_history.proofs.Ordering.{history_at}
use Rattle.scc_common.specs.Routing.{stripe_of}
use Rattle.scc_recorded.proofs.Placed.{calls_take_more}
use Rattle.scc_recorded.proofs.checks.misrouted.Goals as goal

pub returns-in-Some-clause-some : goal.returns-in-Some-clause-some
returns-in-Some-clause-some g c =
    let at = history_at _ _ _ (λ s. s.stripe.history.items) c.args.stripes.now c.loop-i.i c.index-stripes-i.result (omega arith) c.index-stripes-i.is ∙ ap Some (sym c.history-history.ensures.same) in
    let some = c.in-Some.ensures.some in
    (c.loop-i.invariant, (_, at, some.0, some.2, some.1))

pub loop-i-preserved : goal.loop-i-preserved
loop-i-preserved g c =
    let at = history_at _ _ _ (λ s. s.stripe.history.items) c.args.stripes.now c.loop-i.i c.index-stripes-i.result (omega arith) c.index-stripes-i.is ∙ ap Some (sym c.history-history.ensures.same) in
    let none = c.in_default.ensures.none in
    let n : c.loop-i.i ≡ 0 + c.loop-i.i = omega arith in
    calls_take_more _ _ _ g.C.Calls.key_of (stripe_of g.C.Hasher.BuildHasher g.C.Hasher.Hasher.Hasher g.C.Key.Hash.hash_input c.args.hasher.now (length c.args.stripes.now)) 0 c.loop-i.i _ _ c.loop-i.invariant at (rw n at none)
