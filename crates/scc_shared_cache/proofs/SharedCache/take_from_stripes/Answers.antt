use Rattle.std.proofs.Common.{arith, rules, [], ◌++◌, ◌∙◌, ap, sym, append-nil, append_assoc}
use Rattle.scc_common.specs.PairWalks.{ended}
use Rattle.scc_table.proofs.walks.Lists.{takes-join}
use Rattle.scc_stripes.proofs.Walks.{walked-none, walked-permuted, walked-short}
use Rattle.scc_shared_cache.proofs.StripeWalks.{callable-after-takes}
use Rattle.scc_shared_cache.proofs.SharedCache.take_from_stripes.Goals as goal

pub loop-stripe-init : goal.loop-stripe-init
loop-stripe-init g c = record { callable = c.requires.callable; seen = ([], [], [], ended, sym (append-nil _), walked-none g.K.PartialEq.eq (λ p. p.0)); room = search rules }

pub iter_mut_lent-requires-clause-callable : goal.iter_mut_lent-requires-clause-callable
iter_mut_lent-requires-clause-callable g c = c.loop-stripe.invariant.callable _

pub returns-in-Ok-false-clause-calls : goal.returns-in-Ok-false-clause-calls
returns-in-Ok-false-clause-calls g c =
    let seen = c.loop-stripe.invariant.seen in
    let x = rw c.in-Ok-false.field-0-test at c.in-Ok-false.ensures.step in
    (_, _, _, _, takes-join seen.3 x.5, x.6 ∙ ap (λ z. z ++ x.2) seen.4 ∙ append_assoc c.args.taken.now.items seen.2 x.2, walked-short g.K.PartialEq.eq (λ p. p.0) _ _ _ (omega arith) (walked-permuted g.met.K.Eq.laws _ _ _ x.0 seen.5 x.4.same c.in-Ok-false.ensures.was_unique))

pub returns-in-Err-clause-calls : goal.returns-in-Err-clause-calls
returns-in-Err-clause-calls g c =
    let seen = c.loop-stripe.invariant.seen in
    let x = c.in-Err.ensures.step in
    (_, _, _, _, takes-join seen.3 x.5, x.6 ∙ ap (λ z. z ++ x.2) seen.4 ∙ append_assoc c.args.taken.now.items seen.2 x.2, walked-short g.K.PartialEq.eq (λ p. p.0) _ _ _ (omega arith) (walked-permuted g.met.K.Eq.laws _ _ _ x.0 seen.5 x.4.same c.in-Err.ensures.was_unique))

pub loop-stripe-preserved : goal.loop-stripe-preserved
loop-stripe-preserved g c =
    let seen = c.loop-stripe.invariant.seen in
    let x = rw c.in-Ok-true.field-0-test at c.in-Ok-true.ensures.step in
    record {
      callable = λ fs. callable-after-takes g.R.Rule.holds g.F.FnMut fs (c.loop-stripe.invariant.callable _) x.5;
      seen = (_, _, _, takes-join seen.3 x.5, x.6 ∙ ap (λ z. z ++ x.2) seen.4 ∙ append_assoc c.args.taken.now.items seen.2 x.2, walked-permuted g.met.K.Eq.laws _ _ _ x.0 seen.5 x.4.same c.in-Ok-true.ensures.was_unique);
      room = omega (arith, c.loop-stripe.invariant.room, c.in-Ok-true.ensures.room);
    }
