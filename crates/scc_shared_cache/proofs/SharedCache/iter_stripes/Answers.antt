use Rattle.std.proofs.Common.{[], arith}
use Rattle.scc_common.specs.Walks.{ended}
use Rattle.scc_common.proofs.Lists.{all-append}
use Rattle.scc_common.proofs.RuleWalks.{walk-met, walk-of-kept}
use Rattle.scc_common.proofs.WalkLemmas.{walk-append}
use Rattle.scc_stripes.proofs.Walks.{walked-next, walked-none, walked-short}
use Rattle.scc_shared_cache.proofs.StripeWalks.{callable-next, distinct-front, walks-keep}
use Rattle.scc_shared_cache.proofs.SharedCache.iter_stripes.Goals as goal

pub loop-stripe-init : goal.loop-stripe-init
loop-stripe-init g c = record { callable = c.requires; seen = ([], tt, ended, walked-none g.K.PartialEq.eq (λ p. p.0)) }

pub iter_lent-requires : goal.iter_lent-requires
iter_lent-requires g c = c.loop-stripe.invariant.callable _

pub returns-then-not-iter_lent : goal.returns-then-not-iter_lent
returns-then-not-iter_lent g c =
    let seen = c.loop-stripe.invariant.seen in
    let m = walk-met g.R.Rule.holds g.F.FnMut c.if-not-iter_lent.ensures.walks in
    let distinct = distinct-front g.K.PartialEq.eq (λ p. p.0) m.met m.rest (rw m.first at c.if-not-iter_lent.ensures.unique) in
    record { calls = (_, _, all-append (λ (p : g.row.K.Denot × g.row.V.Denot). g.R.Rule.holds p.0 p.1) seen.0 m.met seen.1 m.kept, walk-append seen.2 m.walk, walked-short g.K.PartialEq.eq (λ p. p.0) _ _ _ (omega arith) (walked-next g.K.PartialEq.eq (λ p. p.0) _ _ _ seen.3 distinct)) }

pub loop-stripe-preserved : goal.loop-stripe-preserved
loop-stripe-preserved g c =
    let seen = c.loop-stripe.invariant.seen in
    let walk = c.if-not-iter_lent.ensures.walks in
    record {
      callable = λ fs. callable-next g.R.Rule.holds g.F.FnMut _ fs (c.loop-stripe.invariant.callable _) walk;
      seen = (_, all-append (λ (p : g.row.K.Denot × g.row.V.Denot). g.R.Rule.holds p.0 p.1) seen.0 _ seen.1 (walks-keep g.R.Rule.holds g.F.FnMut walk), walk-append seen.2 (walk-of-kept g.R.Rule.holds g.F.FnMut walk), walked-next g.K.PartialEq.eq (λ p. p.0) _ _ _ seen.3 c.if-not-iter_lent.ensures.unique);
    }
