use Rattle.std.proofs.Common.{[]}
use Rattle.scc_common.specs.PairWalks.{ended}
use Rattle.scc_table.proofs.walks.Lists.{retains-join}
use Rattle.scc_stripes.proofs.Walks.{walked-none, walked-permuted}
use Rattle.scc_shared_cache.proofs.StripeWalks.{callable-after-retains}
use Rattle.scc_shared_cache.proofs.SharedCache.retain_stripes.Goals as goal

pub loop-stripe-init : goal.loop-stripe-init
loop-stripe-init g c = record { callable = c.requires.callable; seen = ([], [], ended, walked-none g.K.PartialEq.eq (λ p. p.0)) }

pub retain_lent-requires-clause-callable : goal.retain_lent-requires-clause-callable
retain_lent-requires-clause-callable g c = c.loop-stripe.invariant.callable _

pub loop-stripe-preserved : goal.loop-stripe-preserved
loop-stripe-preserved g c =
    let x = c.retain_lent.ensures.step in
    record {
      callable = λ fs. callable-after-retains g.R.Rule.holds g.F.FnMut fs (c.loop-stripe.invariant.callable _) x.4;
      seen = (_, _, retains-join c.loop-stripe.invariant.seen.2 x.4, walked-permuted g.met.K.Eq.laws _ _ _ x.0 c.loop-stripe.invariant.seen.3 x.3.same c.retain_lent.ensures.was_unique);
    }
