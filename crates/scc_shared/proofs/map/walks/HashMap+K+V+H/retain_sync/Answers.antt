use Rattle.std.proofs.Common.{[]}
use Rattle.scc_common.specs.PairWalks.{ended}
use Rattle.scc_table.proofs.walks.Steps.{CallableToWrite-always}
use Rattle.scc_table.proofs.walks.Lists.{retains-always, retains-join}
use Rattle.scc_stripes.proofs.Walks.{walked-none, walked-permuted}
use Rattle.scc_shared.proofs.map.walks.HashMap+K+V+H.retain_sync.Goals as goal

pub loop-stripe-init : goal.loop-stripe-init
loop-stripe-init g c = record { always = c.requires; seen = ([], [], ended, walked-none g.K.PartialEq.eq (λ p. p.0)) }

pub retain_lent-requires : goal.retain_lent-requires
retain_lent-requires g c = λ es same. CallableToWrite-always g.F.FnMut _ c.loop-stripe.f es c.loop-stripe.invariant.always

pub loop-stripe-preserved : goal.loop-stripe-preserved
loop-stripe-preserved g c =
    let x = c.retain_lent.ensures.step in
    record { always = retains-always g.F.FnMut x.3 c.loop-stripe.invariant.always; seen = (_, _, retains-join c.loop-stripe.invariant.seen.2 x.3, walked-permuted g.met.K.Eq.laws _ _ _ x.0 c.loop-stripe.invariant.seen.3 x.2 (c.retain_lent.ensures.was_unique)) }
