use Rattle.std.proofs.Common.{[]}
use Rattle.scc_common.specs.PairWalks.{ended}
use Rattle.scc_common.proofs.WalkLemmas.{CallableWhile-always}
use Rattle.scc_table.proofs.walks.Lists.{declines-always, declines-join}
use Rattle.scc_stripes.proofs.Walks.{walked-next, walked-none}
use Rattle.scc_shared.proofs.index.walks.HashIndex+K+V+H.any_sync.Goals as goal

pub loop-stripe-init : goal.loop-stripe-init
loop-stripe-init g c = record { always = c.requires; seen = ([], ended, walked-none g.K.PartialEq.eq (λ p. p.0)) }

pub passing-requires : goal.passing-requires
passing-requires g c = CallableWhile-always g.P.FnMut _ c.loop-stripe.p _ c.loop-stripe.invariant.always

pub loop-stripe-preserved : goal.loop-stripe-preserved
loop-stripe-preserved g c =
    let d = c.in-Err.ensures.none.1 in
    record { always = declines-always g.P.FnMut d c.loop-stripe.invariant.always; seen = (_, declines-join c.loop-stripe.invariant.seen.1 d, walked-next g.K.PartialEq.eq (λ p. p.0) _ _ _ c.loop-stripe.invariant.seen.2 c.passing.ensures.unique) }
