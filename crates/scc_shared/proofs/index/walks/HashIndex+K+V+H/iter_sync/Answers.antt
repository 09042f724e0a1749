use Rattle.std.proofs.Common.{[], arith}
use Rattle.scc_common.specs.Walks.{ended}
use Rattle.scc_common.proofs.WalkLemmas.{CallableWhile-always, walk-append}
use Rattle.scc_stripes.proofs.Walks.{walked-next, walked-none, walked-short}
use Rattle.scc_table.proofs.walks.Lists.{walks-always}
use Rattle.scc_shared.proofs.index.walks.HashIndex+K+V+H.iter_sync.Goals as goal

pub loop-stripe-init : goal.loop-stripe-init
loop-stripe-init g c = record { always = c.requires; seen = ([], ended, walked-none g.K.PartialEq.eq (λ p. p.0)) }

pub iter_lent-requires : goal.iter_lent-requires
iter_lent-requires g c = CallableWhile-always g.F.FnMut _ c.loop-stripe.f _ c.loop-stripe.invariant.always

pub returns-then-not-iter_lent : goal.returns-then-not-iter_lent
returns-then-not-iter_lent g c =
    let seen = c.loop-stripe.invariant.seen in
    let unique = rw c.deref.ensures at c.if-not-iter_lent.ensures.unique in
    let walk = rw c.deref.ensures at c.if-not-iter_lent.ensures.walks in
    record { calls = (_, _, walk-append seen.1 walk, walked-short g.K.PartialEq.eq (λ p. p.0) _ _ _ (omega arith) (walked-next g.K.PartialEq.eq (λ p. p.0) _ _ _ seen.2 unique)) }

pub loop-stripe-preserved : goal.loop-stripe-preserved
loop-stripe-preserved g c =
    let seen = c.loop-stripe.invariant.seen in
    let unique = rw c.deref.ensures at c.if-not-iter_lent.ensures.unique in
    let walk = rw c.deref.ensures at c.if-not-iter_lent.ensures.walks in
    record { always = walks-always g.F.FnMut walk c.loop-stripe.invariant.always; seen = (_, walk-append seen.1 walk, walked-next g.K.PartialEq.eq (λ p. p.0) _ _ _ seen.2 unique) }
