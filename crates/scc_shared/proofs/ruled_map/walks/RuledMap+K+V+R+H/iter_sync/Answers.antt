use Rattle.std.proofs.Common.{[], arith}
use Rattle.scc_common.specs.Walks.{ended}
use Rattle.scc_common.proofs.WalkLemmas.{walk-append}
use Rattle.scc_common.proofs.Lists.{all-append}
use Rattle.scc_stripes.proofs.Walks.{walked-next, walked-none, walked-short}
use Rattle.scc_owned.proofs.RuledPairs.{distinct-taken}
use Rattle.scc_shared.proofs.ruled_map.walks.RuledMap+K+V+R+H.iter_sync.Goals as goal

pub loop-stripe-init : goal.loop-stripe-init
loop-stripe-init g c = ([], tt, ended, walked-none g.K.PartialEq.eq (λ p. p.0))

pub returns-then-not-iter_lent : goal.returns-then-not-iter_lent
returns-then-not-iter_lent g c =
    let s = c.loop-stripe.invariant in
    let x = c.if-not-iter_lent.ensures.walks in
    record { calls = (_, _, all-append (λ (p : g.row.K.Denot × g.row.V.Denot). g.R.Rule.holds p.0 p.1) s.0 _ s.1 x.1, walk-append s.2 x.2, walked-short g.K.PartialEq.eq (λ p. p.0) _ _ _ (omega arith) (walked-next g.K.PartialEq.eq (λ p. p.0) _ _ _ s.3 (distinct-taken g.K.PartialEq.eq (λ p. p.0) x.0 _ c.if-not-iter_lent.ensures.unique))) }

pub loop-stripe-preserved : goal.loop-stripe-preserved
loop-stripe-preserved g c =
    let s = c.loop-stripe.invariant in
    let x = c.if-not-iter_lent.ensures.walks in
    (_, all-append (λ (p : g.row.K.Denot × g.row.V.Denot). g.R.Rule.holds p.0 p.1) s.0 _ s.1 x.1, walk-append s.2 x.2, walked-next g.K.PartialEq.eq (λ p. p.0) _ _ _ s.3 (distinct-taken g.K.PartialEq.eq (λ p. p.0) x.0 _ c.if-not-iter_lent.ensures.unique))
