use Rattle.std.proofs.Common.{[]}
use Rattle.scc_common.specs.PairWalks.{ended}
use Rattle.scc_common.proofs.Lists.{all-append}
use Rattle.scc_stripes.proofs.Walks.{walked-next, walked-none}
use Rattle.scc_table.proofs.walks.Lists.{retains-join}
use Rattle.scc_shared.proofs.ruled_map.walks.RuledMap+K+V+R+H.retain_sync.Goals as goal

pub loop-stripe-init : goal.loop-stripe-init
loop-stripe-init g c = ([], [], tt, tt, ended, walked-none g.K.PartialEq.eq (λ p. p.0))

pub loop-stripe-preserved : goal.loop-stripe-preserved
loop-stripe-preserved g c =
    let s = c.loop-stripe.invariant in
    let x = c.retain_lent.ensures.step in
    (_, _, all-append (λ (p : g.row.K.Denot × g.row.V.Denot). g.R.Rule.holds p.0 p.1) s.0 _ s.2 x.1, all-append (λ (p : g.row.K.Denot × g.row.V.Denot). g.R.Rule.holds p.0 p.1) s.1 _ s.3 x.2, retains-join s.4 x.3, walked-next g.K.PartialEq.eq (λ p. p.0) _ _ _ s.5 c.retain_lent.ensures.was_unique)
