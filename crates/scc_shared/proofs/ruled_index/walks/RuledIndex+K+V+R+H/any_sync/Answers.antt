use Rattle.std.proofs.Common.{[]}
use Rattle.scc_common.specs.PairWalks.{ended}
use Rattle.scc_common.proofs.Lists.{all-append}
use Rattle.scc_stripes.proofs.Walks.{walked-next, walked-none}
use Rattle.scc_table.proofs.walks.Lists.{declines-join}
use Rattle.scc_shared.proofs.ruled_index.walks.RuledIndex+K+V+R+H.any_sync.Goals as goal

pub loop-stripe-init : goal.loop-stripe-init
loop-stripe-init g c = ([], tt, ended, walked-none g.K.PartialEq.eq (λ p. p.0))

pub loop-stripe-preserved : goal.loop-stripe-preserved
loop-stripe-preserved g c =
    let s = c.loop-stripe.invariant in
    let d = c.in-Err.ensures.none in
    (_, all-append (λ (p : g.row.K.Denot × g.row.V.Denot). g.R.Rule.holds p.0 p.1) s.0 _ s.1 d.1, declines-join s.2 d.2, walked-next g.K.PartialEq.eq (λ p. p.0) _ _ _ s.3 c.passing.ensures.unique)
