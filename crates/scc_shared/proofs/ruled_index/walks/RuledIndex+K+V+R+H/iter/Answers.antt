use Rattle.scc_common.proofs.Lists.{all-append}
use Rattle.scc_stripes.proofs.Walks.{walked-next}
use Rattle.scc_shared.proofs.ruled_index.walks.RuledIndex+K+V+R+H.iter.Goals as goal

pub loop-stripe-preserved : goal.loop-stripe-preserved
loop-stripe-preserved g c =
    let s = c.loop-stripe.invariant in
    rw c.in-Ok.ensures.all record {
      kept = all-append (λ (p : g.row.K.Denot × g.row.V.Denot). g.R.Rule.holds p.0 p.1) _ _ s.kept c.in-Ok.ensures.kept;
      stripes = walked-next g.K.PartialEq.eq (λ p. p.0) _ _ _ s.stripes c.in-Ok.ensures.unique;
    }
