use Rattle.scc_recorded.proofs.counted.CountedStripe.open.Goals as goal

pub invariant_of-result-clause-placed : goal.invariant_of-result-clause-placed
invariant_of-result-clause-placed g c = ∣ (_, c.requires.site, c.in_ok-stripe.ensures.made) ∣₁
