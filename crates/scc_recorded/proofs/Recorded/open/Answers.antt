use Rattle.std.proofs.Common.{refl}
use Rattle.scc_recorded.proofs.Recorded.open.Goals as goal

pub invariant_of-recorded-clause-placed : goal.invariant_of-recorded-clause-placed
invariant_of-recorded-clause-placed g c = ∣ (_, c.requires.site, refl) ∣₁
