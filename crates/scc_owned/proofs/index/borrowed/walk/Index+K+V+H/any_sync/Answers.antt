use Rattle.std.proofs.Common.{refl, ap}
use Rattle.scc_owned.proofs.HeldEntries.{same-name}
use Rattle.scc_owned.proofs.EntrySteps.{stands-in, passes-here}
use Rattle.scc_owned.proofs.index.borrowed.walk.Index+K+V+H.any_sync.Goals as goal

pub returns-in-Some : goal.returns-in-Some
returns-in-Some g c = ((same-name c.at.ensures.guard, λ w. refl, tt), record { same_index = ap (λ x. x.ghost_name) c.at.ensures.guard; here = stands-in c.at.result _ c.at.ensures.guard; first = passes-here c.at.result _ _ c.at.ensures.guard c.at.ensures.place c.in-Some.ensures.place.1; none = tt; kept = tt })

pub returns : goal.returns
returns g c = ((refl, λ _. tt, refl), record { same_index = tt; here = tt; first = tt; none = record { last = _; declines = c.in-None.ensures.place }; kept = tt })
