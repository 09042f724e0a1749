use Rattle.std.proofs.Common.{refl}
use Rattle.scc_table.proofs.places.Entries.{back-none}
use Rattle.scc_owned.proofs.HeldEntries.{same-name}
use Rattle.scc_owned.proofs.EntrySteps.{next-at}
use Rattle.scc_owned.proofs.borrowed.walk.OccupiedEntry+E+H.next_sync.Goals as goal

pub returns-in-Some : goal.returns-in-Some
returns-in-Some g c = ((same-name c.at.ensures.guard, λ w. refl, tt), record { next = next-at c.args.self c.at.result _ _ c.at.ensures.guard c.at.ensures.place refl refl c.in-Some.ensures.place.index; last = tt; kept = tt })

pub returns-in-None : goal.returns-in-None
returns-in-None g c = ((refl, λ _. tt, refl), record { next = tt; last = back-none _ _ c.in-None.ensures.place; kept = tt })
