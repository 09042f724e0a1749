use Rattle.std.proofs.Common.{refl}
use Rattle.scc_table.proofs.places.Entries.{back-none, next-there}
use Rattle.scc_owned_set.proofs.entry.OccupiedEntry.next_sync.Goals as goal

pub returns-in-Some : goal.returns-in-Some
returns-in-Some g c = ((refl, λ w. refl, tt), record { next = record { same_set = refl; at = next-there _ _ _ _ _ _ refl c.in-Some.ensures.index }; last = tt; kept = tt })

pub returns-in-None : goal.returns-in-None
returns-in-None g c = ((refl, λ _. tt, refl), record { next = tt; last = back-none _ _ c.in-None.ensures; kept = tt })
