use Rattle.std.proofs.Common.{refl}
use Rattle.scc_table.proofs.places.Entries.{splits-there, front-none}
use Rattle.scc_owned_set.proofs.Owned.begin_sync.Goals as goal

pub returns-in-Some : goal.returns-in-Some
returns-in-Some g c = ((refl, λ w. refl, tt), record { same_set = refl; first = (record { contents = refl; at = splits-there _ _ _ }, front-none _ _ c.in-Some.ensures.index); empty = tt; kept = tt })

pub returns-in-None : goal.returns-in-None
returns-in-None g c = ((refl, λ _. tt, refl), record { same_set = tt; first = tt; empty = c.in-None.ensures; kept = tt })
