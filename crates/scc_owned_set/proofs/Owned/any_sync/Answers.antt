use Rattle.std.proofs.Common.{refl}
use Rattle.scc_table.proofs.places.Entries.{splits-there, entry_of-get}
use Rattle.scc_owned_set.proofs.Owned.any_sync.Goals as goal

pub returns-in-Some : goal.returns-in-Some
returns-in-Some g c = ((refl, λ w. refl, tt), record { same_set = refl; here = record { contents = refl; at = splits-there _ _ _ }; first = c.in-Some.ensures.1 _ (entry_of-get _ _ _); none = tt; kept = tt })
