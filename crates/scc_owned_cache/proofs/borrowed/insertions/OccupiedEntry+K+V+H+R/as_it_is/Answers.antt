use Rattle.std.proofs.Common.{None, Ok, refl, ap}
use Rattle.scc_owned_cache.proofs.Entries.{same-entry}
use Rattle.scc_owned_cache.proofs.borrowed.insertions.OccupiedEntry+K+V+H+R.as_it_is.Goals as goal

pub returns : goal.returns
returns g c = ((refl, λ w. refl, tt), record { same = ap (λ o. Ok (None, o)) (same-entry c.args.self _); kept = tt })
