use Rattle.std.proofs.Common.{refl}
use Rattle.scc_owned.proofs.ruled_map.entry_calls.HeldEntry+G+N+Ruled+K+V+R+H.and_modify.Goals as goal

pub returns-in-Occupied-clause-waiting : goal.returns-in-Occupied-clause-waiting
returns-in-Occupied-clause-waiting g c = rw c.in-Occupied.is c.modify.ensures.waiting

pub returns-in-Vacant-clause-waiting : goal.returns-in-Vacant-clause-waiting
returns-in-Vacant-clause-waiting g c = rw c.in-Vacant.is refl
