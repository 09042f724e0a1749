use Rattle.std.proofs.Common.{ap, refl}
use Rattle.scc_owned.specs.Held.{Occupied}
use Rattle.scc_owned.proofs.index.entry_calls.HeldEntry+G+N+SharedVersion+K+V+H.and_modify.Goals as goal

pub returns-in-Ok-clause-modifies : goal.returns-in-Ok-clause-modifies
returns-in-Ok-clause-modifies g c = rw c.in-Occupied.is (c.f-value.result, (c.get.result, c.f-value.ensures, c.get.ensures.value), c.in-Ok.ensures.updated)

pub returns-in-Err-clause-refused : goal.returns-in-Err-clause-refused
returns-in-Err-clause-refused g c = rw c.in-Occupied.is (ap Occupied c.in-Err.ensures.refused.1, rw c.in-Err.ensures.refused.0 (c.get.result, c.f-value.ensures, c.get.ensures.value))

pub returns-in-Ok-clause-waiting : goal.returns-in-Ok-clause-waiting
returns-in-Ok-clause-waiting g c = rw c.in-Occupied.is c.update.ensures.waiting

pub returns-in-Vacant-clause-waiting : goal.returns-in-Vacant-clause-waiting
returns-in-Vacant-clause-waiting g c = rw c.in-Vacant.is refl
