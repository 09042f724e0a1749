use Rattle.std.proofs.Common.{refl}
use Rattle.scc_owned.proofs.map.entry_calls.HeldEntry+G+N+tuple2+K+V+H.and_modify.Goals as goal

pub returns-in-Occupied-clause-modifies : goal.returns-in-Occupied-clause-modifies
returns-in-Occupied-clause-modifies g c =
    rw c.in-Occupied.is (c.f.new.arg2, record { shown = c.get_mut.result; shows = c.get_mut.ensures.value; left = _; met = c.f.ensures; leaves = refl }, c.get_mut.ensures.written c.f.new.arg2)

pub returns-in-Occupied-clause-waiting : goal.returns-in-Occupied-clause-waiting
returns-in-Occupied-clause-waiting g c = rw c.in-Occupied.is (c.get_mut.ensures.waiting c.f.new.arg2)

pub returns-in-Vacant-clause-waiting : goal.returns-in-Vacant-clause-waiting
returns-in-Vacant-clause-waiting g c = rw c.in-Vacant.is refl
