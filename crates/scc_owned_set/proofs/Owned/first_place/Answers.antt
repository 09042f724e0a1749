use Rattle.scc_owned_set.proofs.Places.{starts}
use Rattle.scc_owned_set.proofs.Owned.first_place.Goals as goal

pub returns : goal.returns
returns g c = rw (← c.self.view_is) (starts c.self.inside.map c.first_place.result c.first_place.ensures.place)
