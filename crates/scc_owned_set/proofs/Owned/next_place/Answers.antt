use Rattle.scc_table.proofs.places.Mapped.{IsPlace-from_mapped}
use Rattle.scc_owned_set.proofs.Places.{follows}
use Rattle.scc_owned_set.proofs.Owned.next_place.Goals as goal

pub next_place-requires : goal.next_place-requires
next_place-requires g c = IsPlace-from_mapped _ c.self.inside.map c.args.place (rw (← c.self.view_is) at c.requires)

pub returns : goal.returns
returns g c = rw (← c.self.view_is) (follows c.self.inside.map c.args.place c.next_place.result c.next_place.ensures.place)
