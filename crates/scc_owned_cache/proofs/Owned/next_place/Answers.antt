use Rattle.std.proofs.Common.{sym, subst}
use Rattle.scc_table.specs.Places.{IsPlace}
use Rattle.scc_owned_cache.proofs.Owned.next_place.Goals as goal

pub next_place-requires : goal.next_place-requires
next_place-requires g c = subst (λ z. IsPlace z.contents c.args.place) (sym c.self.view_is) c.requires

pub returns : goal.returns
returns g c = rw (← c.self.view_is) c.next_place.ensures.place
