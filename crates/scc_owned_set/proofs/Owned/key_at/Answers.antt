use Rattle.scc_table.proofs.places.Mapped.{IsPlace-from_mapped}
use Rattle.scc_owned_set.proofs.Places.{get-key}
use Rattle.scc_owned_set.proofs.Owned.key_at.Goals as goal

pub pair_at-requires : goal.pair_at-requires
pair_at-requires g c = IsPlace-from_mapped _ c.self.inside.map c.args.place (rw (← c.self.view_is) at c.requires)

pub returns : goal.returns
returns g c = rw (← c.self.view_is) (get-key c.self.inside.map c.args.place _ c.pair_at.ensures)
