use Rattle.scc_owned.proofs.Owned.has_room.Goals as goal

pub returns : goal.returns
returns g c = rw (← c.self.view_is) c.has_room.ensures
