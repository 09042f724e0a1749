use Rattle.scc_owned.proofs.Owned.next_place.Goals as goal

pub returns-clause-place : goal.returns-clause-place
returns-clause-place g c = rw c.self.view_is at c.next_place.ensures.place
