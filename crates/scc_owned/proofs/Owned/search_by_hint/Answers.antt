use Rattle.scc_owned.proofs.Owned.search_by_hint.Goals as goal

pub returns-clause-found : goal.returns-clause-found
returns-clause-found g c = rw (← c.self.view_is) c.search_by_hint.ensures.found

pub returns-clause-missed : goal.returns-clause-missed
returns-clause-missed g c = rw (← c.self.view_is) c.search_by_hint.ensures.missed
