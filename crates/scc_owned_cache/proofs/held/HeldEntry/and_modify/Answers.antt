use Rattle.scc_owned_cache.proofs.held.HeldEntry.and_modify.Goals as goal

pub modify-requires-clause-callable : goal.modify-requires-clause-callable
modify-requires-clause-callable g c = rw c.in-Occupied.is at c.requires.callable

pub modify-requires-clause-keeps : goal.modify-requires-clause-keeps
modify-requires-clause-keeps g c = λ r w kept gives. (rw c.in-Occupied.is at c.requires.keeps) w kept gives

pub returns-in-Occupied : goal.returns-in-Occupied
returns-in-Occupied g c = record { modifies = rw c.in-Occupied.is c.modify.ensures.answer }
