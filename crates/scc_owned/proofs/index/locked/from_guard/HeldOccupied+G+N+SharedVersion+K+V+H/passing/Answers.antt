use Rattle.scc_owned.proofs.EntrySteps.{stands-in, passes-here}
use Rattle.scc_owned.proofs.index.locked.from_guard.HeldOccupied+G+N+SharedVersion+K+V+H.passing.Goals as goal

pub first_passing-requires : goal.first_passing-requires
first_passing-requires g c = rw c.look.ensures c.requires

pub at-requires-clause-within : goal.at-requires-clause-within
at-requires-clause-within g c = let at = rw c.look.ensures at c.in-Some.ensures.place in at.0

pub returns-in-Some-clause-here : goal.returns-in-Some-clause-here
returns-in-Some-clause-here g c = stands-in c.at.result _ c.at.ensures.guard

pub returns-in-Some-clause-first : goal.returns-in-Some-clause-first
returns-in-Some-clause-first g c = let at = rw c.look.ensures at c.in-Some.ensures.place in passes-here c.at.result _ _ c.at.ensures.guard c.at.ensures.place at.1
