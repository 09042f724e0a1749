use Rattle.scc_owned.proofs.EntrySteps.{stands-first}
use Rattle.scc_owned.proofs.held.HeldOccupied.first.Goals as goal

pub read_at-requires-clause-within : goal.read_at-requires-clause-within
read_at-requires-clause-within g c = let at = rw c.look.ensures at c.in-Some.ensures.place in at.within

pub returns-in-Some-clause-first : goal.returns-in-Some-clause-first
returns-in-Some-clause-first g c = let at = rw c.look.ensures at c.in-Some.ensures.place in stands-first c.read_at.result _ _ c.read_at.ensures.guard c.read_at.ensures.place at.index
