use Rattle.std.proofs.Common.{refl}
use Rattle.scc_table.proofs.places.Entries.{back-none}
use Rattle.scc_owned.proofs.EntrySteps.{next-at, none-after}
use Rattle.scc_owned.proofs.locked.walk.OccupiedEntry+E+H.next_sync.Goals as goal

pub next_place-requires : goal.next_place-requires
next_place-requires g c = rw c.deref.ensures c.args.self.within

pub read_at-requires-clause-within : goal.read_at-requires-clause-within
read_at-requires-clause-within g c = let at = rw c.deref.ensures at c.in-Some.ensures.place in at.within

pub returns-in-Some-clause-next : goal.returns-in-Some-clause-next
returns-in-Some-clause-next g c = λ some. let at = rw c.deref.ensures at c.in-Some.ensures.place in next-at c.args.self c.read_at.result _ _ c.read_at.ensures.guard c.read_at.ensures.place refl refl at.index

pub returns-in-Some-clause-later : goal.returns-in-Some-clause-later
returns-in-Some-clause-later g c = λ none. let at = rw c.deref.ensures at c.in-Some.ensures.place in none-after _ c.args.self.place c.in-Some.place c.args.self.within at.within at.index none

pub returns-in-None-clause-next : goal.returns-in-None-clause-next
returns-in-None-clause-next g c = λ some. let last = rw c.deref.ensures at c.in-None.ensures.place in absurd (some (back-none _ _ last))

pub returns-in-Some-clause-goes_on : goal.returns-in-Some-clause-goes_on
returns-in-Some-clause-goes_on g c = λ none. let at = rw c.deref.ensures at c.in-Some.ensures.place in none-after _ c.args.self.place c.in-Some.place c.args.self.within at.within at.index none

pub returns-in-None-clause-stays : goal.returns-in-None-clause-stays
returns-in-None-clause-stays g c = λ some. let last = rw c.deref.ensures at c.in-None.ensures.place in absurd (some (back-none _ _ last))
