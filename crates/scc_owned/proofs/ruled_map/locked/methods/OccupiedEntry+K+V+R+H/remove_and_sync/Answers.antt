use Rattle.std.proofs.Common.{refl}
use Rattle.scc_table.proofs.places.Entries.{back-none}
use Rattle.scc_owned.proofs.HeldEntries.{pair-is}
use Rattle.scc_owned.proofs.EntrySteps.{next-past, none-past}
use Rattle.scc_owned.proofs.ruled_map.locked.methods.OccupiedEntry+K+V+R+H.remove_and_sync.Goals as goal

pub take_with_next-pair-requires : goal.take_with_next-pair-requires
take_with_next-pair-requires g c = rw c.deref_mut.ensures.value c.args.self.within

pub returns-in-Some-clause-pair : goal.returns-in-Some-clause-pair
returns-in-Some-clause-pair g c = pair-is c.args.self c.deref_mut.result.now c.take_with_next-pair.result.0 c.deref_mut.ensures.value c.take_with_next-pair.ensures.step.pair

pub returns-in-None-clause-pair : goal.returns-in-None-clause-pair
returns-in-None-clause-pair g c = pair-is c.args.self c.deref_mut.result.now c.take_with_next-pair.result.0 c.deref_mut.ensures.value c.take_with_next-pair.ensures.step.pair

pub returns-in-Some-clause-next : goal.returns-in-Some-clause-next
returns-in-Some-clause-next g c = λ some.
    let at = rw (c.in-Some.is, c.deref_mut.ensures.value) at c.take_with_next-pair.ensures.step.next in
    next-past c.args.self c.read_at.result _ _ c.read_at.ensures.guard c.read_at.ensures.place refl (rw c.deref_mut.ensures.value at c.take_with_next-pair.ensures.step.others) (rw c.deref_mut.ensures.value at c.take_with_next-pair.ensures.step.noted) at.index

pub returns-in-Some-clause-later : goal.returns-in-Some-clause-later
returns-in-Some-clause-later g c = λ none.
    let at = rw (c.in-Some.is, c.deref_mut.ensures.value) at c.take_with_next-pair.ensures.step.next in
    none-past _ c.args.self.place c.in-Some.place _ at.within (rw c.deref_mut.ensures.value at c.take_with_next-pair.ensures.step.others) (rw c.deref_mut.ensures.value at c.take_with_next-pair.ensures.step.noted) at.index none

pub returns-in-None-clause-next : goal.returns-in-None-clause-next
returns-in-None-clause-next g c = λ some. let last = rw (c.in-None.is, c.deref_mut.ensures.value) at c.take_with_next-pair.ensures.step.next in absurd (some (back-none _ _ last))

pub returns-in-Some-clause-goes_on : goal.returns-in-Some-clause-goes_on
returns-in-Some-clause-goes_on g c = λ none.
    let at = rw (c.in-Some.is, c.deref_mut.ensures.value) at c.take_with_next-pair.ensures.step.next in
    none-past _ c.args.self.place c.in-Some.place _ at.within (rw c.deref_mut.ensures.value at c.take_with_next-pair.ensures.step.others) (rw c.deref_mut.ensures.value at c.take_with_next-pair.ensures.step.noted) at.index none

pub returns-in-None-clause-stays : goal.returns-in-None-clause-stays
returns-in-None-clause-stays g c = λ some. let last = rw (c.in-None.is, c.deref_mut.ensures.value) at c.take_with_next-pair.ensures.step.next in absurd (some (back-none _ _ last))
