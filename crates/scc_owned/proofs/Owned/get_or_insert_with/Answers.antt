use Rattle.std.proofs.Common.{refl}
use Rattle.scc_common.specs.Contents.{entries}
use Rattle.scc_owned.proofs.GetSteps.{get-allowed, get-found}
use Rattle.scc_owned.proofs.Owned.get_or_insert_with.Goals as goal

pub entry_at-requires : goal.entry_at-requires
entry_at-requires g c = let at = rw c.self.view_is at c.in-Some.ensures.place in at.within

pub returns-in-Some-clause-step : goal.returns-in-Some-clause-step
returns-in-Some-clause-step g c =
    let at = rw c.self.view_is at c.in-Some.ensures.place in
    rw (get-found g.met.E.Stored.lawful g.E.Key.PartialEq.eq c.args.self.now c.args.k c.in-Some.place at c.entry_at.result.now c.entry_at.ensures.entry) (c.read.ensures.value, refl)

pub returns-in-Some-clause-allowed : goal.returns-in-Some-clause-allowed
returns-in-Some-clause-allowed g c =
    let at = rw c.self.view_is at c.in-Some.ensures.place in
    get-allowed g.met.E.Stored.lawful g.E.Key.PartialEq.eq c.args.self.now c.args.k c.in-Some.place at c.entry_at.result.now c.entry_at.ensures.entry g.met.E.Key.Eq.laws g.E.Stored.allows g.met.E.Stored.alike _ _ c.read.ensures.key c.read.ensures.allowed

pub make-value-requires : goal.make-value-requires
make-value-requires g c =
    let none = g.met.E.Stored.lawful.missing (g.E.Key.PartialEq.eq c.args.k) (entries c.args.self.now) (rw c.self.view_is at c.in-None.ensures.place) in
    c.requires.callable none _ refl

pub insert_into-requires-clause-absent : goal.insert_into-requires-clause-absent
insert_into-requires-clause-absent g c = rw c.self.view_is at c.in-None.ensures.place

pub insert_into-requires-clause-allowed : goal.insert_into-requires-clause-allowed
insert_into-requires-clause-allowed g c =
    let none = g.met.E.Stored.lawful.missing (g.E.Key.PartialEq.eq c.args.k) (entries c.args.self.now) (rw c.self.view_is at c.in-None.ensures.place) in
    c.requires.keeps none c.make-value.result (_, c.make-value.ensures, refl)

pub returns-in-None-clause-step : goal.returns-in-None-clause-step
returns-in-None-clause-step g c =
    let none = g.met.E.Stored.lawful.missing (g.E.Key.PartialEq.eq c.args.k) (entries c.args.self.now) (rw c.self.view_is at c.in-None.ensures.place) in
    rw none ((_, c.make-value.ensures, refl), (_, c.insert_into.ensures))

pub returns-in-None-clause-allowed : goal.returns-in-None-clause-allowed
returns-in-None-clause-allowed g c =
    let none = g.met.E.Stored.lawful.missing (g.E.Key.PartialEq.eq c.args.k) (entries c.args.self.now) (rw c.self.view_is at c.in-None.ensures.place) in
    c.requires.keeps none c.make-value.result (_, c.make-value.ensures, refl)
