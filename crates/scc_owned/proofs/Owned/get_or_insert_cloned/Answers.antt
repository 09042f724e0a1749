use Rattle.std.proofs.Common.{◌≡◌, ◌∙◌, Ok, Some, ap, inl, inr, refl, subst, sym}
use Rattle.std.proofs.lemmas.Result.{MatchResult-weaker}
use Rattle.scc_common.specs.Contents.{entries}
use Rattle.scc_owned.proofs.GetSteps.{get-allowed, get-found}
use Rattle.scc_owned.proofs.Owned.get_or_insert_cloned.Goals as goal

pub entry_at-requires : goal.entry_at-requires
entry_at-requires g c = let at = rw c.self.view_is at c.in-Some.ensures.place in at.within

pub returns-in-Some-clause-step : goal.returns-in-Some-clause-step
returns-in-Some-clause-step g c =
    let at = rw c.self.view_is at c.in-Some.ensures.place in
    rw (get-found g.met.E.Stored.lawful g.E.Key.PartialEq.eq c.args.self.now c.args.k c.in-Some.place at c.entry_at.result.now c.entry_at.ensures.entry, ← c.read.ensures.value) (c.clone.ensures.cases, refl)

pub returns-in-Some-clause-allowed : goal.returns-in-Some-clause-allowed
returns-in-Some-clause-allowed g c = λ clones.
    let at = rw c.self.view_is at c.in-Some.ensures.place in
    let held = get-allowed g.met.E.Stored.lawful g.E.Key.PartialEq.eq c.args.self.now c.args.k c.in-Some.place at c.entry_at.result.now c.entry_at.ensures.entry g.met.E.Key.Eq.laws g.E.Stored.allows g.met.E.Stored.alike _ _ c.read.ensures.key c.read.ensures.allowed in
    MatchResult-weaker c.clone.result c.clone.ensures.cases (λ w e. clones _ w held e) (λ _ _. tt)

pub make-value-requires : goal.make-value-requires
make-value-requires g c =
    let none = g.met.E.Stored.lawful.missing (g.E.Key.PartialEq.eq c.args.k) (entries c.args.self.now) (rw c.self.view_is at c.in-None.ensures.place) in
    c.requires.callable none _ refl

pub insert_into-requires-clause-absent : goal.insert_into-requires-clause-absent
insert_into-requires-clause-absent g c = rw c.self.view_is at c.in-None.ensures.place

pub insert_into-requires-clause-allowed : goal.insert_into-requires-clause-allowed
insert_into-requires-clause-allowed g c =
    let none = g.met.E.Stored.lawful.missing (g.E.Key.PartialEq.eq c.args.k) (entries c.args.self.now) (rw c.self.view_is at c.in-None.ensures.place) in
    c.requires.keeps none c.make-value.result (_, c.make-value.ensures, refl)

pub returns-in-Ok-clause-step : goal.returns-in-Ok-clause-step
returns-in-Ok-clause-step g c =
    let none = g.met.E.Stored.lawful.missing (g.E.Key.PartialEq.eq c.args.k) (entries c.args.self.now) (rw c.self.view_is at c.in-None.ensures.place) in
    let made = g.E.Stored.lookups.made c.args.k c.make-value.result in
    let both : Some c.entry_at-in-Ok.result.now ≡ Some made = sym c.entry_at-in-Ok.ensures.entry ∙ c.in-Ok.ensures.ok.here in
    let is : c.entry_at-in-Ok.result.now ≡ made = cc in
    rw none (c.make-value.result, (_, c.make-value.ensures, refl), inl (_, c.in-Ok.ensures, rw (← is, ← c.read-in-Ok.ensures.value) c.clone-in-Ok.ensures.cases))

pub returns-in-Err-clause-step : goal.returns-in-Err-clause-step
returns-in-Err-clause-step g c =
    let none = g.met.E.Stored.lawful.missing (g.E.Key.PartialEq.eq c.args.k) (entries c.args.self.now) (rw c.self.view_is at c.in-None.ensures.place) in
    let put = rw c.in-Err.is at c.insert_into.ensures in
    rw none (c.make-value.result, (_, c.make-value.ensures, refl), inr (_, put, ap (λ q. Ok q.1) put.refused))

pub returns-in-Err-clause-allowed : goal.returns-in-Err-clause-allowed
returns-in-Err-clause-allowed g c = λ clones.
    let none = g.met.E.Stored.lawful.missing (g.E.Key.PartialEq.eq c.args.k) (entries c.args.self.now) (rw c.self.view_is at c.in-None.ensures.place) in
    let put = rw c.in-Err.is at c.insert_into.ensures in
    subst (g.E.Stored.allows c.args.k) (sym (ap (λ q. q.1) put.refused)) (c.requires.keeps none c.make-value.result (_, c.make-value.ensures, refl))
