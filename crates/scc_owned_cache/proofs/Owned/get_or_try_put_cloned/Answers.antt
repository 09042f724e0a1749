use Rattle.std.proofs.Common.{Ok, Err, refl}
use Rattle.std.specs.Fn.{FnOnceReturnsAt}
use Rattle.scc_owned_cache.specs.KeyCalls.{again, cloned, missing, uncloned, unstored}
use Rattle.scc_owned_cache.proofs.Kept.{if-err, if-ok, kept-present, last-is, last-present, recalls-clone}
use Rattle.scc_owned_cache.proofs.Owned.get_or_try_put_cloned.Goals as goal

pub returns-in-Ok-clause-step : goal.returns-in-Ok-clause-step
returns-in-Ok-clause-step g c =
    let s = c.in-Some.ensures.step in
    let is = last-is g.K.PartialEq.eq _ c.args.self.now c.args.k _ c.in-Some.place s _ c.pair_at.ensures.pair in
    cloned c.in-Some.place s (rw is c.in-Ok.ensures.cases)

pub returns-in-Ok-clause-kept : goal.returns-in-Ok-clause-kept
returns-in-Ok-clause-kept g c =
    let here = last-present g.K.PartialEq.eq _ c.args.self.now c.args.k _ c.in-Some.place c.in-Some.ensures.step _ c.pair_at.ensures.pair in
    c.requires.clones c.pair_at.result.1.now c.in-Ok.value ((kept-present g.K.PartialEq.eq g.R.Rule.holds g.met.R.Rule.alike g.met.K.Eq.laws.symm _ c.args.self.now c.args.k _ here c.pair_at.ensures.kept).2) c.in-Ok.ensures.cases

pub returns-in-Some-clause-step : goal.returns-in-Some-clause-step
returns-in-Some-clause-step g c =
    let s = c.in-Some.ensures.step in
    let is = last-is g.K.PartialEq.eq _ c.args.self.now c.args.k _ c.in-Some.place s _ c.pair_at.ensures.pair in
    if-ok c.make.result _ (λ v it. again c.in-Some.place s (rw is c.in-Err.ensures.cases) (_, rw it at c.make.ensures, refl))

pub returns-in-Some-clause-kept : goal.returns-in-Some-clause-kept
returns-in-Some-clause-kept g c = if-ok c.make.result (g.R.Rule.holds c.args.k) (λ v is. c.requires.keeps v (_, rw is at c.make.ensures, refl))

pub returns-in-Some-clause-failed : goal.returns-in-Some-clause-failed
returns-in-Some-clause-failed g c =
    let s = c.in-Some.ensures.step in
    let is = last-is g.K.PartialEq.eq _ c.args.self.now c.args.k _ c.in-Some.place s _ c.pair_at.ensures.pair in
    if-err c.make.result _ (λ e it. ((_, rw it at c.make.ensures, refl), uncloned c.in-Some.place s (rw is c.in-Err.ensures.cases)))

pub put_new-requires-clause-kept : goal.put_new-requires-clause-kept
put_new-requires-clause-kept g c = c.requires.keeps c.in-Ok-make.value (_, c.in-Ok-make.ensures, refl)

pub returns-in-Ok-clone-clause-step : goal.returns-in-Ok-clone-clause-step
returns-in-Ok-clone-clause-step g c =
    let made : FnOnceReturnsAt g.F.FnOnce c.args.make c.args.k (Ok c.in-Ok-make.value) = (_, c.in-Ok-make.ensures, refl) in
    recalls-clone _ g.K.PartialEq.eq g.V.Clone.is_clone g.V.Clone.is_infallible (λ w. FnOnceReturnsAt g.F.FnOnce c.args.make c.args.k (Ok w)) c.args.self.now c.args.k c.in-Ok-make.value c.in-Ok-clone.copy _ c.put_new.result c.in-None.ensures.step.0.absent made c.in-Ok-clone.ensures.cases (rw c.in-None.ensures.step.1 at c.put_new.ensures.step) (rw c.in-None.ensures.step.1 at c.put_new.ensures.refused)

pub returns-in-Ok-clone-clause-kept : goal.returns-in-Ok-clone-clause-kept
returns-in-Ok-clone-clause-kept g c = c.requires.clones c.in-Ok-make.value c.in-Ok-clone.copy (c.requires.keeps c.in-Ok-make.value (_, c.in-Ok-make.ensures, refl)) c.in-Ok-clone.ensures.cases

pub returns-in-Ok-make-clause-step : goal.returns-in-Ok-make-clause-step
returns-in-Ok-make-clause-step g c = unstored (_, c.in-Ok-make.ensures, refl) c.in-Err-clone.ensures.cases c.in-None.ensures.step.0.absent c.in-None.ensures.step.1

pub returns-in-Ok-make-clause-kept : goal.returns-in-Ok-make-clause-kept
returns-in-Ok-make-clause-kept g c = c.requires.keeps c.in-Ok-make.value (_, c.in-Ok-make.ensures, refl)

pub returns-clause-failed : goal.returns-clause-failed
returns-clause-failed g c = ((_, c.in-Err-make.ensures, refl), missing c.in-None.ensures.step.0.absent c.in-None.ensures.step.1)
