use Rattle.std.proofs.Common.{Ok, ap, refl, sym}
use Rattle.std.specs.Fn.{FnOnceReturnsAt}
use Rattle.scc_owned_cache.specs.KeyCalls.{found}
use Rattle.scc_owned_cache.proofs.Kept.{kept-present, last-is, last-present, recalls-made}
use Rattle.scc_owned_cache.proofs.Owned.get_or_try_put_with.Goals as goal

pub returns-in-Some-clause-step : goal.returns-in-Some-clause-step
returns-in-Some-clause-step g c = let s = c.in-Some.ensures.step in found c.in-Some.place s (sym (ap (λ p. p.1) (last-is g.K.PartialEq.eq _ c.args.self.now c.args.k _ c.in-Some.place s _ c.pair_at.ensures.pair)))

pub returns-in-Some-clause-kept : goal.returns-in-Some-clause-kept
returns-in-Some-clause-kept g c =
    let here = last-present g.K.PartialEq.eq _ c.args.self.now c.args.k _ c.in-Some.place c.in-Some.ensures.step _ c.pair_at.ensures.pair in
    (kept-present g.K.PartialEq.eq g.R.Rule.holds g.met.R.Rule.alike g.met.K.Eq.laws.symm _ c.args.self.now c.args.k _ here c.pair_at.ensures.kept).2

pub put_new-requires-clause-kept : goal.put_new-requires-clause-kept
put_new-requires-clause-kept g c = c.requires.keeps c.in-Ok.value (_, c.in-Ok.ensures, refl)

pub returns-in-Ok-clause-step : goal.returns-in-Ok-clause-step
returns-in-Ok-clause-step g c =
    let made : FnOnceReturnsAt g.F.FnOnce c.args.make c.args.k (Ok c.in-Ok.value) = (_, c.in-Ok.ensures, refl) in
    recalls-made _ g.K.PartialEq.eq (λ v. FnOnceReturnsAt g.F.FnOnce c.args.make c.args.k (Ok v)) c.args.self.now c.args.k c.in-Ok.value _ c.put_new.result c.in-None.ensures.step.0.absent made (rw c.in-None.ensures.step.1 at c.put_new.ensures.step) (rw c.in-None.ensures.step.1 at c.put_new.ensures.refused)

pub returns-in-Ok-clause-kept : goal.returns-in-Ok-clause-kept
returns-in-Ok-clause-kept g c = c.requires.keeps c.in-Ok.value (_, c.in-Ok.ensures, refl)

pub returns-in-Err-clause-failed : goal.returns-in-Err-clause-failed
returns-in-Err-clause-failed g c = ((_, c.in-Err.ensures, refl), c.in-None.ensures.step.1)
