use Rattle.std.proofs.Common.{refl}
use Rattle.std.specs.Fn.{FnOnceReturnsAt}
use Rattle.scc_owned_cache.specs.KeyCalls.{again, cloned, unstored}
use Rattle.scc_owned_cache.proofs.Kept.{kept-present, last-is, last-present, recalls-clone}
use Rattle.scc_owned_cache.proofs.Owned.get_or_put_cloned.Goals as goal

pub returns-in-Ok : goal.returns-in-Ok
returns-in-Ok g c =
    let s = c.in-Some.ensures.step in
    let here = last-present g.K.PartialEq.eq _ c.args.self.now c.args.k _ c.in-Some.place s _ c.pair_at.ensures.pair in
    let is = last-is g.K.PartialEq.eq _ c.args.self.now c.args.k _ c.in-Some.place s _ c.pair_at.ensures.pair in
    record {
      step = cloned c.in-Some.place s (rw is c.in-Ok.ensures.cases);
      kept = c.requires.clones c.pair_at.result.1.now c.in-Ok.value ((kept-present g.K.PartialEq.eq g.R.Rule.holds g.met.R.Rule.alike g.met.K.Eq.laws.symm _ c.args.self.now c.args.k _ here c.pair_at.ensures.kept).2) c.in-Ok.ensures.cases;
    }

pub returns-in-Some : goal.returns-in-Some
returns-in-Some g c =
    let s = c.in-Some.ensures.step in
    let is = last-is g.K.PartialEq.eq _ c.args.self.now c.args.k _ c.in-Some.place s _ c.pair_at.ensures.pair in
    record { step = again c.in-Some.place s (rw is c.in-Err.ensures.cases) (_, c.make.ensures, refl); kept = c.requires.keeps c.make.result (_, c.make.ensures, refl) }

pub put_new-requires-clause-kept : goal.put_new-requires-clause-kept
put_new-requires-clause-kept g c = c.requires.keeps c.make-value.result (_, c.make-value.ensures, refl)

pub returns-in-Ok-clone : goal.returns-in-Ok-clone
returns-in-Ok-clone g c =
    let made : FnOnceReturnsAt g.F.FnOnce c.args.make c.args.k c.make-value.result = (_, c.make-value.ensures, refl) in
    record {
      step = recalls-clone _ g.K.PartialEq.eq g.V.Clone.is_clone g.V.Clone.is_infallible (FnOnceReturnsAt g.F.FnOnce c.args.make c.args.k) c.args.self.now c.args.k c.make-value.result c.in-Ok-clone.copy _ c.put_new.result c.in-None.ensures.step.0.absent made c.in-Ok-clone.ensures.cases (rw c.in-None.ensures.step.1 at c.put_new.ensures.step) (rw c.in-None.ensures.step.1 at c.put_new.ensures.refused);
      kept = c.requires.clones c.make-value.result c.in-Ok-clone.copy (c.requires.keeps c.make-value.result made) c.in-Ok-clone.ensures.cases;
    }

pub returns : goal.returns
returns g c = record { step = unstored (_, c.make-value.ensures, refl) c.in-Err-clone.ensures.cases c.in-None.ensures.step.0.absent c.in-None.ensures.step.1; kept = c.requires.keeps c.make-value.result (_, c.make-value.ensures, refl) }
