use Rattle.std.proofs.Common.{ap, refl, sym}
use Rattle.std.specs.Fn.{FnOnceReturnsAt}
use Rattle.scc_owned_cache.specs.KeyCalls.{found}
use Rattle.scc_owned_cache.proofs.Kept.{kept-present, last-is, last-present, recalls-made}
use Rattle.scc_owned_cache.proofs.Owned.get_or_put_with.Goals as goal

pub returns-in-Some : goal.returns-in-Some
returns-in-Some g c =
    let s = c.in-Some.ensures.step in
    let here = last-present g.K.PartialEq.eq _ c.args.self.now c.args.k _ c.in-Some.place s _ c.pair_at.ensures.pair in
    record {
      step = found c.in-Some.place s (sym (ap (λ p. p.1) (last-is g.K.PartialEq.eq _ c.args.self.now c.args.k _ c.in-Some.place s _ c.pair_at.ensures.pair)));
      kept = (kept-present g.K.PartialEq.eq g.R.Rule.holds g.met.R.Rule.alike g.met.K.Eq.laws.symm _ c.args.self.now c.args.k _ here c.pair_at.ensures.kept).2;
    }

pub put_new-requires-clause-kept : goal.put_new-requires-clause-kept
put_new-requires-clause-kept g c = c.requires.keeps c.make-value.result (_, c.make-value.ensures, refl)

pub returns-in-None : goal.returns-in-None
returns-in-None g c =
    let made : FnOnceReturnsAt g.F.FnOnce c.args.make c.args.k c.make-value.result = (_, c.make-value.ensures, refl) in
    record {
      step = recalls-made _ g.K.PartialEq.eq (FnOnceReturnsAt g.F.FnOnce c.args.make c.args.k) c.args.self.now c.args.k c.make-value.result _ c.put_new.result c.in-None.ensures.step.0.absent made (rw c.in-None.ensures.step.1 at c.put_new.ensures.step) (rw c.in-None.ensures.step.1 at c.put_new.ensures.refused);
      kept = c.requires.keeps c.make-value.result made;
    }
