use Rattle.std.proofs.Common.{◌≡◌, ◌<◌, true, false, inl, inr, refl, arith, ◌∙◌}
use Rattle.std.proofs.Math.Logic.{∥∥₁_elim}
use Rattle.scc_calls.specs.declared.fixed.Setting.{Setting}
use Rattle.scc_history.specs.Stamps.{receipt}
use Rattle.scc_recorded.specs.Adds.{IsOf, MayAnswer}
use Rattle.scc_recorded.proofs.Adding.{adds_none, adds_more, may-answer-alike, same-error}
use Rattle.scc_recorded.proofs.Recorded.clear.Goals as goal

pub loop-i-init : goal.loop-i-init
loop-i-init g c = record { number = refl; adds = adds_none _ _ _ c.args.pass.now.log.clock _ }

pub loop-i-preserved : goal.loop-i-preserved
loop-i-preserved g c =
    let m = g.C.Calls in
    let word = g.C.WholeCalls.clears in
    let ok = c.in_default.ensures.ok in
    let made = ok.1 in
    let given = c.in_default.field-0 in
    let like : (k : Setting _) (s t : m.State) → m.moves k s word given t → m.means k s word made.1 t = λ k s t h. g.met.C.Calls.means_alike k s t word word given made.1 g.met.C.Call.PartialEq.laws g.met.C.Reply.PartialEq.laws (inl refl) (inr made.2.1) (g.met.C.Calls.moves_mean c.requires.replies k s t word given h) in
    let may : MayAnswer m.moves word given = rw c.clear_call.ensures at c.in_default.ensures.answers in
    let such : g.C.Call.Clone.is_clone word made.0 = rw c.clear_call.ensures at made.2.0 in
    record {
      number = c.in_default.ensures.number ∙ c.loop-i.invariant.number;
      adds = adds_more _ _ (IsOf g.C.Call.Clone.is_clone m.means word) c.args.pass.now.log.clock c.loop-i.pass.log.clock c.loop-i.i (receipt c.locked_stripe-cleared.result.now.number c.call_locked.new.pass.log.clock made.0 made.1)
          c.args.pass.now.log.receipts.items c.loop-i.pass.log.receipts.items c.call_locked.new.pass.log.receipts.items c.loop-i.invariant.adds made.3 c.locked_stripe-cleared.ensures ok.0 (such, may-answer-alike m.moves word m.means given made.1 like may);
    }

pub returns-in-Err-clause-err : goal.returns-in-Err-clause-err
returns-in-Err-clause-err g c =
    let n : c.loop-i.i < c.args.self.now.stripes = omega arith in
    let e = c.in-Err.ensures.err in
    (c.loop-i.i, n, rw (e.0, e.1) c.loop-i.invariant.adds)

pub returns-in-Err-clause-room : goal.returns-in-Err-clause-room
returns-in-Err-clause-room g c e =
    let refused = c.in-Err.ensures.refused (same-error c.in-Err.error e) in
    ∥∥₁_elim (rw c.clear_call.ensures at refused) (λ x. absurd x) (λ r. elim r.2 as (λ _. ⊥) [
      | inl m ↦ (g.met.C.WholeCalls.never_refused r.0 r.1).0 m
      | inr k ↦ let none = g.met.C.WholeCalls.clears_all.0 in absurd (let h : false ≡ true = rw none at k.0 in cc)
    ])
