use Rattle.std.proofs.Common.{◌≡◌, ◌+◌, ◌<◌, ◌≤◌, [], ◌∷◌, ◌++◌, ◌∙◌, max, arith, inr}
use Rattle.scc_history.specs.Stamps.{recorded, resized, receipt}
use Rattle.scc_history.proofs.Growing.{grown, Replay-recorded, Replay-resized, Rises-recorded, Rises-resized, RisesTo-push}
use Rattle.scc_calls.proofs.Runs.{changes-by}
use Rattle.scc_history.proofs.Stripe.step.Goals as goal

pub invariant_of-self-in-Err : goal.invariant_of-self-in-Err
invariant_of-self-in-Err g c =
    let m = g.C.Calls in
    let old = c.args.self.now in
    let new = c.call_copied.new.self in
    let stamp = c.in-Some.stamp in
    let next : stamp ≡ max c.args.log.now.clock c.args.self.now.last + 1 = c.in-Some.ensures in
    let e : c.record_refused.new.history.items ≡ old.history.items ++ resized (m.size (m.state old.container)) (m.size (m.state new)) stamp = cc in
    let h : old.last ≤ stamp = omega (arith, next) in
    record {
      replays = grown _ _ _ _ m.means m.resizes m.empty old.opened (m.setting old.container) (m.setting new) (m.state old.container) (m.state new) _ _ _ c.call_copied.ensures.setting e old.replays (Replay-resized _ _ _ (m.means (m.setting old.container)) (m.resizes (m.setting old.container)) m.size (m.state old.container) (m.state new) stamp c.in-Err.ensures.err);
      short = old.short;
      rising = rw e (Rises-resized _ _ old.last (m.size (m.state old.container)) (m.size (m.state new)) stamp old.history.items old.rising h);
    }

pub invariant_of-self-in-Ok : goal.invariant_of-self-in-Ok
invariant_of-self-in-Ok g c =
    let m = g.C.Calls in
    let old = c.args.self.now in
    let new = c.call_copied.new.self in
    let stamp = c.in-Some.stamp in
    let next : stamp ≡ max c.args.log.now.clock c.args.self.now.last + 1 = c.in-Some.ensures in
    let number = c.args.log.now.number in
    let e : c.record_call.new.history.items ≡ old.history.items ++ recorded (m.size (m.state old.container)) (m.size (m.state new)) stamp number c.in-Some-reserve_places.noted c.in-Ok.given = cc in
    let h : old.last < stamp = omega (arith, next) in
    let made = rw c.in-Ok.reply-is at c.in-Ok.ensures.ok in
    let equal = rw (c.in-Ok.reply-is, c.in-Ok.given-is) at c.in-Ok.ensures.copies.0 in
    let same = c.requires.calls c.args.call c.in-Some-reserve_places.noted c.in-Some-reserve_places.ensures.clones.0 in
    let noted = changes-by m.size (m.resizes (m.setting old.container)) (m.moves (m.setting old.container)) (m.means (m.setting old.container)) c.args.call c.in-Some-reserve_places.noted c.in-Ok.reply c.in-Ok.given (m.state old.container) (m.state new) (λ s t h. g.met.C.Calls.means_alike (m.setting old.container) s t c.args.call c.in-Some-reserve_places.noted c.in-Ok.reply c.in-Ok.given g.met.C.Call.PartialEq.laws g.met.C.Reply.PartialEq.laws (inr same) (inr equal) (g.met.C.Calls.moves_mean c.requires.replies (m.setting old.container) s t c.args.call c.in-Ok.reply h)) made in
    record {
      replays = grown _ _ _ _ m.means m.resizes m.empty old.opened (m.setting old.container) (m.setting new) (m.state old.container) (m.state new) _ _ _ c.call_copied.ensures.setting e old.replays (Replay-recorded _ _ _ (m.means (m.setting old.container)) (m.resizes (m.setting old.container)) m.size (m.state old.container) (m.state new) stamp number c.in-Some-reserve_places.noted c.in-Ok.given noted);
      short = omega (arith, next);
      rising = rw e (Rises-recorded _ _ old.last (m.size (m.state old.container)) (m.size (m.state new)) stamp number c.in-Some-reserve_places.noted c.in-Ok.given old.history.items old.rising h);
    }

pub invariant_of-log-in-Ok : goal.invariant_of-log-in-Ok
invariant_of-log-in-Ok g c =
    let old = c.args.log.now in
    let stamp = c.in-Some.stamp in
    let next : stamp ≡ max c.args.log.now.clock c.args.self.now.last + 1 = c.in-Some.ensures in
    let e : c.push_reserved.new.self.items ≡ old.receipts.items ++ receipt c.args.self.now.number stamp c.in-Some-reserve_places.kept c.in-Ok.told ∷ [] = cc in
    let h : old.clock < stamp = omega (arith, next) in
    record { rising = rw e (RisesTo-push _ _ 0 old.clock c.args.self.now.number stamp c.in-Some-reserve_places.kept c.in-Ok.told old.receipts.items old.rising h) }
