use Rattle.std.proofs.Common.{◌≡◌, ◌+◌, arith, max}
use Rattle.scc_history.specs.Stamps.{calls_in}
use Rattle.scc_recorded.proofs.Adding.{may-answer}
use Rattle.scc_history.proofs.Growing.{calls_in-recorded, calls_in-resized}
use Rattle.scc_recorded.proofs.counted.CountedStripe.call_counted.Goals as goal

pub invariant_of-self : goal.invariant_of-self
invariant_of-self g c =
    let m = g.C.Calls in
    let old = c.args.self.now in
    let new = c.step.new.self in
    let same = c.in_err-reply.ensures.same.0 in
    let log = c.args.pass.now.log in
    let e : calls_in new.history.items ≡ calls_in old.stripe.history.items = calls_in-resized _ _ (m.size (m.state old.stripe.container)) (m.size (m.state new.container)) (max log.clock old.stripe.last + 1) _ _ c.in_err-reply.ensures.resize in
    record { placed = rw same old.placed; part = old.part; counted = omega (arith, e, old.counted) }

pub invariant_of-self-2 : goal.invariant_of-self-2
invariant_of-self-2 g c =
    let m = g.C.Calls in
    let old = c.args.self.now in
    let new = c.step.new.self in
    let same = c.in_ok-reply.ensures.same.0 in
    let e : calls_in new.history.items ≡ calls_in old.stripe.history.items + 1 = calls_in-recorded _ _ (m.size (m.state old.stripe.container)) (m.size (m.state new.container)) new.last c.args.pass.now.log.number c.in_ok-reply.ensures.history.0 c.in_ok-reply.ensures.history.1 _ _ c.in_ok-reply.ensures.history.3 in
    record {
      placed = rw same old.placed;
      part = omega (arith, c.add.ensures.stripe.0, old.part);
      counted = omega (arith, c.add.ensures.stripe.1, old.counted, e);
    }

pub returns-clause-answers : goal.returns-clause-answers
returns-clause-answers g c = may-answer g.C.Calls.moves c.args.call _ g.C.Calls.size (g.C.Calls.resizes _) _ _ c.in_ok-reply.reply c.in_ok-reply.ensures.step
