use Rattle.std.proofs.Common.{◌∙◌, inl, inr, rules}
use Rattle.scc_calls.proofs.Readying.{ready-changes, ready-stays}
use Rattle.scc_calls.proofs.Runs.{when_err}
use Rattle.scc_calls.specs.Calling.{MayNotReply}
use Rattle.scc_calls.proofs.calling.Calls.call_copied.Goals as goal

pub returns-in_err-noted : goal.returns-in_err-noted
returns-in_err-noted g c =
    let m = g.Self.Calls in
    record {
      setting = c.ready.ensures.setting;
      ok = (search rules);
      copies = (search rules);
      err = when_err c.from_residual.result c.ready.ensures.stays;
      refused = when_err c.from_residual.result (elim c.in_err-noted.ensures.refused [
        | inl may ↦ inl may
        | inr clone ↦ inr (clone.0, (m.state c.ready.new.self, c.ready.ensures.stays, rw c.ready.ensures.setting at clone.1))
      ]);
    }

pub returns-in_err-reply : goal.returns-in_err-reply
returns-in_err-reply g c =
    let m = g.Self.Calls in
    let g0 = m.setting c.args.self.now in
    let old = m.state c.args.self.now in
    let mid = m.state c.ready.new.self in
    let new = m.state c.call.new.self in
    record {
      setting = c.call.ensures.setting ∙ c.ready.ensures.setting;
      ok = (search rules);
      copies = (search rules);
      err = when_err c.from_residual-in_err-reply.result (ready-stays m.size (m.resizes g0) old mid new c.ready.ensures.stays c.ready.ensures.grows (λ ne. c.call.ensures.kept (c.ready.ensures.adds ne)) (c.call.ensures.made c.in_ok-noted.noted c.in_ok-noted.ensures.ready.0) (rw c.ready.ensures.setting at c.in_err-reply.ensures.err));
      refused = when_err c.from_residual-in_err-reply.result (elim (rw c.ready.ensures.setting at c.in_err-reply.ensures.refused) [
        | inl may ↦ inl (c.ready.ensures.still may)
        | inr clone ↦ inr (clone.0, (mid, c.ready.ensures.stays, clone.1))
      ]);
    }

pub returns : goal.returns
returns g c =
    let m = g.Self.Calls in
    let g0 = m.setting c.args.self.now in
    let old = m.state c.args.self.now in
    let mid = m.state c.ready.new.self in
    let new = m.state c.call.new.self in
    record {
      setting = c.call.ensures.setting ∙ c.ready.ensures.setting;
      ok = ready-changes m.size (m.resizes g0) (m.moves g0) c.args.call c.in_ok-reply.reply old mid new c.ready.ensures.stays c.ready.ensures.grows (λ ne. c.call.ensures.kept (c.ready.ensures.adds ne)) (c.call.ensures.made c.in_ok-noted.noted c.in_ok-noted.ensures.ready.0) (rw c.ready.ensures.setting at c.in_ok-reply.ensures.ok);
      copies = (c.in_ok-reply.ensures.answer c.in_ok-noted.noted c.in_ok-noted.ensures.ready.0, c.in_ok-reply.ensures.answer c.in_ok-noted.kept c.in_ok-noted.ensures.ready.1);
      err = (search rules);
      refused = (search rules);
    }
