use Rattle.std.proofs.Common.{rules, ◌≡◌, ◌∙◌, ◌++◌, ◌∷◌, [], suc, refl, sym, ap, drop, length, arith, append_assoc, append-nil, length-append, add-one, drop-cons, inl, inr}
use Rattle.std.proofs.lemmas.Option.{slice_get_read}
use Rattle.scc_calls.specs.Copies.{ByClone}
use Rattle.scc_calls.specs.Run.{done}
use Rattle.scc_calls.proofs.Runs.{changes, changes-by, rests, stays-same, when_err}
use Rattle.scc_calls.proofs.running.run.Goals as goal

pub returns-then-is_err-clause-run : goal.returns-then-is_err-clause-run
returns-then-is_err-clause-run g c = ([], rw append-nil c.reserve.ensures.items, done)

pub loop-call-init : goal.loop-call-init
loop-call-init g c = record {
  setting = refl;
  made = ([], rw append-nil c.reserve.ensures.items, refl, λ more t r. r);
  room = search rules;
}

pub returns-in_err-reply-clause-run : goal.returns-in_err-reply-clause-run
returns-in_err-reply-clause-run g c =
    let m = c.loop-call.invariant.made in
    let rest = rw c.loop-call.invariant.setting at c.in_err-reply.ensures.err in
    (m.0, m.1, rw append-nil at (m.3 [] (g.C.Calls.state c.call.new.self) (rests g.C.Calls.size rest done)))

pub returns-in_err-reply-clause-err : goal.returns-in_err-reply-clause-err
returns-in_err-reply-clause-err g c =
    let m = c.loop-call.invariant.made in
    let here = slice_get_read c.args.calls.now (length c.args.calls.now) c.loop-call.call-index c.call-item.result refl c.loop-call-test.true c.call-item.is in
    when_err c.from_residual.result (inr (
      m.0,
      m.1,
      record {
        reached = g.C.Calls.state c.loop-call.c;
        call = c.call-item.result;
        run = rw append-nil at (m.3 [] (g.C.Calls.state c.loop-call.c) done);
        next = rw m.2 here;
        refusal = inr (c.in-Ok.copy, c.in-Ok.ensures.cases, rw c.loop-call.invariant.setting at c.in_err-reply.ensures.refused);
        rest = rw c.loop-call.invariant.setting at c.in_err-reply.ensures.err;
      },
    ))

pub returns-in_default-clause-run : goal.returns-in_default-clause-run
returns-in_default-clause-run g c =
    let m = c.loop-call.invariant.made in
    (m.0, m.1, rw append-nil at (m.3 [] (g.C.Calls.state c.loop-call.c) done))

pub returns-in_default-clause-err : goal.returns-in_default-clause-err
returns-in_default-clause-err g c =
    let m = c.loop-call.invariant.made in
    let here = slice_get_read c.args.calls.now (length c.args.calls.now) c.loop-call.call-index c.call-item.result refl c.loop-call-test.true c.call-item.is in
    inr (
      m.0,
      m.1,
      record {
        reached = g.C.Calls.state c.loop-call.c;
        call = c.call-item.result;
        run = rw append-nil at (m.3 [] (g.C.Calls.state c.loop-call.c) done);
        next = rw m.2 here;
        refusal = inl (search rules);
        rest = stays-same g.C.Calls.size (g.C.Calls.resizes (g.C.Calls.setting c.args.c.now)) (g.C.Calls.state c.loop-call.c);
      },
    )

pub loop-call-preserved : goal.loop-call-preserved
loop-call-preserved g c =
    let m = c.loop-call.invariant.made in
    let items : c.push.new.self.items ≡ c.loop-call.replies.items ++ c.in_ok-reply.reply ∷ [] = rw c.unwrap.ensures at c.push.ensures.items in
    let rest : drop c.loop-call.call-index c.args.calls.now ≡ c.call-item.result ∷ drop (suc c.loop-call.call-index) c.args.calls.now =
    drop-cons c.args.calls.now c.loop-call.call-index c.call-item.result c.loop-call-test.true ∙ ap (λ x. x ∷ drop (suc c.loop-call.call-index) c.args.calls.now) (sym c.call-item.is) in
    let made = rw c.loop-call.invariant.setting at c.in_ok-reply.ensures.ok in
    let old = g.C.Calls.state c.loop-call.c in
    let new = g.C.Calls.state c.call.new.self in
    let setting = g.C.Calls.setting c.args.c.now in
    let step = changes-by g.C.Calls.size (g.C.Calls.resizes setting) (g.C.Calls.moves setting) (ByClone g.C.Call.Clone.is_clone (g.C.Calls.moves setting)) c.in-Ok.copy c.call-item.result c.in_ok-reply.reply c.in_ok-reply.reply old new (λ s t h. (c.in-Ok.copy, c.in-Ok.ensures.cases, h)) made in
    record {
      setting = c.call.ensures.setting ∙ c.loop-call.invariant.setting;
      made = (
        m.0 ++ c.in_ok-reply.reply ∷ [],
        items ∙ ap (λ l. l ++ c.in_ok-reply.reply ∷ []) m.1 ∙ append_assoc c.args.replies.now.items m.0 (c.in_ok-reply.reply ∷ []),
        rw length-append (omega (arith, m.2)),
        λ more t r. rw append_assoc (m.3 (c.in_ok-reply.reply ∷ more) t (rw rest (changes g.C.Calls.size step (rw add-one at r)))),
      );
      room = omega (arith, c.loop-call.invariant.room, c.push.ensures.capacity);
    }

pub returns-clause-run : goal.returns-clause-run
returns-clause-run g c =
    let m = c.loop-call.invariant.made in
    (m.0, m.1, rw append-nil at (m.3 [] (g.C.Calls.state c.loop-call.c) done))
