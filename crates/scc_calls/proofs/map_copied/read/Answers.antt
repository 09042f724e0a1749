use Rattle.std.proofs.Common.{◌≡◌, Some, refl, sym, ◌∙◌, inr, rules}
use Rattle.std.specs.Cmp.{IsPartialEquivalence}
use Rattle.scc_common.specs.Contents.{entries}
use Rattle.scc_common.specs.Pairs.{find}
use Rattle.scc_owned.proofs.Found.{found-here}
use Rattle.scc_calls.proofs.Copying.{equal-copies}
use Rattle.scc_calls.proofs.MapCopied.{leads-read, leads-unread}
use Rattle.scc_calls.proofs.Runs.{stays-same, when_err}
use Rattle.scc_calls.specs.States.{State, ResizesTo, run_setting, state_of}
use Rattle.scc_calls.specs.declared.replies.Reply.TheVariants.{Value}
use Rattle.scc_calls.proofs.map_copied.read.Goals as goal

pub returns-in_err-noted-in-Some : goal.returns-in_err-noted-in-Some
returns-in_err-noted-in-Some g c =
    let m = c.args.map.now in
    let there = found-here g.K.PartialEq.eq m c.args.k c.in-Some.place c.in-Some.ensures.place _ c.pair_at.ensures in
    record {
      setting = (search rules);
      ok = (search rules);
      copies = (search rules);
      err = (search rules);
      refused = (when_err c.from_residual.result (inr (refl, (state_of m, stays-same (λ (s : State (g.row.K.Denot × g.row.V.Denot)). s.1) (ResizesTo (run_setting m)) (state_of m), rw there c.in_err-noted-in-Some.ensures.refused))));
    }

pub returns-in_default : goal.returns-in_default
returns-in_default g c =
    let m = c.args.map.now in
    let there = found-here g.K.PartialEq.eq m c.args.k c.in-Some.place c.in-Some.ensures.place _ c.pair_at.ensures in
    record {
      setting = (search rules);
      ok = (search rules);
      copies = (search rules);
      err = (search rules);
      refused = (inr (refl, (state_of m, stays-same (λ (s : State (g.row.K.Denot × g.row.V.Denot)). s.1) (ResizesTo (run_setting m)) (state_of m), rw there c.in_default.ensures.cases)));
    }

pub returns-in-Some : goal.returns-in-Some
returns-in-Some g c =
    let m = c.args.map.now in
    let w = c.pair_at.result.1.now in
    let there : find g.K.PartialEq.eq (entries m) c.args.k ≡ Some (c.pair_at.result.0.now, w) = found-here g.K.PartialEq.eq m c.args.k c.in-Some.place c.in-Some.ensures.place _ c.pair_at.ensures in
    let own = c.requires.clones (Value (Some w)) (Value (Some c.in-Ok.own)) c.in-Ok.ensures.cases in
    let noted = c.requires.clones (Value (Some w)) (Value (Some c.in_ok-noted-in-Some.noted)) c.in_ok-noted-in-Some.ensures.ok.0 in
    let kept = c.requires.clones (Value (Some w)) (Value (Some c.in_ok-noted-in-Some.kept)) c.in_ok-noted-in-Some.ensures.ok.1 in
    record {
      setting = (search rules);
      ok = (leads-read g.K.PartialEq.eq g.V.Clone.is_clone m c.args.k c.pair_at.result.0.now w c.in-Ok.own there c.in-Ok.ensures.cases);
      copies = (equal-copies c.requires.clones c.equals.ensures (Value (Some w)) (Value (Some c.in-Ok.own)) (Value (Some c.in_ok-noted-in-Some.noted)) own noted, equal-copies c.requires.clones c.equals.ensures (Value (Some w)) (Value (Some c.in-Ok.own)) (Value (Some c.in_ok-noted-in-Some.kept)) own kept);
      err = (search rules);
      refused = (search rules);
    }

pub returns : goal.returns
returns g c =
    record {
      setting = (search rules);
      ok = (leads-unread g.K.PartialEq.eq g.V.Clone.is_clone c.args.map.now c.args.k c.in-None.ensures.place);
      copies = (search rules);
      err = (search rules);
      refused = (search rules);
    }
