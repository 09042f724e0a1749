use Rattle.std.proofs.Common.{◌≡◌, Some, refl, sym, ap, ◌∙◌, inr, rules}
use Rattle.scc_common.specs.Pairs.{find}
use Rattle.scc_common.specs.Contents.{entries}
use Rattle.scc_owned.proofs.Found.{found-equal, found-here, found-swapped}
use Rattle.scc_calls.proofs.MapCopied.{leads-swapped}
use Rattle.scc_calls.proofs.Runs.{stays-same, when_err}
use Rattle.scc_calls.specs.States.{State, ResizesTo, run_setting, run_setting_by, state_of}
use Rattle.scc_calls.specs.declared.replies.Reply.TheVariants.{Key}
use Rattle.scc_calls.proofs.map_copied.replace.Goals as goal

pub replace_key_at-old-requires-clause-same : goal.replace_key_at-old-requires-clause-same
replace_key_at-old-requires-clause-same g c = λ p got. found-equal g.K.PartialEq.eq c.args.map.now c.args.k c.in-Some.place c.in-Some.ensures.place p got

pub returns-in_err-noted-in-Some : goal.returns-in_err-noted-in-Some
returns-in_err-noted-in-Some g c =
    let m = c.args.map.now in
    let there = found-here g.K.PartialEq.eq m c.args.k c.in-Some.place c.in-Some.ensures.place _ c.pair_at.ensures in
    record {
      setting = (search rules);
      ok = (search rules);
      copies = (search rules);
      err = (search rules);
      refused = (when_err c.from_residual.result (inr (refl, (state_of m, stays-same (λ (s : State (g.row.K.Denot × g.row.V.Denot)). s.1) (ResizesTo (run_setting m)) (state_of m), rw there c.in_err-noted-in-Some.ensures.refused))));
    }

pub returns-in_ok-noted-in-Some : goal.returns-in_ok-noted-in-Some
returns-in_ok-noted-in-Some g c =
    let m = c.args.map.now in
    let at = c.in-Some.ensures in
    let w = c.replace_key_at-old.ensures.old in
    let same : Some w.0 ≡ Some (c.pair_at.result.0.now, c.pair_at.result.1.now) = sym w.1 ∙ c.pair_at.ensures in
    let both : w.0 ≡ (c.pair_at.result.0.now, c.pair_at.result.1.now) = cc in
    let key : c.replace_key_at-old.result ≡ c.pair_at.result.0.now = w.2 ∙ ap (λ (x : g.row.K.Denot × g.row.V.Denot). x.0) both in
    let there : find g.K.PartialEq.eq (entries m) c.args.k ≡ Some (c.replace_key_at-old.result, w.0.1) = found-here g.K.PartialEq.eq m c.args.k c.in-Some.place at.place w.0 w.1 ∙ ap (λ x. Some (x, w.0.1)) (sym w.2) in
    record {
      setting = rw c.replace_key_at-old.ensures.new (ap run_setting_by (found-swapped g.K.PartialEq.eq m c.args.k c.in-Some.place at.place g.met.K.Eq.laws at.unique).settings);
      ok = rw c.replace_key_at-old.ensures.new (leads-swapped g.K.PartialEq.eq g.V.Clone.is_clone m c.args.k _ c.replace_key_at-old.result w.0.1 there (found-swapped g.K.PartialEq.eq m c.args.k c.in-Some.place at.place g.met.K.Eq.laws at.unique));
      copies = rw key (c.requires.clones (Key (Some c.pair_at.result.0.now)) (Key (Some c.in_ok-noted-in-Some.noted)) c.in_ok-noted-in-Some.ensures.ok.0, c.requires.clones (Key (Some c.pair_at.result.0.now)) (Key (Some c.in_ok-noted-in-Some.kept)) c.in_ok-noted-in-Some.ensures.ok.1);
      err = (search rules);
      refused = (search rules);
    }
