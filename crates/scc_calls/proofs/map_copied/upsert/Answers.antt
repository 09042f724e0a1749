use Rattle.std.proofs.Common.{◌≡◌, Some, refl, sym, ap, ◌∙◌, inl, inr, rules}
use Rattle.scc_common.specs.Pairs.{find}
use Rattle.scc_common.specs.Contents.{entries}
use Rattle.scc_owned.proofs.Found.{found-here, found-written}
use Rattle.scc_calls.proofs.MapCopied.{leads-upserted, leads-written, rests-setting, rests-stays}
use Rattle.scc_calls.proofs.Runs.{stays-same, when_err}
use Rattle.scc_calls.specs.States.{State, ResizesTo, run_setting, run_setting_by, state_of}
use Rattle.scc_calls.specs.declared.replies.Reply.TheVariants.{Old}
use Rattle.scc_calls.proofs.map_copied.upsert.Goals as goal
use Rattle.scc_calls.proofs.map_copied.upsert.Goals.{in-Ok, in-Err}

pub returns-in_err-noted-in-Some : goal.returns-in_err-noted-in-Some
returns-in_err-noted-in-Some g c =
    let m = c.args.map.now in
    let there = found-here g.K.PartialEq.eq m c.args.k c.in-Some.place c.in-Some.ensures.place _ c.pair_at.ensures in
    record {
      setting = (search rules);
      ok = (search rules);
      copies = (search rules);
      err = (search rules);
      refused = (when_err c.from_residual.result (inr (refl, (state_of m, stays-same (λ (s : State (g.row.K.Denot × g.row.V.Denot)). s.1) (ResizesTo (run_setting m)) (state_of m), rw there c.in_err-noted-in-Some.ensures.refused))));
    }

pub returns-in_ok-noted-in-Some : goal.returns-in_ok-noted-in-Some
returns-in_ok-noted-in-Some g c =
    let m = c.args.map.now in
    let at = c.in-Some.ensures in
    let w = c.write_at-old.ensures.old in
    let same : Some w.0 ≡ Some (c.pair_at.result.0.now, c.pair_at.result.1.now) = sym w.1 ∙ c.pair_at.ensures in
    let both : w.0 ≡ (c.pair_at.result.0.now, c.pair_at.result.1.now) = cc in
    let value : c.write_at-old.result ≡ c.pair_at.result.1.now = w.2 ∙ ap (λ (x : g.row.K.Denot × g.row.V.Denot). x.1) both in
    let there : find g.K.PartialEq.eq (entries m) c.args.k ≡ Some (w.0.0, c.write_at-old.result) = found-here g.K.PartialEq.eq m c.args.k c.in-Some.place at.place w.0 w.1 ∙ ap (λ x. Some (w.0.0, x)) (sym w.2) in
    record {
      setting = rw c.write_at-old.ensures.new (ap run_setting_by (found-written g.K.PartialEq.eq m c.args.k c.in-Some.place at.place g.met.K.Eq.laws at.unique c.args.v).settings);
      ok = rw c.write_at-old.ensures.new (leads-written g.K.PartialEq.eq g.V.Clone.is_clone m c.args.k _ c.args.v c.write_at-old.result w.0.0 there (found-written g.K.PartialEq.eq m c.args.k c.in-Some.place at.place g.met.K.Eq.laws at.unique c.args.v));
      copies = rw value (c.requires.clones (Old (Some c.pair_at.result.1.now)) (Old (Some c.in_ok-noted-in-Some.noted)) c.in_ok-noted-in-Some.ensures.ok.0, c.requires.clones (Old (Some c.pair_at.result.1.now)) (Old (Some c.in_ok-noted-in-Some.kept)) c.in_ok-noted-in-Some.ensures.ok.1);
      err = (search rules);
      refused = (search rules);
    }

pub returns-after-insert_new : goal.returns-after-insert_new
returns-after-insert_new g c =
    elim c.match-insert_new.branch [
      | in-Ok w ↦ rw w.result-is record {
        setting = ap run_setting_by w.in-Ok.ensures.ok.holds.settings;
        ok = leads-upserted g.K.PartialEq.eq g.V.Clone.is_clone c.args.map.now c.args.k c.insert_new.new.self c.args.v c.in-None.ensures.place w.in-Ok.ensures.ok.holds;
        copies = (refl, refl);
        err = tt;
        refused = tt;
      }
      | in-Err w ↦ rw w.result-is record {
        setting = rests-setting c.args.map.now c.insert_new.new.self w.in-Err.ensures.rests.rests;
        ok = tt;
        copies = tt;
        err = rests-stays c.args.map.now c.insert_new.new.self w.in-Err.ensures.rests.rests;
        refused = inl (c.in-None.ensures.place, w.in-Err.ensures.full);
      }
    ]
