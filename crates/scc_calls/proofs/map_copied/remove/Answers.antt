use Rattle.std.proofs.Common.{◌≡◌, Some, refl, sym, subst, ◌∙◌, inr, rules}
use Rattle.std.specs.List.{remove}
use Rattle.scc_common.specs.Contents.{entries}
use Rattle.scc_common.specs.Pairs.{find, without}
use Rattle.scc_common.specs.Steps.{Holds}
use Rattle.scc_buckets.proofs.PairSplits.{without-at}
use Rattle.scc_owned.proofs.Found.{found-here}
use Rattle.scc_table.specs.Places.{index_of}
use Rattle.scc_table.proofs.places.Entries.{place-found}
use Rattle.scc_calls.proofs.MapCopied.{leads-taken}
use Rattle.scc_calls.proofs.Runs.{stays-same, when_err}
use Rattle.scc_calls.specs.States.{State, ResizesTo, run_setting, state_of}
use Rattle.scc_calls.specs.declared.replies.Reply.TheVariants.{Pair}
use Rattle.scc_calls.proofs.map_copied.remove.Goals as goal

pub returns-in_err-noted-in-Some : goal.returns-in_err-noted-in-Some
returns-in_err-noted-in-Some g c =
    let m = c.args.map.now in
    let there = found-here g.K.PartialEq.eq m c.args.k c.in-Some.place c.in-Some.ensures.place _ c.pair_at.ensures in
    record {
      setting = (search rules);
      ok = (search rules);
      copies = (search rules);
      err = (search rules);
      refused = (when_err c.from_residual.result (inr (refl, (state_of m, stays-same (λ (s : State (g.row.K.Denot × g.row.V.Denot)). s.1) (ResizesTo (run_setting m)) (state_of m), rw there c.in_err-noted-in-Some.ensures.refused))));
    }

pub returns-in_err-kept-in-Some : goal.returns-in_err-kept-in-Some
returns-in_err-kept-in-Some g c =
    let m = c.args.map.now in
    let there = found-here g.K.PartialEq.eq m c.args.k c.in-Some.place c.in-Some.ensures.place _ c.pair_at.ensures in
    record {
      setting = (search rules);
      ok = (search rules);
      copies = (search rules);
      err = (search rules);
      refused = (when_err c.from_residual-in_err-kept-in-Some.result (inr (refl, (state_of m, stays-same (λ (s : State (g.row.K.Denot × g.row.V.Denot)). s.1) (ResizesTo (run_setting m)) (state_of m), rw there c.in_err-kept-in-Some.ensures.refused))));
    }

pub returns-in-Some : goal.returns-in-Some
returns-in-Some g c =
    let m = c.args.map.now in
    let d = c.remove_at-pair.new.self in
    let at = c.in-Some.ensures in
    let out = c.remove_at-pair.ensures in
    let here = place-found g.K.PartialEq.eq m c.args.k c.in-Some.place at.place in
    let there = found-here g.K.PartialEq.eq m c.args.k c.in-Some.place at.place c.remove_at-pair.result out.pair in
    let same : Some c.remove_at-pair.result ≡ Some (c.pair_at.result.0.now, c.pair_at.result.1.now) = sym out.pair ∙ c.pair_at.ensures in
    let pair : c.remove_at-pair.result ≡ (c.pair_at.result.0.now, c.pair_at.result.1.now) = cc in
    let others : Holds m (without g.K.PartialEq.eq (entries m) c.args.k) d = record { same = rw (without-at g.met.K.Eq.laws c.args.k (entries m) (index_of m c.in-Some.place) at.unique here) out.others.same; size = out.others.size; settings = out.others.settings } in
    record {
      setting = (search rules);
      ok = (leads-taken g.K.PartialEq.eq g.V.Clone.is_clone m c.args.k d c.remove_at-pair.result there others);
      copies = rw pair (c.requires.clones (Pair (Some (c.pair_at.result.0.now, c.pair_at.result.1.now))) (Pair (Some c.in_ok-noted-in-Some.noted)) c.in_ok-noted-in-Some.ensures.ok, c.requires.clones (Pair (Some (c.pair_at.result.0.now, c.pair_at.result.1.now))) (Pair (Some c.in_ok-kept-in-Some.kept)) c.in_ok-kept-in-Some.ensures.ok);
      err = (search rules);
      refused = (search rules);
    }
