use Rattle.std.proofs.Common.{◌≡◌, ◌+◌, Some, true, false, ap, refl, rules, sym, subst}
use Rattle.std.specs.List.{remove, slice_get}
use Rattle.std.specs.Prelude.{⊤}
use Rattle.scc_common.specs.Contents.{entries}
use Rattle.scc_common.specs.Pairs.{with_pair_value}
use Rattle.scc_common.specs.Steps.{Holds}
use Rattle.scc_buckets.proofs.Lookups.{find-position_none}
use Rattle.scc_buckets.proofs.Resizes.{shrinks-after}
use Rattle.scc_table.specs.Arrays.{ShrinksByRule}
use Rattle.scc_table.specs.Placed.{IsPlace-with_write_at}
use Rattle.scc_table.specs.Places.{IsPlace, index_of}
use Rattle.scc_table.proofs.places.Entries.{noted-write}
use Rattle.scc_table.proofs.relocations.AfterWrites.{removed-after, waiting-write}
use Rattle.scc_owned.proofs.CallerLemmas.{finds-without}
use Rattle.scc_owned.proofs.Found.{found-here, found-pair, found-taken, found-written}
use Rattle.scc_owned.proofs.RuledUpdates.{met-there}
use Rattle.scc_owned.proofs.ruled_map.calls.RuledMap+K+V+R+H.remove_if_sync.Goals as goal

pub modify_at-requires-clause-within : goal.modify_at-requires-clause-within
modify_at-requires-clause-within g c = let at = rw c.self.view_is at c.in_ok-place.ensures in at.place.within

pub modify_at-requires-clause-callable : goal.modify_at-requires-clause-callable
modify_at-requires-clause-callable g c = λ p got kept.
    let at = rw c.self.view_is at c.in_ok-place.ensures in
    c.requires.callable p.1 (met-there g.K.PartialEq.eq g.R.Rule.holds g.met.R.Rule.alike g.met.K.Eq.laws.symm _ c.args.k.now c.in_ok-place.place at.place p got kept).1

pub modify_at-requires-clause-keeps : goal.modify_at-requires-clause-keeps
modify_at-requires-clause-keeps g c = λ p r w got kept gave.
    let at = rw c.self.view_is at c.in_ok-place.ensures in
    let met = met-there g.K.PartialEq.eq g.R.Rule.holds g.met.R.Rule.alike g.met.K.Eq.laws.symm _ c.args.k.now c.in_ok-place.place at.place p got kept in
    g.met.R.Rule.alike c.args.k.now p.0 w met.0 (c.requires.keeps p.1 w r met.1 gave)

pub remove_at-requires : goal.remove_at-requires
remove_at-requires g c =
    let at = rw c.self.view_is at c.in_ok-place.ensures in
    let x = c.if-modify_at.ensures.step in
    subst (λ n. IsPlace n c.in_ok-place.place) (sym x.5) (IsPlace-with_write_at with_pair_value c.args.self.now c.in_ok-place.place x.1 at.place.within)

pub returns-in_err-place-clause-step : goal.returns-in_err-place-clause-step
returns-in_err-place-clause-step g c = rw (← c.self.view_is, find-position_none (g.K.PartialEq.eq c.args.k.now) (entries c.self.inside.table) c.in_err-place.ensures.place) (search rules, record { exact = refl; buckets = refl; settings = refl })

pub returns-in_err-place-clause-array : goal.returns-in_err-place-clause-array
returns-in_err-place-clause-array g c =
    record {
      smaller = (search rules);
      due = (search rules);
      noted = (search rules);
      relocates = (search rules);
      waiting = (search rules);
    }

pub returns-then-modify_at-clause-step : goal.returns-then-modify_at-clause-step
returns-then-modify_at-clause-step g c =
    let at = rw c.self.view_is at c.in_ok-place.ensures in
    let x = c.if-modify_at.ensures.step in
    let out = c.remove_at.ensures.step in
    let there = subst (λ n. slice_get (entries n) (index_of n c.in_ok-place.place) ≡ Some c.remove_at.result) x.5 out.pair in
    let others = subst (λ n. Holds n (remove (entries n) (index_of n c.in_ok-place.place)) c.remove_at.new.self) x.5 out.others in
    rw (found-here g.K.PartialEq.eq c.args.self.now c.args.k.now c.in_ok-place.place at.place x.0 x.2) (
      true,
      x.1,
      x.4,
      (
        ap Some (found-pair g.K.PartialEq.eq _ _ _ at.place g.met.K.Eq.laws at.unique x.0 x.2 x.1 c.remove_at.result there),
        found-taken g.K.PartialEq.eq _ _ _ at.place g.met.K.Eq.laws at.unique x.1 c.remove_at.new.self others,
      ),
    )

pub returns-then-modify_at-clause-finds : goal.returns-then-modify_at-clause-finds
returns-then-modify_at-clause-finds g c =
    let at = rw c.self.view_is at c.in_ok-place.ensures in
    let x = c.if-modify_at.ensures.step in
    let out = c.remove_at.ensures.step in
    let others = subst (λ n. Holds n (remove (entries n) (index_of n c.in_ok-place.place)) c.remove_at.new.self) x.5 out.others in
    finds-without g.met.K.Eq.laws _ _ _ (found-taken g.K.PartialEq.eq _ _ _ at.place g.met.K.Eq.laws at.unique x.1 c.remove_at.new.self others) at.unique out.unique

pub returns-then-modify_at-clause-array : goal.returns-then-modify_at-clause-array
returns-then-modify_at-clause-array g c =
    let at = rw c.self.view_is at c.in_ok-place.ensures in
    let x = c.if-modify_at.ensures.step in
    let m = c.args.self.now in
    let w = found-written g.K.PartialEq.eq m c.args.k.now c.in_ok-place.place at.place g.met.K.Eq.laws at.unique x.1 in
    let out = subst (λ n. ShrinksByRule ⊤ n c.remove_at.new.self) x.5 c.remove_at.ensures.step.array in
    record {
      smaller = rw (w.buckets, w.settings) at out.smaller;
      due = λ _. shrinks-after m _ c.remove_at.new.self w.buckets (noted-write with_pair_value m c.in_ok-place.place x.1) (out.due tt);
      noted = (search rules);
      relocates = λ _. removed-after m _ c.remove_at.new.self w.buckets (ap (λ s. s.asked + s.reserved) w.settings) (waiting-write with_pair_value m c.in_ok-place.place x.1) (out.relocates tt);
      waiting = (search rules);
    }

pub returns-else-modify_at-clause-step : goal.returns-else-modify_at-clause-step
returns-else-modify_at-clause-step g c =
    let at = rw c.self.view_is at c.in_ok-place.ensures in
    let x = c.if-modify_at.ensures.step in
    rw (found-here g.K.PartialEq.eq c.args.self.now c.args.k.now c.in_ok-place.place at.place x.0 x.2) (false, x.1, x.4, (refl, rw x.5 (found-written g.K.PartialEq.eq _ _ _ at.place g.met.K.Eq.laws at.unique x.1)))

pub returns-else-modify_at-clause-array : goal.returns-else-modify_at-clause-array
returns-else-modify_at-clause-array g c =
    let at = rw c.self.view_is at c.in_ok-place.ensures in
    let x = c.if-modify_at.ensures.step in
    let m = c.args.self.now in
    rw x.5 record {
      smaller = λ n. absurd (n (found-written g.K.PartialEq.eq m c.args.k.now c.in_ok-place.place at.place g.met.K.Eq.laws at.unique x.1).buckets);
      due = (search rules);
      noted = λ _. noted-write with_pair_value m c.in_ok-place.place x.1;
      relocates = (search rules);
      waiting = λ _. waiting-write with_pair_value m c.in_ok-place.place x.1;
    }

pub returns-then-modify_at-clause-key : goal.returns-then-modify_at-clause-key
returns-then-modify_at-clause-key g c =
    let at = rw c.self.view_is at c.in_ok-place.ensures in
    let x = c.if-modify_at.ensures.step in
    let met = met-there g.K.PartialEq.eq g.R.Rule.holds g.met.R.Rule.alike g.met.K.Eq.laws.symm _ c.args.k.now c.in_ok-place.place at.place x.0 x.2 x.3 in
    let there = subst (λ n. slice_get (entries n) (index_of n c.in_ok-place.place) ≡ Some c.remove_at.result) x.5 c.remove_at.ensures.step.pair in
    let is = found-pair g.K.PartialEq.eq _ _ _ at.place g.met.K.Eq.laws at.unique x.0 x.2 x.1 c.remove_at.result there in
    rw is met.0

pub returns-then-modify_at-clause-answer : goal.returns-then-modify_at-clause-answer
returns-then-modify_at-clause-answer g c =
    let at = rw c.self.view_is at c.in_ok-place.ensures in
    let x = c.if-modify_at.ensures.step in
    let met = met-there g.K.PartialEq.eq g.R.Rule.holds g.met.R.Rule.alike g.met.K.Eq.laws.symm _ c.args.k.now c.in_ok-place.place at.place x.0 x.2 x.3 in
    let there = subst (λ n. slice_get (entries n) (index_of n c.in_ok-place.place) ≡ Some c.remove_at.result) x.5 c.remove_at.ensures.step.pair in
    let is = found-pair g.K.PartialEq.eq _ _ _ at.place g.met.K.Eq.laws at.unique x.0 x.2 x.1 c.remove_at.result there in
    rw is (x.0.1, met.1, x.4)

pub returns-then-modify_at-clause-kept : goal.returns-then-modify_at-clause-kept
returns-then-modify_at-clause-kept g c =
    let at = rw c.self.view_is at c.in_ok-place.ensures in
    let x = c.if-modify_at.ensures.step in
    let met = met-there g.K.PartialEq.eq g.R.Rule.holds g.met.R.Rule.alike g.met.K.Eq.laws.symm _ c.args.k.now c.in_ok-place.place at.place x.0 x.2 x.3 in
    let there = subst (λ n. slice_get (entries n) (index_of n c.in_ok-place.place) ≡ Some c.remove_at.result) x.5 c.remove_at.ensures.step.pair in
    let is = found-pair g.K.PartialEq.eq _ _ _ at.place g.met.K.Eq.laws at.unique x.0 x.2 x.1 c.remove_at.result there in
    let new = c.requires.keeps x.0.1 x.1 _ met.1 x.4 in
    rw is (g.met.R.Rule.alike c.args.k.now x.0.0 x.1 met.0 new, new)
