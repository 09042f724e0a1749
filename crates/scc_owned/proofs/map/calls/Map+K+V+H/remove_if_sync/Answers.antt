use Rattle.std.proofs.Common.{Some, refl, ap, rules, true, false, ◌+◌}
use Rattle.scc_common.specs.Contents.{entries}
use Rattle.scc_table.specs.Placed.{IsPlace-with_write_at}
use Rattle.scc_common.specs.Pairs.{with_pair_value}
use Rattle.scc_owned.proofs.CallerLemmas.{finds-without}
use Rattle.scc_owned.proofs.Found.{found-here, found-pair, found-taken, found-written}
use Rattle.scc_buckets.proofs.Lookups.{find-position_none}
use Rattle.scc_table.proofs.places.Entries.{noted-write}
use Rattle.scc_buckets.proofs.Resizes.{shrinks-after}
use Rattle.scc_table.proofs.relocations.AfterWrites.{removed-after, waiting-write}
use Rattle.scc_owned.proofs.map.calls.Map+K+V+H.remove_if_sync.Goals as goal

pub returns-in_err-place-clause-step : goal.returns-in_err-place-clause-step
returns-in_err-place-clause-step g c = rw (← c.self.view_is, find-position_none (g.K.PartialEq.eq c.args.k.now) (entries c.self.inside.table) c.in_err-place.ensures.place) (search rules, record { exact = refl; buckets = refl; settings = refl })

pub returns-in_err-place-clause-array : goal.returns-in_err-place-clause-array
returns-in_err-place-clause-array g c =
    record {
      smaller = (search rules);
      due = (search rules);
      noted = (search rules);
      relocates = (search rules);
      waiting = (search rules);
    }

pub returns-then-f-clause-step : goal.returns-then-f-clause-step
returns-then-f-clause-step g c =
    let at = rw c.self.view_is at c.in_ok-place.ensures in
    let v = c.value_mut_at.ensures.value in
    rw (found-here g.K.PartialEq.eq c.args.self.now c.args.k.now c.in_ok-place.place at.place v.0 v.1) (
      true,
      c.f.new.arg2,
      record { shown = c.value_mut_at.result; shows = v.2; left = _; met = c.if-f.ensures; leaves = refl },
      (
        ap Some (found-pair g.K.PartialEq.eq _ _ _ at.place g.met.K.Eq.laws at.unique v.0 v.1 c.f.new.arg2 c.remove_at.result c.remove_at.ensures.pair),
        found-taken g.K.PartialEq.eq _ _ _ at.place g.met.K.Eq.laws at.unique c.f.new.arg2 c.remove_at.new.self c.remove_at.ensures.others,
      ),
    )

pub returns-then-f-clause-finds : goal.returns-then-f-clause-finds
returns-then-f-clause-finds g c =
    let at = rw c.self.view_is at c.in_ok-place.ensures in
    finds-without g.met.K.Eq.laws _ _ _ (found-taken g.K.PartialEq.eq _ _ _ at.place g.met.K.Eq.laws at.unique c.f.new.arg2 c.remove_at.new.self c.remove_at.ensures.others) at.unique c.remove_at.ensures.unique

pub returns-then-f-clause-array : goal.returns-then-f-clause-array
returns-then-f-clause-array g c =
    let at = rw c.self.view_is at c.in_ok-place.ensures in
    let m = c.args.self.now in
    let x = found-written g.K.PartialEq.eq m c.args.k.now c.in_ok-place.place at.place g.met.K.Eq.laws at.unique c.f.new.arg2 in
    record {
      smaller = rw (x.buckets, x.settings) at c.remove_at.ensures.array.smaller;
      due = λ _. shrinks-after m _ c.remove_at.new.self x.buckets (noted-write with_pair_value m c.in_ok-place.place c.f.new.arg2) (c.remove_at.ensures.array.due tt);
      noted = (search rules);
      relocates = λ _. removed-after m _ c.remove_at.new.self x.buckets (ap (λ s. s.asked + s.reserved) x.settings) (waiting-write with_pair_value m c.in_ok-place.place c.f.new.arg2) (c.remove_at.ensures.array.relocates tt);
      waiting = (search rules);
    }

pub returns-else-f-clause-step : goal.returns-else-f-clause-step
returns-else-f-clause-step g c =
    let at = rw c.self.view_is at c.in_ok-place.ensures in
    let v = c.value_mut_at.ensures.value in
    rw (found-here g.K.PartialEq.eq c.args.self.now c.args.k.now c.in_ok-place.place at.place v.0 v.1) (false, c.f.new.arg2, record { shown = c.value_mut_at.result; shows = v.2; left = _; met = c.if-f.ensures; leaves = refl }, (refl, found-written g.K.PartialEq.eq _ _ _ at.place g.met.K.Eq.laws at.unique c.f.new.arg2))

pub returns-else-f-clause-unique : goal.returns-else-f-clause-unique
returns-else-f-clause-unique g c = c.value_mut_at.ensures.unique c.f.new.arg2

pub returns-else-f-clause-array : goal.returns-else-f-clause-array
returns-else-f-clause-array g c =
    let at = rw c.self.view_is at c.in_ok-place.ensures in
    record {
      smaller = λ n. absurd (n (found-written g.K.PartialEq.eq c.args.self.now c.args.k.now c.in_ok-place.place at.place g.met.K.Eq.laws at.unique c.f.new.arg2).buckets);
      due = (search rules);
      noted = λ _. noted-write with_pair_value c.args.self.now c.in_ok-place.place c.f.new.arg2;
      relocates = (search rules);
      waiting = λ _. waiting-write with_pair_value c.args.self.now c.in_ok-place.place c.f.new.arg2;
    }

pub f-requires : goal.f-requires
f-requires g c =
    let at = rw c.self.view_is at c.in_ok-place.ensures in
    let v = c.value_mut_at.ensures.value in
    c.requires v.0 (found-here g.K.PartialEq.eq c.args.self.now c.args.k.now c.in_ok-place.place at.place v.0 v.1) c.value_mut_at.result v.2

pub remove_at-requires : goal.remove_at-requires
remove_at-requires g c =
    let found = rw c.self.view_is at c.in_ok-place.ensures.place in
    IsPlace-with_write_at with_pair_value c.args.self.now c.in_ok-place.place c.f.new.arg2 found.within

pub value_mut_at-requires : goal.value_mut_at-requires
value_mut_at-requires g c = let found = rw c.self.view_is at c.in_ok-place.ensures.place in found.within
