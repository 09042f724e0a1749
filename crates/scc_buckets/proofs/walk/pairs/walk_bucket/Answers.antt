use Rattle.std.proofs.Common.{◌≡◌, refl, add-one, rules, false}
use Rattle.scc_array.specs.Shelves.{shelf_of}
use Rattle.scc_array.specs.Shelf.{shelf_entries}
use Rattle.scc_common.specs.Walks.{stopped, went_on}
use Rattle.scc_common.proofs.WalkLemmas.{turn-first, turn-others}
use Rattle.scc_buckets.proofs.Arrays.{drop-got}
use Rattle.scc_buckets.proofs.walk.pairs.walk_bucket.Goals as goal

pub f-requires : goal.f-requires
f-requires g c =
    let xs = shelf_entries (shelf_of c.args.array.now c.args.bucket) in
    let rest = drop-got xs c.loop-place.place c.entry_of-pair.result.now c.entry_of-pair.ensures in
    turn-first _ _ (rw rest at c.loop-place.invariant.callable) _ _ refl

pub returns-then-not-f : goal.returns-then-not-f
returns-then-not-f g c =
    let xs = shelf_entries (shelf_of c.args.array.now c.args.bucket) in
    let rest = drop-got xs c.loop-place.place c.entry_of-pair.result.now c.entry_of-pair.ensures in
    c.loop-place.invariant.rest false c.f.new.self (rw rest (stopped record { key = _; value = _; shows = refl; called = c.if-not-f.ensures }))

pub loop-place-preserved : goal.loop-place-preserved
loop-place-preserved g c =
    let xs = shelf_entries (shelf_of c.args.array.now c.args.bucket) in
    let rest = drop-got xs c.loop-place.place c.entry_of-pair.result.now c.entry_of-pair.ensures in
    record {
      callable = rw add-one (turn-others _ _ (rw rest at c.loop-place.invariant.callable) record { key = _; value = _; shows = refl; called = c.if-not-f.ensures });
      rest = λ b last w. c.loop-place.invariant.rest b last (rw rest (went_on record { key = _; value = _; shows = refl; called = c.if-not-f.ensures } (rw add-one at w)));
    }

pub returns : goal.returns
returns g c =
    let all : c.loop-place.place ≡ c.slot_count-slots.result = search rules in
    c.loop-place.invariant.rest c.walk_list.result c.walk_list.new.f (rw all c.walk_list.ensures)
