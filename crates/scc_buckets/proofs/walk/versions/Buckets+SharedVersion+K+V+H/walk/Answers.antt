use Rattle.std.proofs.Common.{suc, drop, add-one, true, false, rules}
use Rattle.std.specs.List.{flat_map}
use Rattle.scc_array.specs.Shelves.{shelf_of}
use Rattle.scc_buckets.proofs.Arrays.{drop-shelf}
use Rattle.scc_array.specs.Shelf.{shelf_entries}
use Rattle.scc_common.specs.Walks.{ended}
use Rattle.scc_common.proofs.WalkLemmas.{callable-after, turn-front, drop-past, walk-append, walk-stopped}
use Rattle.scc_buckets.proofs.walk.versions.Buckets+SharedVersion+K+V+H.walk.Goals as goal

pub returns-then-not-walk_bucket : goal.returns-then-not-walk_bucket
returns-then-not-walk_bucket g c =
    let bs = c.array-array.result.now in
    let rest = drop-shelf bs c.loop-bucket.bucket (search rules) in
    (c.walk_bucket.new.f, c.loop-bucket.invariant.rest false c.walk_bucket.new.f (rw rest (walk-stopped (flat_map shelf_entries (drop (suc c.loop-bucket.bucket) bs)) c.if-not-walk_bucket.ensures)))

pub loop-bucket-preserved : goal.loop-bucket-preserved
loop-bucket-preserved g c =
    let bs = c.array-array.result.now in
    let rest = drop-shelf bs c.loop-bucket.bucket (search rules) in
    record {
      callable = rw add-one (callable-after g.F.FnMut (shelf_entries (shelf_of bs c.loop-bucket.bucket)) (flat_map shelf_entries (drop (suc c.loop-bucket.bucket) bs)) (rw rest at c.loop-bucket.invariant.callable) c.if-not-walk_bucket.ensures);
      rest = λ b last w. c.loop-bucket.invariant.rest b last (rw rest (walk-append c.if-not-walk_bucket.ensures (rw add-one at w)));
    }

pub returns : goal.returns
returns g c =
    let bs = c.array-array.result.now in
    let past = drop-past bs c.loop-bucket.bucket (search rules) in
    (c.loop-bucket.f, c.loop-bucket.invariant.rest true c.loop-bucket.f (rw past ended))

pub walk_bucket-requires-clause-callable : goal.walk_bucket-requires-clause-callable
walk_bucket-requires-clause-callable g c =
    let bs = c.array-array.result.now in
    let rest = drop-shelf bs c.loop-bucket.bucket (search rules) in
    turn-front _ _ (shelf_entries (shelf_of bs c.loop-bucket.bucket)) (flat_map shelf_entries (drop (suc c.loop-bucket.bucket) bs)) (rw rest at c.loop-bucket.invariant.callable)
