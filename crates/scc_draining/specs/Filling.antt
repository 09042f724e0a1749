-- What the calls do that move the entries of one bucket out of an old array, one word a call.
use Rattle.std.specs.Prelude.{◌≡◌, ℕ, ◌+◌, ◌<◌, ◌≤◌, ◌^◌, List, slice_set, Result, IfOk}
use Rattle.std.specs.Result.{OnOk, OnErr}
use Rattle.scc_array.specs.Shelves.{shelf_of}
use Rattle.scc_array.specs.Shelf.{Shelf, empty_shelf}
use Rattle.scc_common.specs.Contents.{Contents, overflow_of, IsRouted}
use Rattle.scc_draining.specs.Moves.{Drains, TakesOver}

module _ {E X : Type 0} (hash : E → ℕ) where
  -- the entries of all old buckets that belong to bucket i of n, at most `coming`, fill that bucket, which is empty, or
  -- memory is refused; at most `left` of them may stand in its overflow list
  pub record Fills (t n i coming left : ℕ) (into olds : List (Shelf E)) (result : Result (Unit {0}) X) (filled news : List (Shelf E)) : Type 0 where
    -- on success, the bucket has all of them, in order, and the old buckets keep the others
    pub ok : OnOk result (Drains hash t n i olds empty_shelf news (shelf_of filled i))
    -- success needs that at most `left` of `coming` entries exceed the 32 slots
    pub few : OnOk result (coming ≤ 32 + left)
    -- the other buckets stay
    pub others : filled ≡ slice_set into i (shelf_of filled i)
    -- on failure, the bucket is still empty; its room may have changed
    pub stays : OnErr result (shelf_of filled i ≡ record empty_shelf { room = (shelf_of filled i).room })
    -- on failure, the old buckets stay
    pub err : OnErr result (news ≡ olds)
    -- the call fails only if more than 32 entries may come
    pub refused : OnErr result (32 < coming)

  -- the entries of the old array that belong to bucket i, at most `coming`, become its list, and the result is their
  -- number, or memory is refused; `aside` entries count as if they stood in overflow lists
  pub record MovesTarget {S : Type 0} (i coming aside : ℕ) (c : Contents E S) (olds : List (Shelf E)) (result : Result ℕ X) (d : Contents E S) (news : List (Shelf E)) : Type 0 where
    -- on success, the bucket has the entries, the result is their number, and the old array keeps the others
    pub ok : IfOk result (λ n. TakesOver hash i n c olds d news)
    -- on success, fewer than 2 ^ 62 entries stand in overflow lists, those of `aside` included
    pub few : OnOk result (overflow_of d + aside < 2 ^ 62)
    -- on success, if at most 32 entries come, no more entries than before stand in overflow lists
    pub short : OnOk result (coming ≤ 32 → overflow_of d ≤ overflow_of c)
    -- on failure, the table stays
    pub err : OnErr result (d ≡ c)
    -- on failure, the old array stays
    pub stays : OnErr result (news ≡ olds)
    -- the call fails only if more than 32 entries come
    pub refused : OnErr result (32 < coming)
    -- each entry of the table stands in the list of the bucket of its hash
    pub routed : IsRouted hash c
