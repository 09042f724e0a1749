-- What an insertion does to the array, and what a removal does, in one word each for map, set and index.
use Rattle.std.specs.Prelude.{◌≡◌, ◌≢◌, ℕ, length, None, Option, Result, IsSome}
use Rattle.std.specs.Result.{OnOk}
use Rattle.scc_common.specs.Contents.{Contents, bucket_count, entries, minimum_of, notes_of, waiting_of, HasRoomBy}
use Rattle.scc_common.specs.Sizes.{IsSmaller}
use Rattle.scc_common.specs.Steps.{FirstArrayWhenDue, Grows, GrowsWhenDue, IsPreparedFor, ShrinksWhenDue}
use Rattle.scc_table.specs.Relocations.{Relocates, RelocatesNone, RelocatesTwo}

module _ {E K S : Type 0} (key : E → K) where
  -- what an insertion of the key k with this result does to the array, the note and the waiting buckets of c, which
  -- becomes d. A look-up of k found `found` before
  pub record GrowsByRule {A B X : Type 0} (hash : K → ℕ) (found : Option X) (c : Contents E S) (k : K) (result : Result A B) (d : Contents E S) : Type 0 where
    -- the number of buckets changes only by a first array or a doubling
    pub growth : Grows c d
    -- the number of buckets stays if the key is new and its bucket has room
    pub kept : found ≡ None → HasRoomBy hash key c k → bucket_count d ≡ bucket_count c
    -- the number of buckets stays if the insertion was prepared
    pub once : IsPreparedFor hash key c k → bucket_count d ≡ bucket_count c
    -- the number of buckets is doubled if the key is new and a growth is due, unless memory for it was refused
    pub due : found ≡ None → GrowsWhenDue hash key c k d
    -- the first array has the size of the minimum
    pub first : found ≡ None → OnOk result (FirstArrayWhenDue c d)
    -- note and mark stay if the key is there
    pub noted : IsSome found → notes_of d ≡ notes_of c
    -- a new key relocates at most two buckets
    pub relocates : found ≡ None → Relocates c d
    -- it relocates the key's own bucket first and then the first ones that wait, two in all, or all if fewer wait; if
    -- some of them are long, at least those before a long one
    pub two : found ≡ None → OnOk result (RelocatesTwo (hash k) c d)
    -- a key that is there relocates no bucket
    pub waiting : IsSome found → waiting_of d ≡ waiting_of c

module _ {E S : Type 0} where
  -- what a removal does to the array, the note and the waiting buckets of c, which becomes d. `Removed` says that an
  -- entry was removed
  pub record ShrinksByRule (Removed : Type 0) (c d : Contents E S) : Type 0 where
    -- the number of buckets changes only by a shrink to the size that the entries and the minimum name
    pub smaller : bucket_count d ≢ bucket_count c → IsSmaller (minimum_of c) (length (entries d)) (bucket_count c) (bucket_count d)
    -- if an entry was removed and a shrink is due, it is made, unless memory for it was refused
    pub due : Removed → ShrinksWhenDue c d
    -- note and mark stay if no entry was removed
    pub noted : (Removed → ⊥) → notes_of d ≡ notes_of c
    -- a removal relocates no bucket
    pub relocates : Removed → RelocatesNone c d
    -- the same buckets wait as before if no entry was removed
    pub waiting : (Removed → ⊥) → waiting_of d ≡ waiting_of c
