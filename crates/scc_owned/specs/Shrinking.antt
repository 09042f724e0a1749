-- What the calls that take pairs out of a map, or keys out of a set, do to the array, in one word a call.
use Rattle.std.specs.Prelude.{◌≡◌, ◌≢◌, ◌≤◌, ◌++◌, ℕ, suc, List, [], ◌∷◌, Option, Result, length, remove, slice_get, Some, MatchOption, ⊤}
use Rattle.std.specs.Result.{OnErr}
use Rattle.scc_buckets.specs.declared.place.Place.{Place}
use Rattle.scc_common.specs.Contents.{Contents, entries, bucket_count, minimum_of, notes_of, waiting_of}
use Rattle.scc_common.specs.Sizes.{IsSmaller}
use Rattle.scc_common.specs.Steps.{Holds, HoldsExactly, ShrinksWhenDue}
use Rattle.scc_table.specs.Arrays.{ShrinksByRule}
use Rattle.scc_table.specs.Places.{StandsAt, index_of}
use Rattle.scc_table.specs.Relocations.{RelocatesNone}

module _ {E S : Type 0} (Distinct : Contents E S → Type 0) where
  -- the contract of `remove_at`: it removes the pair at the place, returns it, and turns c into d
  pub record RemovesAtByRule (c : Contents E S) (place : Place) (result : E) (d : Contents E S) : Type 0 where
    -- the result is the pair that stood at the place
    pub pair : slice_get (entries c) (index_of c place) ≡ Some result
    -- the others stay
    pub others : Holds c (remove (entries c) (index_of c place)) d
    -- what it does to the array
    pub array : ShrinksByRule ⊤ c d
    -- no two keys are equal
    pub unique : Distinct d

  -- the contract of `take_with_next`: it takes the pair out of the place, returns it with the next place, and turns c
  -- into d
  pub record TakesWithNextByRule (c : Contents E S) (place : Place) (result : E × Option Place) (d : Contents E S) : Type 0 where
    -- the result is the pair that stood at the place
    pub pair : slice_get (entries c) (index_of c place) ≡ Some result.0
    -- the others stay in their order
    pub others : HoldsExactly c (remove (entries c) (index_of c place)) d
    -- note and mark stay
    pub noted : notes_of d ≡ notes_of c
    -- the same buckets wait as before
    pub waiting : waiting_of d ≡ waiting_of c
    -- the next place is the place of the pair that followed
    pub next : MatchOption result.1 (suc (index_of c place) ≡ length (entries c)) (StandsAt d (index_of c place))
    -- no two keys are equal
    pub unique : Distinct d

  -- the contract of `clear_sync`: it turns c into d
  pub record ClearsByRule (c d : Contents E S) : Type 0 where
    -- no entry is left
    pub empty : entries d ≡ []
    -- the settings stay, and the array doesn't shrink below the minimum
    pub holds : Holds c [] d
    -- what it does to the array
    pub array : ShrinksByRule ⊤ c d
    -- no two keys are equal
    pub unique : Distinct d

  -- the contract of `retain_sync`: it turns c into d; Step says which calls it makes and which pairs stay
  pub record RetainsByRule (Step : Type 0) (c d : Contents E S) : Type 0 where
    -- which calls it makes, and which pairs stay
    pub step : Step
    -- what it does to the array
    pub array : ShrinksByRule ⊤ c d
    -- no two keys were equal
    pub was_unique : Distinct c
    -- no two keys are equal
    pub unique : Distinct d

module _ {E S L X R Q : Type 0} (Distinct : Contents E S → Type 0) (taken_of : L → List X) (count_of capacity_of : L → ℕ) where
  -- the contract of `iter_mut_sync`: it returns `result`, and turns c into d and the list `before` into `after`; Step
  -- says which calls it makes, which pairs stay and which are taken
  pub record TakesByRule (Step : Type 0) (c : Contents E S) (before : L) (result : Result R Q) (d : Contents E S) (after : L) : Type 0 where
    -- which calls it makes, which pairs stay and which are taken
    pub step : Step
    -- if nothing was taken, the number of buckets stays
    pub still : taken_of after ≡ taken_of before → bucket_count d ≡ bucket_count c
    -- if nothing was taken, note and mark stay
    pub noted : taken_of after ≡ taken_of before → notes_of d ≡ notes_of c
    -- if nothing was taken, the same buckets wait as before
    pub rests : taken_of after ≡ taken_of before → waiting_of d ≡ waiting_of c
    -- the number of buckets changes only by a shrink to the size that the remaining pairs and the minimum name
    pub smaller : bucket_count d ≢ bucket_count c → IsSmaller (minimum_of c) (length (entries d)) (bucket_count c) (bucket_count d)
    -- it fails only if the list is full
    pub full : OnErr result (capacity_of after ≤ count_of after)
    -- the list has no less room than before
    pub room : capacity_of before ≤ capacity_of after
    -- if something was taken and a shrink is due, it is made, unless memory for it was refused
    pub due : (taken_of after ≡ taken_of before → ⊥) → ShrinksWhenDue c d
    -- it relocates no bucket
    pub relocates : RelocatesNone c d
    -- no two keys were equal
    pub was_unique : Distinct c
    -- no two keys are equal
    pub unique : Distinct d

module _ {E S L : Type 0} (taken_of : L → List E) (capacity_of : L → ℕ) where
  -- the contract of `take_into`: it moves the pair at the place into the list, returns the next place, and turns c
  -- into d and the list `before` into `after`
  pub record TakesIntoByRule (c : Contents E S) (place : Place) (before : L) (result : Option Place) (d : Contents E S) (after : L) : Type 0 where
    -- the pair that stood at the place is at the list's end
    pub taken : (e : E) × (slice_get (entries c) (index_of c place) ≡ Some e) × (taken_of after ≡ taken_of before ++ e ∷ [])
    -- the others stay in their order
    pub others : HoldsExactly c (remove (entries c) (index_of c place)) d
    -- note and mark stay
    pub noted : notes_of d ≡ notes_of c
    -- the same buckets wait as before
    pub waiting : waiting_of d ≡ waiting_of c
    -- the next place is the place of the pair that followed
    pub next : MatchOption result (suc (index_of c place) ≡ length (entries c)) (StandsAt d (index_of c place))
    -- the capacity of the list stays
    pub capacity : capacity_of after ≡ capacity_of before
