-- The buckets of an array: their slots and their overflow lists.
use Rattle.std.specs.Prelude.{◌≡◌, ℕ, ◌+◌, ◌/◌, ◌⊎◌, Bool, false, List, [], length, map, slice_get, slice_index_or, Option, Some, None}
use Rattle.std.specs.List.{range_with_len}
use Rattle.std.specs.Vec.{vec_capacity}
use Rattle.std.specs.declared.vec.Vec.{Vec}
use Rattle.scc_array.specs.Windows.{Window, window_of}
use Rattle.scc_array.specs.Shelf.{Shelf, empty_shelf}

-- bucket i
abbrev pub shelf_of : {E : Type 0} → List (Shelf E) → ℕ → Shelf E
shelf_of bs i = slice_index_or bs i empty_shelf

module _ {E A : Type 0} where
  -- the entries of the overflow list of a bucket; none without a list
  abbrev pub spilled : Option (Vec E A) → List E
  spilled None = []
  spilled (Some v) = v.items

  -- how many entries the overflow list of a bucket has room for; 0 without a list
  abbrev pub list_room : Option (Vec E A) → ℕ
  list_room None = 0
  list_room (Some v) = vec_capacity v

  module _ (ws : List (Window E)) (os : List (Vec E A)) where
    -- bucket i: its slots, tags and overflow list
    abbrev pub shelf_at : ℕ → Shelf E
    shelf_at i = record { slots = (window_of ws i).slots; tags = (window_of ws i).tags; overflow = spilled (slice_get os i); room = list_room (slice_get os i) }

    -- all buckets, in order
    abbrev pub shelves : List (Shelf E)
    shelves = map shelf_at (range_with_len 0 (length ws))

    -- there are no lists yet, or one for each bucket
    pub record HasListEach : Type 0 where
      pub lists : (os ≡ []) ⊎ (length os ≡ length ws)

  -- the flags, one for 16 buckets in a row: either none are made yet, or all; a bucket whose flag is down has no entry
  -- in its overflow list and no room there
  pub record IsFlagged (ws : List (Window E)) (os : List (Vec E A)) (fs : List Bool) : Type 0 where
    pub flags : (fs ≡ []) ⊎ (length fs ≡ length ws / 16 + 1)
    pub told : (b : ℕ) → slice_index_or fs (b / 16) false ≡ false → (spilled (slice_get os b) ≡ []) × (list_room (slice_get os b) ≡ 0)
