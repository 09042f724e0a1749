-- What a removal of the first entry of a bucket that passes returns and leaves.
use Rattle.std.specs.Prelude.{◌≡◌, ℕ, ◌<◌, ◌≤◌, Bool, List, Option, None, Some, length, slice_get, slice_set}
use Rattle.std.specs.List.{position}
use Rattle.scc_array.specs.Shelves.{shelf_of}
use Rattle.scc_array.specs.Shelf.{Shelf, shelf_entries, swapped_out}
use Rattle.scc_array.specs.Windows.{Window, window_of, popped_over}

module _ {E : Type 0} (p : E → Bool) (ws : List (Window E)) (b : ℕ) (vs : List (Window E)) where
  -- the first entry in the slots of bucket b that passes p is taken out, and the last entry takes its slot; if none
  -- passes, nothing changes
  abbrev pub TakesFirstOf : Option E → Type 0
  TakesFirstOf None = (position p (window_of ws b).slots ≡ None) × (vs ≡ ws)
  TakesFirstOf (Some x) = (i : ℕ) × (position p (window_of ws b).slots ≡ Some i) × (slice_get (window_of ws b).slots i ≡ Some x) × (vs ≡ slice_set ws b (popped_over (window_of ws b) i x))

module _ {E : Type 0} (p : E → Bool) (bs : List (Shelf E)) (b : ℕ) (ds : List (Shelf E)) where
  -- x, the first entry of bucket b that passes p, is taken out of slot i, which the last entry of the slots or of the
  -- overflow list takes
  pub record IsTakenOut (i : ℕ) (x : E) : Type 0 where
    -- no entry before slot i passes p
    pub first : position p (shelf_entries (shelf_of bs b)) ≡ Some i
    -- x stood at slot i
    pub entry : slice_get (shelf_entries (shelf_of bs b)) i ≡ Some x
    -- the other buckets stay
    pub others : ds ≡ slice_set bs b (swapped_out (shelf_of bs b) i x)

  -- the entry taken out stood in the slots of bucket b; if no entry in the slots passes, nothing changes
  abbrev pub TakesInSlots : Option E → Type 0
  TakesInSlots None = (position p (shelf_of bs b).slots ≡ None) × (ds ≡ bs)
  TakesInSlots (Some x) = (i : ℕ) × (i < length (shelf_of bs b).slots) × IsTakenOut i x

  -- the entry taken out stood in the overflow list of bucket b; if no entry of the bucket passes, nothing changes
  abbrev pub TakesInOverflow : Option E → Type 0
  TakesInOverflow None = (position p (shelf_entries (shelf_of bs b)) ≡ None) × (ds ≡ bs)
  TakesInOverflow (Some x) = (i : ℕ) × (length (shelf_of bs b).slots ≤ i) × IsTakenOut i x
