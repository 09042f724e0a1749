-- A bucket whose entries are parted by flags, one flag a slot.
use Rattle.std.specs.Prelude.{◌≡◌, ◌≢◌, ℕ, ◌==◌, ◌+◌, ◌<◌, ◌≤◌, List, [], ◌∷◌, ◌++◌, length, map, cond, slice_get, slice_index_or, Bool, true, false, Option, None, replicate}
use Rattle.std.specs.Int.{bit_at}
use Rattle.scc_array.specs.Windows.{Window, tag_there}
use Rattle.scc_array.specs.Shelf.{Shelf}

-- the elements whose flag is up, in order
abbrev pub picked : {X : Type 0} → List Bool → List X → List X
picked [] xs = []
picked (f ∷ fs) [] = []
picked (f ∷ fs) (x ∷ xs) = cond f (x ∷ picked fs xs) (picked fs xs)

-- the elements whose flag is down, in order
abbrev pub unflagged : {X : Type 0} → List Bool → List X → List X
unflagged [] xs = []
unflagged (f ∷ fs) [] = []
unflagged (f ∷ fs) (x ∷ xs) = cond f (unflagged fs xs) (x ∷ unflagged fs xs)

-- the flags as truth values: a flag is up if it is 1
abbrev pub raised : List ℕ → List Bool
raised fs = map (λ x. x == 1) fs

-- 32 flags that are up
abbrev pub all_raised : List Bool
all_raised = replicate 32 true

module _ {E : Type 0} where
  -- the entries of a bucket whose flag is up, with their tags
  abbrev pub picked_of : List Bool → Window E → Window E
  picked_of fs w = record { slots = picked fs w.slots; tags = picked fs w.tags }

  -- the entries of a bucket whose flag is down, with their tags
  abbrev pub unflagged_of : List Bool → Window E → Window E
  unflagged_of fs w = record { slots = unflagged fs w.slots; tags = unflagged fs w.tags }

  -- the bucket v with the entries of w at its end
  abbrev pub window_with : Window E → Window E → Window E
  window_with v w = record { slots = v.slots ++ w.slots; tags = v.tags ++ w.tags }

  -- the bucket s without the entries whose flag is up
  abbrev pub shelf_unflagged : List Bool → Shelf E → Shelf E
  shelf_unflagged fs s = record { slots = unflagged fs s.slots; tags = unflagged fs s.tags; overflow = s.overflow; room = s.room }

  -- the bucket t with the entries of s whose flag is up in its next slots
  abbrev pub shelf_with : Shelf E → List Bool → Shelf E → Shelf E
  shelf_with t fs s = record { slots = t.slots ++ picked fs s.slots; tags = t.tags ++ picked fs s.tags; overflow = t.overflow; room = t.room }

  -- the 32 cells from `base` on hold the entries of w, and `row` their tags
  pub record AreAt (cells : List (Option E)) (row : List ℕ) (base : ℕ) (w : Window E) : Type 0 where
    pub cells_are : (j : ℕ) → j < 32 → slice_index_or cells (base + j) None ≡ slice_get w.slots j
    pub tags_are : (j : ℕ) → j < 32 → tag_there (slice_index_or row j 0) ≡ slice_get w.tags j
    pub most : length w.slots ≤ 32
    pub same : length w.tags ≡ length w.slots

-- the element at position j after those whose flag is up are taken out
abbrev pub left_at : {X : Type 0} → List Bool → List X → ℕ → Option X
left_at fs xs j = cond (slice_index_or fs j false) None (slice_get xs j)

module _ {E : Type 0} where
  -- the 32 cells from `base` on hold the entries of w whose flag is down, each in its old slot, and `row` their tags
  pub record AreLeft (cells : List (Option E)) (row : List ℕ) (base : ℕ) (fs : List Bool) (w : Window E) : Type 0 where
    pub flags : length fs ≡ 32
    pub cells_are : (j : ℕ) → j < 32 → slice_index_or cells (base + j) None ≡ left_at fs w.slots j
    pub tags_are : (j : ℕ) → j < 32 → tag_there (slice_index_or row j 0) ≡ left_at fs w.tags j
    pub most : length w.slots ≤ 32
    pub same : length w.tags ≡ length w.slots

  -- `bits` has a bit for each entry of w whose flag is down, and no other bit
  pub record AreUnflagged (fs : List Bool) (w : Window E) (bits : ℕ) : Type 0 where
    pub all : (j : ℕ) → j < length w.slots → slice_index_or fs j false ≡ false → bit_at bits j ≡ 1
    pub only : (j : ℕ) → bit_at bits j ≡ 1 → (j < length w.slots) × (slice_index_or fs j false ≡ false)

-- the element at `from` has moved to `to`; if these differ, `from` has d; the other positions stay
pub record MovesCell {X : Type 0} (d : X) (xs : List X) (from to : ℕ) (ys : List X) : Type 0 where
  pub count : length ys ≡ length xs
  pub there : slice_index_or ys to d ≡ slice_index_or xs from d
  pub gone : from ≢ to → slice_index_or ys from d ≡ d
  pub others : (q : ℕ) → q ≢ from → q ≢ to → slice_index_or ys q d ≡ slice_index_or xs q d
