-- What the columns hold: the entries and the tags of each bucket.
use Rattle.std.specs.Prelude.{◌≡◌, ℕ, zero, suc, ◌+◌, ◌*◌, ◌^◌, ◌<◌, ◌≤◌, List, [], ◌∷◌, ◌++◌, length, map, slice_get, slice_index, slice_index_or, Bool, true, Option, Some, None, refl}
use Rattle.std.specs.List.{range_with_len, remove, slice_set, swap_remove}
use Rattle.std.specs.Coded.{Coded, code_by, coded×, coded_ℕ, coded_list}

-- the entries in the slots of a bucket, and their tags
pub record Window (E : Type 0) : Type 0 where
  pub slots : List E
  pub tags : List ℕ

-- a bucket of the columns as the logic holds it
abbrev pub window_code : {E : Type 0} → Coded E → Coded (Window E)
window_code {E} c = code_by (List E × List ℕ) (coded× (coded_list c) (coded_list coded_ℕ)) (λ w. (w.slots, w.tags)) (λ p. record { slots = p.0; tags = p.1 }) (λ _. refl)

-- a bucket without entries
abbrev pub empty_window : {E : Type 0} → Window E
empty_window = record { slots = []; tags = [] }

-- bucket i
abbrev pub window_of : {E : Type 0} → List (Window E) → ℕ → Window E
window_of ws i = slice_index_or ws i empty_window

-- the bucket with the entry e and its tag t in the next slot
abbrev pub pushed : {E : Type 0} → Window E → E → ℕ → Window E
pushed w e t = record { slots = w.slots ++ e ∷ []; tags = w.tags ++ t ∷ [] }

-- the bucket without the entry x at slot i, which the last entry takes
abbrev pub popped_over : {E : Type 0} → Window E → ℕ → E → Window E
popped_over w i x = record { slots = swap_remove w.slots i x; tags = swap_remove w.tags i 0 }

-- the bucket without the entry at slot i; the others keep their order
abbrev pub shifted_out : {E : Type 0} → Window E → ℕ → Window E
shifted_out w i = record { slots = remove w.slots i; tags = remove w.tags i }

-- the bucket with the entry x at slot i
abbrev pub written_over : {E : Type 0} → Window E → ℕ → E → Window E
written_over w i x = record { slots = slice_set w.slots i x; tags = w.tags }

-- each entry that passes p has the tag t
abbrev pub IsTagged : {E : Type 0} → (E → Bool) → ℕ → Window E → Type 0
IsTagged {E} p t w = (j : ℕ) (e : E) → j < length w.slots → p (slice_index_or w.slots j e) ≡ true → slice_index w.tags j ≡ t

-- the tag of a slot, if it is in use
abbrev pub tag_there : ℕ → Option ℕ
tag_there zero = None
tag_there (suc t) = Some (suc t)

-- the first values of f up to its first `None`, at most n
unfoldable pub gather : {X : Type 0} → (ℕ → Option X) → ℕ → List X
gather f zero = []
gather f (suc n) = elim (f 0) [ None ↦ [] | Some x ↦ x ∷ gather (λ j. f (suc j)) n ]

module _ {E : Type 0} (rows : List (List ℕ)) (cells : List (Option E)) where
  -- the entry at slot j of bucket i, if there is one
  abbrev pub cell_at : ℕ → ℕ → Option E
  cell_at i j = slice_index_or cells (32 * i + j) None

  -- the tag at slot j of bucket i; `None` if the slot is free
  abbrev pub tag_at : ℕ → ℕ → Option ℕ
  tag_at i j = tag_there (slice_index_or (slice_index_or rows i []) j 0)

  -- the entries in the slots of bucket i, with their tags
  abbrev pub window_at : ℕ → Window E
  window_at i = record { slots = gather (cell_at i) 32; tags = gather (tag_at i) 32 }

  -- all buckets
  abbrev pub windows : List (Window E)
  windows = map window_at (range_with_len 0 (length rows))

  -- bucket i has the entries xs with the tags ts in its first slots, and its other slots are free
  pub record IsPackedWindow (i : ℕ) (xs : List E) (ts : List ℕ) : Type 0 where
    pub cells_are : (j : ℕ) → j < 32 → cell_at i j ≡ slice_get xs j
    pub tags_are : (j : ℕ) → j < 32 → tag_at i j ≡ slice_get ts j
    pub most : length xs ≤ 32
    pub same : length ts ≡ length xs

  -- what holds of the fields of the columns
  pub record IsColumns : Type 0 where
    pub few : length rows ≤ 2 ^ 58
    pub sized : length cells ≡ 32 * length rows
    pub lanes : (i : ℕ) → i < length rows → length (slice_index_or rows i []) ≡ 32
    pub packed : (i : ℕ) → i < length rows → IsPackedWindow i (window_at i).slots (window_at i).tags
