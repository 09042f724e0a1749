-- Which cells hold an entry, and which are free.
use Rattle.std.specs.Prelude.{◌≡◌, ℕ, ◌<◌, List, length, slice_index_or, Option, Some, None}

module _ {X : Type 0} where
  -- cell i holds an entry
  abbrev pub IsFilled : List (Option X) → ℕ → Type 0
  IsFilled cells i = (x : X) × (slice_index_or cells i None ≡ Some x)

  -- cell i exists, and is free
  abbrev pub IsEmptyCell : List (Option X) → ℕ → Type 0
  IsEmptyCell cells i = (i < length cells) × (slice_index_or cells i None ≡ None)

  -- no cell holds an entry
  abbrev pub IsDrained : List (Option X) → Type 0
  IsDrained cells = (i : ℕ) → slice_index_or cells i None ≡ None
