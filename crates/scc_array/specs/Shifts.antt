-- A list in which the elements after a gap have moved up by one position.
use Rattle.std.specs.Prelude.{◌≡◌, ℕ, ◌+◌, ◌<◌, ◌≤◌, ◌⊎◌, List, length, slice_index_or}

-- each position from `gap` to before `last` has the next element, and `last` has d; the other positions stay
pub record Closes {X : Type 0} (d : X) (xs : List X) (gap last : ℕ) (ys : List X) : Type 0 where
  pub count : length ys ≡ length xs
  pub moved : (q : ℕ) → gap ≤ q → q < last → slice_index_or ys q d ≡ slice_index_or xs (q + 1) d
  pub end : slice_index_or ys last d ≡ d
  pub others : (q : ℕ) → (q < gap) ⊎ (last < q) → slice_index_or ys q d ≡ slice_index_or xs q d
