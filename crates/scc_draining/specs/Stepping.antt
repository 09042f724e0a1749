-- Steps from entry to entry of one bucket in an old array.
use Rattle.std.specs.Prelude.{◌≡◌, ℕ, ◌<◌, List, ◌++◌, length, take, Some, slice_get}
use Rattle.std.specs.List.{flat_map}
use Rattle.scc_array.specs.Shelves.{shelf_of}
use Rattle.scc_array.specs.Shelf.{Shelf, shelf_entries}
use Rattle.scc_buckets.specs.Pour.{destined_for}
use Rattle.scc_common.specs.Routing.{bucket_number}

-- the entries of the old array before slot s of bucket j, in the order of the buckets
abbrev pub entries_before : {E : Type 0} → List (Shelf E) → ℕ → ℕ → List E
entries_before olds j s = flat_map shelf_entries (take j olds) ++ take s (shelf_entries (shelf_of olds j))

-- slot s of old bucket j has an entry of bucket i of n, and the entries of bucket i before it are those before slot b
-- of old bucket a
pub record StandsNext {E : Type 0} (hash : E → ℕ) (t n i : ℕ) (olds : List (Shelf E)) (a b j s : ℕ) : Type 0 where
  pub entry : E
  pub within : j < length olds
  pub here : slice_get (shelf_entries (shelf_of olds j)) s ≡ Some entry
  pub target : bucket_number t n (hash entry) ≡ i
  pub before : destined_for hash t n i (entries_before olds j s) ≡ destined_for hash t n i (entries_before olds a b)
