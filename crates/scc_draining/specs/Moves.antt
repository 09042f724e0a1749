-- Moves of the entries of one bucket of a new array out of an old one.
use Rattle.std.specs.Prelude.{◌≡◌, ◌==◌, ℕ, ◌+◌, ◌*◌, ◌^◌, ◌<◌, ◌≤◌, ◌⊎◌, Bool, not, List, [], length, slice_set, IsTrue}
use Rattle.std.specs.List.{filter, flat_map}
use Rattle.scc_array.specs.Shelves.{shelf_of}
use Rattle.scc_array.specs.Shelf.{Shelf, shelf_entries}
use Rattle.scc_common.specs.Contents.{Contents, bucket_count, lists_of, notes_of, settings_of}
use Rattle.scc_buckets.specs.Pour.{destined_for, Extends, IsPacked}
use Rattle.scc_common.specs.Routing.{bucket_number}
use Rattle.scc_buckets.specs.Tables.{IsOwn}

-- the entries es that don't belong to bucket i of n, in their order
abbrev pub others_for : {E : Type 0} → (E → ℕ) → ℕ → ℕ → ℕ → List E → List E
others_for hash t n i es = filter (λ e. not (bucket_number t n (hash e) == i)) es

-- m and n differ, and one is a multiple of the other
pub data AreMultiples (m n : ℕ) : Type 0 where
  grown : (r : ℕ) → 1 < r → n ≡ r * m → AreMultiples m n
  shrunk : (r : ℕ) → 1 < r → m ≡ r * n → AreMultiples m n

-- each bucket holds only entries that belong to it, with their tags
pub record AreOwn {E : Type 0} (hash : E → ℕ) (t : ℕ) (bs : List (Shelf E)) : Type 0 where
  pub own : (j : ℕ) → j < length bs → IsOwn hash t (length bs) j (shelf_of bs j)

-- the entries of old bucket j that belong to bucket i of n have moved to the end of bucket a, which becomes b; the
-- others keep their order
pub record Pulls {E : Type 0} (hash : E → ℕ) (t n i j : ℕ) (olds : List (Shelf E)) (a : Shelf E) (news : List (Shelf E)) (b : Shelf E) : Type 0 where
  pub same : news ≡ slice_set olds j (shelf_of news j)
  pub kept : shelf_entries (shelf_of news j) ≡ others_for hash t n i (shelf_entries (shelf_of olds j))
  pub own : IsOwn hash t (length olds) j (shelf_of news j)
  pub overflow : length (shelf_of news j).overflow ≤ length (shelf_of olds j).overflow
  pub moved : Extends hash a b (destined_for hash t n i (shelf_entries (shelf_of olds j)))

-- only the old buckets from `first` up to before `last` hold entries that belong to bucket i of n
pub record IsWithinSources {E : Type 0} (hash : E → ℕ) (t n i first last : ℕ) (olds : List (Shelf E)) : Type 0 where
  pub order : first ≤ last
  pub within : last ≤ length olds
  pub none : (j : ℕ) → (j < first) ⊎ (last ≤ j) → destined_for hash t n i (shelf_entries (shelf_of olds j)) ≡ []

-- the old buckets from `first` up to before `last` hold only entries that belong to bucket i of n
pub record AreJoined {E : Type 0} (hash : E → ℕ) (t n i first last : ℕ) (olds : List (Shelf E)) : Type 0 where
  pub all : (j : ℕ) → first ≤ j → j < last → destined_for hash t n i (shelf_entries (shelf_of olds j)) ≡ shelf_entries (shelf_of olds j)

-- the entries that belong to bucket i of n stand in the old buckets from `first` up to before `last`, if `whole` alone
-- there, and each old bucket holds only its own entries
pub record IsDrainable {E : Type 0} (hash : E → ℕ) (t n i first last : ℕ) (whole : Bool) (olds : List (Shelf E)) : Type 0 where
  pub sources : IsWithinSources hash t n i first last olds
  pub joined : IsTrue whole → AreJoined hash t n i first last olds
  pub few : (j : ℕ) → length (shelf_of olds j).overflow < 2 ^ 62
  pub own : AreOwn hash t olds

-- bucket i of `into` has room for the entries of old bucket j that belong to bucket i of n
pub record IsPullable {E : Type 0} (hash : E → ℕ) (t n i j : ℕ) (olds into : List (Shelf E)) : Type 0 where
  pub source : j < length olds
  pub few : length (shelf_of olds j).overflow < 2 ^ 62
  pub own : IsOwn hash t (length olds) j (shelf_of olds j)
  pub target : i < length into
  pub packed : IsPacked hash (shelf_of into i)
  pub room : length (shelf_entries (shelf_of into i)) + length (destined_for hash t n i (shelf_entries (shelf_of olds j))) ≤ 32 + (shelf_of into i).room

-- i and k are the two buckets that share an old bucket when the array doubles
abbrev pub AreSiblings : ℕ → ℕ → Type 0
AreSiblings i k = (j : ℕ) × (((i ≡ 2 * j) × (k ≡ 2 * j + 1)) ⊎ ((i ≡ 2 * j + 1) × (k ≡ 2 * j)))

-- the entries of all old buckets that belong to bucket i of n have moved to the end of bucket a, which becomes b; the
-- others keep their order
pub record Drains {E : Type 0} (hash : E → ℕ) (t n i : ℕ) (olds : List (Shelf E)) (a : Shelf E) (news : List (Shelf E)) (b : Shelf E) : Type 0 where
  pub count : length news ≡ length olds
  pub kept : (j : ℕ) → j < length olds → shelf_entries (shelf_of news j) ≡ others_for hash t n i (shelf_entries (shelf_of olds j))
  pub own : AreOwn hash t news
  pub overflow : (j : ℕ) → length (shelf_of news j).overflow ≤ length (shelf_of olds j).overflow
  pub moved : Extends hash a b (destined_for hash t n i (flat_map shelf_entries olds))

-- the n entries of the old array that belong to bucket i have become its list, in order; the old array keeps the
-- others, in order
pub record TakesOver {E S : Type 0} (hash : E → ℕ) (i n : ℕ) (c : Contents E S) (olds : List (Shelf E)) (d : Contents E S) (news : List (Shelf E)) : Type 0 where
  pub lists : lists_of d ≡ slice_set (lists_of c) i (destined_for hash (settings_of c).skipped (bucket_count c) i (flat_map shelf_entries olds))
  pub moved : n ≡ length (destined_for hash (settings_of c).skipped (bucket_count c) i (flat_map shelf_entries olds))
  pub settings : settings_of d ≡ settings_of c
  pub refused : notes_of d ≡ notes_of c
  pub count : length news ≡ length olds
  pub kept : (j : ℕ) → j < length olds → shelf_entries (shelf_of news j) ≡ others_for hash (settings_of c).skipped (bucket_count c) i (shelf_entries (shelf_of olds j))
  pub own : AreOwn hash (settings_of c).skipped news
  pub overflow : (j : ℕ) → length (shelf_of news j).overflow ≤ length (shelf_of olds j).overflow
