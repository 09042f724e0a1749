-- What holds of the fields of buckets.
use Rattle.std.specs.Prelude.{◌≡◌, ℕ, ◌^◌, ◌<◌, ◌≤◌, Bool, List, [], length, map, slice_index_or}
use Rattle.std.specs.List.{flat_map, sum_by, IsDistinct}
use Rattle.scc_common.specs.Routing.{bucket_number, tag_of}
use Rattle.scc_array.specs.Shelf.{Shelf, shelf_entries}
use Rattle.scc_common.specs.Sizes.{IsLawful}

-- how many entries of the buckets stand in overflow lists
abbrev pub overflow_in : {E : Type 0} → List (Shelf E) → ℕ
overflow_in bs = sum_by (λ b. length b.overflow) bs

-- bucket i: its tags are those of its entries, and each entry belongs to it
pub record IsOwn {E : Type 0} (hash : E → ℕ) (skipped count i : ℕ) (b : Shelf E) : Type 0 where
  pub tagged : b.tags ≡ map (λ e. tag_of (hash e)) b.slots
  pub routed : (j : ℕ) (d : E) → j < length (shelf_entries b) → bucket_number skipped count (hash (slice_index_or (shelf_entries b) j d)) ≡ i
  pub within : length b.slots ≤ 32

-- the number of buckets is lawful, each entry stands in the bucket of its hash, and `count` entries are held,
-- `overflowing` of them in overflow lists
pub record IsBuckets {E : Type 0} (hash : E → ℕ) (skipped : ℕ) (bs : List (Shelf E)) (count overflowing : ℕ) : Type 0 where
  pub sized : IsLawful (length bs)
  pub counted : count ≡ sum_by (λ b. length (shelf_entries b)) bs
  pub spilled : overflowing ≡ sum_by (λ b. length b.overflow) bs
  pub few : overflowing < 2 ^ 62
  pub own : (i : ℕ) (b : Shelf E) → i < length bs → b ≡ slice_index_or bs i b → IsOwn hash skipped (length bs) i b

-- what holds of all fields of buckets
pub record AreBuckets {E K : Type 0} (eq : K → K → Bool) (key : E → K) (hash : K → ℕ) (skipped minimum : ℕ) (bs : List (Shelf E)) (count overflowing : ℕ) : Type 0 where
  pub table : IsBuckets (λ e. hash (key e)) skipped bs count overflowing
  pub small_minimum : minimum ≤ 2 ^ 63
  pub unique : IsDistinct eq (map key (flat_map shelf_entries bs))

-- no bucket holds an entry
pub record AllEmpty {E : Type 0} (bs : List (Shelf E)) : Type 0 where
  pub empty : (i : ℕ) (b : Shelf E) → i < length bs → b ≡ slice_index_or bs i b → (shelf_entries b ≡ []) × (b.tags ≡ [])
