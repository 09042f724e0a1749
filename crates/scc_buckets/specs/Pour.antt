-- Entries that move to the buckets of their hashes.
use Rattle.std.specs.Prelude.{◌≡◌, ◌==◌, ℕ, ◌<◌, ◌≤◌, ◌⊎◌, List, [], ◌++◌, length, map}
use Rattle.std.specs.List.{filter}
use Rattle.scc_common.specs.Contents.{Contents, entries, bucket_count, settings_of, list_of}
use Rattle.scc_common.specs.Routing.{bucket_number, tag_of}
use Rattle.scc_array.specs.Shelf.{Shelf, shelf_entries}

-- the entries es that belong to bucket i of n, in their order
abbrev pub destined_for : {E : Type 0} → (E → ℕ) → ℕ → ℕ → ℕ → List E → List E
destined_for hash t n i es = filter (λ e. bucket_number t n (hash e) == i) es

-- the overflow list of b is used only if all slots are, and its tags are those of its entries
pub record IsPacked {E : Type 0} (hash : E → ℕ) (b : Shelf E) : Type 0 where
  pub last : (32 ≤ length b.slots) ⊎ (b.overflow ≡ [])
  pub tagged : b.tags ≡ map (λ e. tag_of (hash e)) b.slots
  pub within : length b.slots ≤ 32

-- bucket b is bucket a with the entries es at its end
pub record Extends {E : Type 0} (hash : E → ℕ) (a b : Shelf E) (es : List E) : Type 0 where
  pub entries_are : shelf_entries b ≡ shelf_entries a ++ es
  pub room : a.room ≤ b.room
  pub packed : IsPacked hash b

-- d has n buckets, each with the entries of c that belong to it, in the order that they had in c
pub record IsRegrouped {E S : Type 0} (hash : E → ℕ) (n : ℕ) (c d : Contents E S) : Type 0 where
  pub count : bucket_count d ≡ n
  pub each : (i : ℕ) → i < n → list_of d i ≡ destined_for hash (settings_of c).skipped n i (entries c)
  pub settings : settings_of d ≡ settings_of c
