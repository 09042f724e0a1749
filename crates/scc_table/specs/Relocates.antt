-- What a call does to the waiting buckets.
use Rattle.std.specs.Prelude.{◌≡◌, ◌≢◌, ◌==◌, ℕ, ◌+◌, ◌-◌, ◌*◌, ◌<◌, ◌≤◌, ◌++◌, List, length, drop, not}
use Rattle.std.specs.List.{filter, All}
use Rattle.scc_common.specs.Contents.{Contents, entries, bucket_count, list_of, settings_of, waiting_of, owed_of, pending_of}
use Rattle.scc_buckets.specs.Pour.{destined_for}
use Rattle.scc_common.specs.Sizes.{IsArraySize, IsSmaller}
use Rattle.scc_table.specs.TwoArrays.{pending_targets, IsWaiting}

-- the waiting buckets ts after two relocations: bucket i, if it is among them, and then the first ones
abbrev pub left_after : ℕ → List ℕ → List ℕ
left_after i ts = drop (length (filter (λ t. not (t == i)) ts) + 2 - length ts) (filter (λ t. not (t == i)) ts)

module _ {E S : Type 0} where
  -- the array has fewer slots than the minimum
  pub record IsBelowMinimum (minimum : ℕ) (c : Contents E S) : Type 0 where
    pub array : 0 < bucket_count c
    pub fewer : (slots : ℕ) → IsArraySize minimum slots → 32 * bucket_count c < slots

  -- a shrink is due, for the minimum `minimum`
  pub record IsShrinkDue (minimum : ℕ) (c : Contents E S) : Type 0 where
    pub buckets : ℕ
    pub smaller : IsSmaller minimum (length (entries c)) (bucket_count c) buckets

  -- after a resize, every bucket waits; without one, no bucket starts to wait, and if no resize is due, the waiting
  -- buckets stay, and so does what the old array owes
  pub record Spreads (due : Type 0) (c d : Contents E S) : Type 0 where
    pub all : bucket_count d ≢ bucket_count c → pending_of d ≡ bucket_count d
    pub fewer : bucket_count d ≡ bucket_count c → (i : ℕ) → IsWaiting d i → IsWaiting c i
    pub less : bucket_count d ≡ bucket_count c → pending_of d ≤ pending_of c
    pub waiting : (due → ⊥) → waiting_of d ≡ waiting_of c
    pub owed : (due → ⊥) → owed_of d ≡ owed_of c

  -- the first n buckets of ts are relocated, and the others wait; but if memory is refused for a bucket, which then
  -- holds more than 32 entries, it waits too: `kept` are these of the first n
  pub record AreMovedFrom (ts : List ℕ) (n : ℕ) (d : Contents E S) : Type 0 where
    pub kept : List ℕ
    pub left : pending_targets d ≡ kept ++ drop n ts
    pub long : All (λ i. 32 < length (list_of d i)) kept

  -- the first n buckets that waited are relocated, but those for which memory is refused
  abbrev pub IsMovedUpTo : ℕ → Contents E S → Contents E S → Type 0
  IsMovedUpTo n c d = AreMovedFrom (pending_targets c) n d

  -- bucket i, if it is among ts, and then the first others of ts are relocated, two in all, but those for which memory
  -- is refused
  abbrev pub AreMovedBeside : ℕ → List ℕ → Contents E S → Type 0
  AreMovedBeside i ts d = AreMovedFrom (filter (λ t. not (t == i)) ts) (length (filter (λ t. not (t == i)) ts) + 2 - length ts) d

  -- no waiting bucket holds more than 32 entries
  pub record AreShort (c : Contents E S) : Type 0 where
    pub short : (i : ℕ) → IsWaiting c i → length (list_of c i) ≤ 32

  -- no bucket of n would hold more than 32 of the entries
  pub record AreShortAmong (hash : E → ℕ) (n : ℕ) (c : Contents E S) : Type 0 where
    pub short : (i : ℕ) → i < n → length (destined_for hash (settings_of c).skipped n i (entries c)) ≤ 32

  -- no bucket of n but bucket k would hold more than 32 of the entries
  pub record AreShortBut (hash : E → ℕ) (n k : ℕ) (c : Contents E S) : Type 0 where
    pub short : (i : ℕ) → i < n → i ≢ k → length (destined_for hash (settings_of c).skipped n i (entries c)) ≤ 32
