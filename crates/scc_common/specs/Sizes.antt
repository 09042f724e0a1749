-- The sizes of an array.
use Rattle.std.specs.Prelude.{◌≡◌, ℕ, ◌*◌, ◌^◌, ◌<◌, ◌≤◌, ◌⊎◌, min, max}
use Rattle.std.specs.Int.{IsPowerOfTwo}

-- `slots` is the least power of two that is at least `wanted` and at least 64, or 2 ^ 63 if that is less
pub record IsArraySize (wanted slots : ℕ) : Type 0 where
  pub power : IsPowerOfTwo slots
  pub least : 64 ≤ slots
  pub most : slots ≤ 2 ^ 63
  pub enough : min wanted (2 ^ 63) ≤ slots
  pub fewest : (other : ℕ) → IsPowerOfTwo other → 64 ≤ other → min wanted (2 ^ 63) ≤ other → slots ≤ other

-- an array may have `buckets` buckets, of 32 slots each
pub record IsBucketCount (buckets : ℕ) : Type 0 where
  pub power : IsPowerOfTwo buckets
  pub least : 2 ≤ buckets
  pub most : buckets ≤ 2 ^ 58

-- there is no array, or `buckets` is a lawful number of buckets
abbrev pub IsLawful : ℕ → Type 0
IsLawful buckets = (buckets ≡ 0) ⊎ IsBucketCount buckets

-- an array of `from` buckets with `held` entries may shrink to one of `to`: the entries are at most an eighth of the
-- slots, and the new slots are the greater of the sizes for the minimum and for twice the entries
pub record IsSmaller (minimum held from to : ℕ) : Type 0 where
  pub few : 8 * held ≤ 32 * from
  pub fewer : to < from
  pub size : (m n : ℕ) → IsArraySize minimum m → IsArraySize (2 * held) n → 32 * to ≡ max m n
