-- What a cache holds, and what always holds of a cache.
use Rattle.std.specs.Prelude.{ℕ, Bool, ◌*◌, ◌^◌, ◌≤◌, refl}
use Rattle.std.specs.Coded.{Coded, code_by, coded×, coded_ℕ}
use Rattle.std.specs.Int.{IsPowerOfTwo}
use Rattle.scc_buckets.specs.Bounded.{IsListed}
use Rattle.scc_common.specs.Contents.{Contents, contents_code, bucket_count, minimum_of}
use Rattle.scc_common.specs.Pairs.{IsUnique}

-- the contents, which are the lists of the buckets with the settings, and the maximum of slots
pub record Cached (E S : Type 0) : Type 0 where
  pub contents : Contents E S
  pub maximum : ℕ

-- a cache, as the logic has it
abbrev pub cached_code : {E S : Type 0} → Coded E → Coded S → Coded (Cached E S)
cached_code {E} {S} e s = code_by (Contents E S × ℕ) (coded× (contents_code e s) coded_ℕ) (λ c. (c.contents, c.maximum)) (λ p. record { contents = p.0; maximum = p.1 }) (λ _. refl)

-- the state of a cache: a lawful number of lists, each with at most 32 pairs, and each pair in the list that the hash
-- of its key names; no two keys are equal; the slots are at most the maximum, which is a power of two from 64 to 2^63
-- and at least the minimum
pub record IsCacheState {K V S : Type 0} (eq : K → K → Bool) (hash : K → ℕ) (c : Cached (K × V) S) : Type 0 where
  pub lists : IsListed (λ p. hash p.0) c.contents
  pub unique : IsUnique eq c.contents
  pub within : 32 * bucket_count c.contents ≤ c.maximum
  pub power : IsPowerOfTwo c.maximum
  pub least : 64 ≤ c.maximum
  pub most : c.maximum ≤ 2 ^ 63
  pub minimum : minimum_of c.contents ≤ c.maximum
