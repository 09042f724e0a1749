-- Where a key belongs.
use Rattle.std.specs.Prelude.{ℕ, refl}
use Rattle.std.specs.Coded.{Coded, code_by, coded×, coded_ℕ}
use Rattle.std.specs.Hash.{HashWrites}
use Rattle.std.specs.declared.hash.Hasher as hasher
use Rattle.std.specs.declared.hash.BuildHasher as builder
use Rattle.scc_common.specs.Contents.{Contents, settings_of}
use Rattle.scc_common.specs.Hashing.{hash_of}

-- the hasher, and how many first bits of each hash are skipped
pub record Route (S : Type 0) : Type 0 where
  pub hasher : S
  pub skipped : ℕ

-- a route as the logic holds it
abbrev pub route_code : {S : Type 0} → Coded S → Coded (Route S)
route_code {S} s = code_by (S × ℕ) (coded× s coded_ℕ) (λ r. (r.hasher, r.skipped)) (λ p. record { hasher = p.0; skipped = p.1 }) (λ _. refl)

-- the route of the keys of c
abbrev pub route_of : {E S : Type 0} → Contents E S → Route S
route_of c = record { hasher = (settings_of c).hasher; skipped = (settings_of c).skipped }

-- the hash of k under the hasher of r
abbrev pub hash_by : {S T K : Type 0} → builder.Ghosts S T → hasher.Ghosts T → (K → HashWrites) → Route S → K → ℕ
hash_by build feed input r k = hash_of build feed r.hasher (input k)
