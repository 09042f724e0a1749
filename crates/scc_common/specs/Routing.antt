-- The bucket of a hash, and the stripe of a hash.
use Rattle.std.specs.Prelude.{ℕ, ◌+◌, ◌*◌, ◌/◌, ◌%◌, ◌^◌}
use Rattle.std.specs.Hash.{HashWrites}
use Rattle.std.specs.declared.hash.Hasher as hasher
use Rattle.std.specs.declared.hash.BuildHasher as builder
use Rattle.scc_common.specs.Hashing.{hash_of}

-- the number that the first bits of the hash after the skipped ones write, for a power of two of buckets; 0 if there
-- are none
abbrev pub bucket_number : ℕ → ℕ → ℕ → ℕ
bucket_number skipped buckets hash = ((hash * 2 ^ skipped) % 2 ^ 64) * buckets / 2 ^ 64

-- the tag of an entry with the hash `hash`
abbrev pub tag_of : ℕ → ℕ
tag_of hash = 128 + hash % 128

-- the stripe of a hash among `stripes`: the number that its first bits write
abbrev pub stripe_number : ℕ → ℕ → ℕ
stripe_number stripes hash = bucket_number 0 stripes hash

-- the stripe of k among `stripes`, under the hasher h
abbrev pub stripe_of : {S T K : Type 0} → builder.Ghosts S T → hasher.Ghosts T → (K → HashWrites) → S → ℕ → K → ℕ
stripe_of build feed input h stripes k = stripe_number stripes (hash_of build feed h (input k))
