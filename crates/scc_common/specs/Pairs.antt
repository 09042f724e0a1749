-- The words on pairs of keys and values, which map, index and cache share.
use Rattle.std.specs.Prelude.{◌≡◌, ℕ, Bool, cond, List, Option}
use Rattle.std.specs.Map.{lookup_entry, remove_entry}
use Rattle.scc_common.specs.Contents.{Contents, HasRoomBy, IsUniqueBy}

module _ {K V : Type 0} (eq : K → K → Bool) where
  -- the pair whose key equals k
  abbrev pub find : List (K × V) → K → Option (K × V)
  find es k = lookup_entry (eq k) es

  -- the pairs without the pair whose key equals k
  abbrev pub without : List (K × V) → K → List (K × V)
  without es k = remove_entry (eq k) es

  -- a look-up of a key equal to k finds `there` in the new pairs, and a look-up of another key finds what it found in
  -- the old ones
  pub record FindsInstead (old : List (K × V)) (k : K) (there : Option (K × V)) (new : List (K × V)) : Type 0 where
    pub finds : (q : K) → find new q ≡ cond (eq q k) there (find old q)

module _ {K V S : Type 0} where
  -- no two keys are equal
  abbrev pub IsUnique : (K → K → Bool) → Contents (K × V) S → Type 0
  IsUnique eq c = IsUniqueBy eq (λ p. p.0) c

  -- there is an array, and the bucket of k holds fewer than 32 pairs
  abbrev pub HasRoom : (K → ℕ) → Contents (K × V) S → K → Type 0
  HasRoom hash c k = HasRoomBy hash (λ p. p.0) c k

-- the pair p with the value v
abbrev pub with_pair_value : {K V : Type 0} → K × V → V → K × V
with_pair_value p v = (p.0, v)

-- the pair p with the key k
abbrev pub with_pair_key : {K V : Type 0} → K × V → K → K × V
with_pair_key p k = (k, p.1)
