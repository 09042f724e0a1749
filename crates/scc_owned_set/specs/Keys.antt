-- The words on keys.
use Rattle.std.specs.Prelude.{◌≡◌, ℕ, Bool, cond, List, Option}
use Rattle.std.specs.List.{IsDistinct, find as first_passing}
use Rattle.std.specs.Set.{remove_key, swap_key}
use Rattle.scc_common.specs.Contents.{Contents, entries, HasRoomBy}
use Rattle.scc_common.specs.Mapped.{mapped}

module _ {K : Type 0} (eq : K → K → Bool) where
  -- the key that equals k
  abbrev pub find : List K → K → Option K
  find ks k = first_passing (eq k) ks

  -- the keys that don't equal k
  abbrev pub without : List K → K → List K
  without ks k = remove_key (eq k) ks

  -- the keys with k in the place of the key that equals k
  abbrev pub with_key : List K → K → List K
  with_key ks k = swap_key (eq k) ks k

  -- a look-up of k finds `there` in the new keys, and every other look-up what it found in the old keys
  pub record FindsInstead (old : List K) (k : K) (there : Option K) (new : List K) : Type 0 where
    pub finds : (q : K) → find new q ≡ cond (eq q k) there (find old q)

module _ {K S : Type 0} where
  -- the contents of a set over a map with unit values
  abbrev pub of_map : Contents (K × Unit {0}) S → Contents K S
  of_map c = mapped (λ p. p.0) c

  -- no two keys are equal
  abbrev pub IsUnique : (K → K → Bool) → Contents K S → Type 0
  IsUnique eq c = IsDistinct eq (entries c)

  -- there is an array, and the bucket of k holds fewer than 32 keys
  abbrev pub HasRoom : (K → ℕ) → Contents K S → K → Type 0
  HasRoom hash c k = HasRoomBy hash (λ q. q) c k
