-- What the calls do that return the value of a key, and make one that is missing.
use Rattle.std.specs.Prelude.{◌≡◌, ◌⊎◌, ℕ, Bool, Option, None, Some, Result, Ok, Err, MatchResult}
use Rattle.scc_buckets.specs.declared.place.Place.{Place}
use Rattle.scc_common.specs.Contents.{Contents}
use Rattle.scc_owned.specs.Insertions.{InsertsInto}
use Rattle.scc_owned.specs.Lookups.{Lookups}

-- a call with the key k turns c into d. `found` is the entry of k in c, if there is one
module _ {E K V S : Type 0} (l : Lookups E K V) (key : E → K) (value_of : E → V) (same : K → K → Bool) (hash_of : S → K → ℕ) (taking : Bool) (c : Contents E S) (k : K) where
  -- the pair of k and v is inserted, or memory for it is refused
  abbrev pub InsertsValue : V → Contents E S → Type 0
  InsertsValue v d = (r : Result Place (K × V)) × InsertsInto key same hash_of taking c k v (l.made k v) r d

  -- the call returns the value of k, and nothing changes; or a value v for which P holds, which it inserts
  abbrev pub GetsOrInserts : (V → Type 0) → Option E → V → Contents E S → Type 0
  GetsOrInserts P (Some e) v d = (v ≡ value_of e) × (d ≡ c)
  GetsOrInserts P None v d = P v × InsertsValue v d

  module _ {X : Type 0} where
    -- as `GetsOrInserts`, or it returns an error for which Q holds, and nothing changes
    abbrev pub TriesToGet : (V → Type 0) → (X → Type 0) → Option E → Result V X → Contents E S → Type 0
    TriesToGet P Q (Some e) (Ok v) d = (v ≡ value_of e) × (d ≡ c)
    TriesToGet P Q (Some e) (Err x) d = ⊥
    TriesToGet P Q None (Ok v) d = P v × InsertsValue v d
    TriesToGet P Q None (Err x) d = Q x × (d ≡ c)

    -- the result is a clone of the value of e, or the clone failed
    abbrev pub ClonesValue : (V → V → Type 0) → (V → Type 0) → E → Result V X → Type 0
    ClonesValue C Sure e r = MatchResult r (C (value_of e)) (λ _. Sure (value_of e) → ⊥)

    -- the pair of k and v is inserted, and a clone of its value is returned; or memory is refused, and v itself is
    -- returned
    abbrev pub InsertsCloned : (V → V → Type 0) → (V → Type 0) → V → Result V X → Contents E S → Type 0
    InsertsCloned C Sure v r d = ((p : Place) × InsertsInto key same hash_of taking c k v (l.made k v) (Ok p) d × ClonesValue C Sure (l.made k v) r) ⊎ ((q : K × V) × InsertsInto key same hash_of taking c k v (l.made k v) (Err q) d × (r ≡ Ok v))

    -- the call returns a clone of the value of k, and nothing changes; or of a value for which P holds, which it inserts
    abbrev pub GetsCloned : (V → V → Type 0) → (V → Type 0) → (V → Type 0) → Option E → Result V X → Contents E S → Type 0
    GetsCloned C Sure P (Some e) r d = ClonesValue C Sure e r × (d ≡ c)
    GetsCloned C Sure P None r d = (v : V) × P v × InsertsCloned C Sure v r d
