-- How pairs are compared and copied, for entries of any kind.
use Rattle.std.specs.Prelude.{◌≡◌, ℕ, Bool, false, ◌⊎◌, List, None, Some, slice_get, slice_set}
use Rattle.scc_buckets.specs.declared.place.Place.{Place}
use Rattle.scc_common.specs.Contents.{Contents, entries, hash_in}
use Rattle.scc_owned.specs.Insertions.{RestsRefused}
use Rattle.scc_owned.specs.Lookups.{Lookups}
use Rattle.scc_table.specs.Places.{IsInsertedAt}

module _ {E K V : Type 0} (l : Lookups E K V) (same : K → K → Bool) where
  -- `result` tells whether the entries have k with a value that equals v
  abbrev pub HasEqual : (V → V → Bool) → List E → K → V → Bool → Type 0
  HasEqual equal es k v result = ((l.find (same k) es ≡ None) × (result ≡ false)) ⊎ ((q : K) × (w : V) × (l.find (same k) es ≡ Some (l.made q w)) × (result ≡ equal w v))

  -- the pair of k and v was inserted into c, which lacked k, and d is left
  abbrev pub InsertsMissing : {S : Type 0} → Contents E S → K → V → Contents E S → Type 0
  InsertsMissing c k v d = (l.find (same k) (entries c) ≡ None) × ((p : Place) × IsInsertedAt c (l.made k v) d p)

  -- the pair of k and v was inserted into the part that k routes to, and the parts qs are left
  abbrev pub InsertsRouted : {S : Type 0} → (K → ℕ) → List (Contents E S) → K → V → List (Contents E S) → Type 0
  InsertsRouted {S} route ps k v qs = (c : Contents E S) × (d : Contents E S) × (slice_get ps (route k) ≡ Some c) × InsertsMissing c k v d × (qs ≡ slice_set ps (route k) d)

  -- clones of the key and the value of the entry e were inserted into the part of the cloned key
  abbrev pub InsertsClones : {S : Type 0} → (K → K → Type 0) → (V → V → Type 0) → (K → ℕ) → List (Contents E S) → E → List (Contents E S) → Type 0
  InsertsClones keys values route ps e qs = (k : K) × (v : V) × (key : K) × (value : V) × (e ≡ l.made k v) × keys k key × values v value × InsertsRouted route ps key value qs

  -- the pair of k and a value wasn't inserted into c, since c has k, or since memory was refused; d is left
  abbrev pub InsertsNothing : {S : Type 0} → Bool → (S → K → ℕ) → (E → K) → Contents E S → K → Contents E S → Type 0
  InsertsNothing taking hash_of key c k d = ((e : E) × (l.find (same k) (entries c) ≡ Some e) × (d ≡ c)) ⊎ ((l.find (same k) (entries c) ≡ None) × RestsRefused key taking same (hash_in hash_of c) c k d)
