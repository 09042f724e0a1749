-- The entry at which a search for a key ends.
use Rattle.std.proofs.Common.{◌≡◌, ◌∙◌, Bool, true, Some, ap, sym}
use Rattle.std.specs.Cmp.{IsEquivalence}
use Rattle.std.specs.List.{slice_get}
use Rattle.scc_buckets.specs.declared.place.Place.{Place}
use Rattle.scc_common.specs.Contents.{Contents, entries}
use Rattle.scc_owned.specs.Lookups.{Lookups, AreLawful}
use Rattle.scc_table.specs.Places.{IsFoundAt, index_of}

module _ {E K V S : Type 0} {l : Lookups E K V} {key : E → K} (lawful : AreLawful l key) (same : K → K → Bool) (c : Contents E S) (k : K) (p : Place) (found : IsFoundAt (λ e. same k (key e)) c p) (e : E) (got : slice_get (entries c) (index_of c p) ≡ Some e) where
  -- a look-up finds the entry at the place
  pub get-found : l.find (same k) (entries c) ≡ Some e
  get-found = let f = lawful.first (same k) (entries c) (index_of c p) found.found in f.1.found ∙ sym f.1.here ∙ got

  -- a value that may stand under the key of the entry may stand under k
  pub get-allowed : (laws : IsEquivalence same) (allows : K → V → Type 0) → ((j q : K) (v : V) → same j q ≡ true → allows j v → allows q v) → (j : K) (v : V) → j ≡ key e → allows j v → allows k v
  get-allowed laws allows alike j v is h =
      let f = lawful.first (same k) (entries c) (index_of c p) found.found in
      let both : Some f.0 ≡ Some e = sym f.1.here ∙ got in
      let this : f.0 ≡ e = cc in
      let equal : same k j ≡ true = ap (same k) (is ∙ ap key (sym this)) ∙ f.1.equal in
      alike j k v (laws.symm j k ∙ equal) h
