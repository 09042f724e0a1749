-- An entry with a key is the only entry with that key.
use Rattle.std.proofs.Common.{◌≡◌, ℕ, zero, suc, ◌<◌, Bool, true, false, Some, None, List, [], ◌∷◌, length, map, sym, ap, ◌∙◌, subst, inl, inr}
use Rattle.std.specs.Cmp.{IsEquivalence}
use Rattle.std.specs.List.{find, position, slice_get, IsDistinct, AllByRecursion}
use Rattle.std.specs.Option.{option_map}
use Rattle.std.proofs.lemmas.Map.Keys.{IsDistinct-head, IsDistinct-tail}
use Rattle.scc_array.proofs.Gets.{get-within}
use Rattle.scc_array.proofs.Joined.{true-or-false}
use Rattle.scc_array.specs.Hints.{IsPassing, IsPassingAt}
use Rattle.scc_array.specs.Shelf.{Shelf, shelf_entries}
use Rattle.scc_array.specs.Shelves.{shelf_of}
use Rattle.scc_common.specs.Contents.{Contents, Settings, entries}
use Rattle.scc_buckets.specs.Places.{IsFoundAtSpot, IsSpot, index_of_spot}
use Rattle.scc_buckets.specs.declared.place.Place.{Place}
use Rattle.scc_buckets.proofs.Arrays.{shelf-at}
use Rattle.scc_buckets.proofs.FindingLemmas.{position_hit, position_cons}
use Rattle.scc_buckets.proofs.Spots.{place-get}
use Rattle.scc_buckets.proofs.Views.{view_of, count-view, list-view}

module _ {E K : Type 0} (eq : K → K → Bool) (key : E → K) where
  apart : (a : K) (es : List E) (j : ℕ) (x : E) → AllByRecursion (λ b. eq a b ≡ false) (map key es) → slice_get es j ≡ Some x → eq a (key x) ≡ false
  apart a [] j x all h = absurd (let s : None ≡ Some x = h in cc)
  apart a (e ∷ es) zero x all h = let same : e ≡ x = let s : Some e ≡ Some x = h in cc in subst (λ y. eq a (key y) ≡ false) same all.0
  apart a (e ∷ es) (suc j) x all h = apart a es j x all.1 h

  find-at : (laws : IsEquivalence eq) (k : K) (es : List E) (j : ℕ) (x : E) → IsDistinct eq (map key es) → slice_get es j ≡ Some x → eq k (key x) ≡ true → find (λ e. eq k (key e)) es ≡ Some x
  find-at laws k [] j x d h w = absurd (let s : None ≡ Some x = h in cc)
  find-at laws k (e ∷ es) zero x d h w =
      let s : Some e ≡ Some x = h in
      let same : x ≡ e = cc in
      let here : eq k (key e) ≡ true = subst (λ y. eq k (key y) ≡ true) same w in
      rw here s
  find-at laws k (e ∷ es) (suc j) x d h w =
      let off : eq (key e) (key x) ≡ false = apart (key e) es j x (IsDistinct-head eq (key e) (map key es) d) h in
      elim (true-or-false (eq k (key e))) [
        | inl y ↦ absurd (let both : true ≡ false = sym w ∙ laws.congr k (key e) (key x) y ∙ off in cc)
        | inr n ↦ rw n (find-at laws k es j x (IsDistinct-tail eq (key e) (map key es) d) h w)
      ]

  -- `find` returns the entry that has the key
  pub find-passing : (laws : IsEquivalence eq) (k : K) (es : List E) (x : E) → IsDistinct eq (map key es) → IsPassing (λ e. eq k (key e)) es x → find (λ e. eq k (key e)) es ≡ Some x
  find-passing laws k es x d r = find-at laws k es r.slot.0 x d r.slot.1 r.passes

  -- `position` returns the index of the entry that has the key
  position-at : (laws : IsEquivalence eq) (k : K) (es : List E) (j : ℕ) (x : E) → IsDistinct eq (map key es) → slice_get es j ≡ Some x → eq k (key x) ≡ true → position (λ e. eq k (key e)) es ≡ Some j
  position-at laws k [] j x d h w = absurd (let s : None ≡ Some x = h in cc)
  position-at laws k (e ∷ es) zero x d h w =
      let s : Some e ≡ Some x = h in
      let same : x ≡ e = cc in
      position_hit (λ y. eq k (key y)) e es (subst (λ y. eq k (key y) ≡ true) same w)
  position-at laws k (e ∷ es) (suc j) x d h w =
      let off : eq (key e) (key x) ≡ false = apart (key e) es j x (IsDistinct-head eq (key e) (map key es) d) h in
      elim (true-or-false (eq k (key e))) [
        | inl y ↦ absurd (let both : true ≡ false = sym w ∙ laws.congr k (key e) (key x) y ∙ off in cc)
        | inr n ↦ position_cons (λ y. eq k (key y)) e es n ∙ ap (option_map suc) (position-at laws k es j x (IsDistinct-tail eq (key e) (map key es) d) h w)
      ]

  -- a slot of a bucket at which an entry has the key is the place of the key
  pub found-hinted : {S : Type 0} (laws : IsEquivalence eq) (k : K) (bs : List (Shelf E)) (s : Settings S) {f : Bool × Bool} (c : Contents E S) (view : view_of f bs s ≡ c) (i slot : ℕ) → i < length bs
      → IsDistinct eq (map key (entries c)) → IsPassingAt (λ e. eq k (key e)) (shelf_entries (shelf_of bs i)) slot → IsFoundAtSpot (λ e. eq k (key e)) c (record { bucket = i; slot = slot })
  found-hinted laws k bs s c view i slot l distinct r =
      let q : Place = record { bucket = i; slot = slot } in
      let list = list-view bs s c view i (shelf_of bs i) l (shelf-at bs i l) in
      let within : IsSpot c q = record { bucket = rw (count-view bs s c view) l; slot = rw list (get-within (shelf_entries (shelf_of bs i)) slot r.entry r.here) } in
      record {
        within = within;
        found = position-at laws k (entries c) (index_of_spot c q) r.entry distinct (place-get c q within r.entry (ap (λ es. slice_get es slot) list ∙ r.here)) r.passes;
      }
