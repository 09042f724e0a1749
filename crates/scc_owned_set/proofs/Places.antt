-- Places of pairs with unit values as places of their keys.
use Rattle.std.proofs.Common.{◌≡◌, ℕ, zero, suc, Bool, List, [], ◌∷◌, length, map, take, Option, None, Some, Ok, Err, MatchOption, refl, sym, ap, subst, ◌∙◌}
use Rattle.std.specs.Prelude.{Result, IfOk}
use Rattle.std.specs.List.{position, slice_get, remove}
use Rattle.std.specs.Map.{keys_of}
use Rattle.std.specs.Option.{option_map}
use Rattle.scc_common.specs.Contents.{Contents, entries}
use Rattle.scc_buckets.proofs.FindingLemmas.{position_cons, position_hit}
use Rattle.scc_buckets.proofs.Inserts.{by_answer}
use Rattle.scc_buckets.specs.Placed as spots
use Rattle.scc_table.specs.Placed.{front_of}
use Rattle.scc_table.specs.Places.{IsFoundAt, StandsAt, index_of}
use Rattle.scc_common.specs.Steps.{Holds, HoldsExactly}
use Rattle.scc_buckets.specs.declared.place.Place.{Place}
use Rattle.scc_buckets.proofs.Mapped.{entries-mapped, length-mapped, Holds-mapped, HoldsExactly-mapped}
use Rattle.scc_table.proofs.places.Mapped.{index_of-mapped, IsPlace-mapped, StandsAt-mapped}
use Rattle.scc_common.specs.Pairs.{find as find_pair}
use Rattle.scc_owned_set.specs.Keys.{find, of_map}
use Rattle.scc_owned_set.proofs.Sets.{found-none}
use Rattle.scc_owned_set.specs.SetWalks.{Declines}

get-map : {E F : Type 0} (f : E → F) (es : List E) (i : ℕ) → slice_get (map f es) i ≡ option_map f (slice_get es i)
get-map f [] i = refl
get-map f (e ∷ es) zero = refl
get-map f (e ∷ es) (suc i) = get-map f es i

remove-map : {E F : Type 0} (f : E → F) (es : List E) (i : ℕ) → remove (map f es) i ≡ map f (remove es i)
remove-map f [] zero = refl
remove-map f [] (suc i) = refl
remove-map f (e ∷ es) zero = refl
remove-map f (e ∷ es) (suc i) = ap (λ l. f e ∷ l) (remove-map f es i)

pub some-same : {X : Type 0} (x y : X) → Some x ≡ Some y → x ≡ y
some-same x y e = cc

module _ {K S : Type 0} (c : Contents (K × Unit {0}) S) where
  abbrev key_of : K × Unit {0} → K
  key_of p = p.0

  -- the key at a place of the set is the key of the pair at the place of the map
  pub get-key : (place : Place) (p : K × Unit {0}) → slice_get (entries c) (index_of c place) ≡ Some p → slice_get (entries (of_map c)) (index_of (of_map c) place) ≡ Some p.0
  get-key place p h = rw (index_of-mapped key_of c place, entries-mapped key_of c) (get-map key_of (entries c) (index_of c place) ∙ ap (λ o. option_map key_of o) h)

  pub starts : (r : Option Place) → MatchOption r (entries c ≡ []) (StandsAt c 0) → MatchOption r (entries (of_map c) ≡ []) (StandsAt (of_map c) 0)
  starts None h = entries-mapped key_of c ∙ ap (λ es. keys_of es) h
  starts (Some p) h = StandsAt-mapped key_of c 0 p h

  pub follows : (place : Place) (r : Option Place) → MatchOption r (suc (index_of c place) ≡ length (entries c)) (StandsAt c (suc (index_of c place)))
      → MatchOption r (suc (index_of (of_map c) place) ≡ length (entries (of_map c))) (StandsAt (of_map c) (suc (index_of (of_map c) place)))
  follows place None h = rw (index_of-mapped key_of c place, length-mapped key_of c) h
  follows place (Some q) h = rw (index_of-mapped key_of c place) (StandsAt-mapped key_of c (suc (index_of c place)) q h)

  removed-keys : (place : Place) → keys_of (remove (entries c) (index_of c place)) ≡ remove (entries (of_map c)) (index_of (of_map c) place)
  removed-keys place = sym (ap (λ i. remove (entries (of_map c)) i) (index_of-mapped key_of c place) ∙ ap (λ es. remove es (index_of c place)) (entries-mapped key_of c) ∙ remove-map key_of (entries c) (index_of c place))

  pub holds-others : (place : Place) (d : Contents (K × Unit {0}) S) → Holds c (remove (entries c) (index_of c place)) d → Holds (of_map c) (remove (entries (of_map c)) (index_of (of_map c) place)) (of_map d)
  holds-others place d h = subst (λ ks. Holds (of_map c) ks (of_map d)) (removed-keys place) (Holds-mapped key_of c (remove (entries c) (index_of c place)) d h)

  pub exactly-others : (place : Place) (d : Contents (K × Unit {0}) S) → HoldsExactly c (remove (entries c) (index_of c place)) d → HoldsExactly (of_map c) (remove (entries (of_map c)) (index_of (of_map c) place)) (of_map d)
  exactly-others place d h = subst (λ ks. HoldsExactly (of_map c) ks (of_map d)) (removed-keys place) (HoldsExactly-mapped key_of c (remove (entries c) (index_of c place)) d h)

  pub follows-taken : (place : Place) (d : Contents (K × Unit {0}) S) (r : Option Place) → MatchOption r (suc (index_of c place) ≡ length (entries c)) (StandsAt d (index_of c place))
      → MatchOption r (suc (index_of (of_map c) place) ≡ length (entries (of_map c))) (StandsAt (of_map d) (index_of (of_map c) place))
  follows-taken place d None h = rw (index_of-mapped key_of c place, length-mapped key_of c) h
  follows-taken place d (Some q) h = rw (index_of-mapped key_of c place) (StandsAt-mapped key_of d (index_of c place) q h)

position-map : {E F : Type 0} (f : E → F) (test : F → Bool) (es : List E) → position test (map f es) ≡ position (λ e. test (f e)) es
position-map f test [] = refl
position-map f test (e ∷ es) =
    by_answer (test (f e))
    (λ y. position_hit test (f e) (map f es) y ∙ sym (position_hit (λ x. test (f x)) e es y))
    (λ n. position_cons test (f e) (map f es) n ∙ ap (option_map suc) (position-map f test es) ∙ sym (position_cons (λ x. test (f x)) e es n))

-- the place that a search of the map found, or none, is what a search of the set finds
pub found-place : {K S R : Type 0} (eq : K → K → Bool) (c : Contents (K × Unit {0}) S) (k : K) (result : Result (Option Place) R) → IfOk result (λ found. MatchOption found (find_pair eq (entries c) k ≡ None) (IsFoundAt (λ p. eq k p.0) c))
    → IfOk result (λ found. MatchOption found (find eq (entries (of_map c)) k ≡ None) (IsFoundAt (eq k) (of_map c)))
found-place eq c k (Ok None) h = found-none eq c k h
found-place eq c k (Ok (Some place)) h = record {
  within = IsPlace-mapped (λ p. p.0) c place h.within;
  found = ap (position (eq k)) (entries-mapped (λ p. p.0) c) ∙ position-map (λ p. p.0) (eq k) (entries c) ∙ h.found ∙ ap (λ i. Some i) (sym (index_of-mapped (λ p. p.0) c place));
}
found-place eq c k (Err e) h = tt

-- a closure that declined the keys before a place declined the front of the place
pub declines-front : {F K S : Type 0} {T : F → K → Bool → F → Type 0} {f t : F} (c : Contents K S) (place : Place) → Declines T f (take (index_of c place) (entries c)) t → Declines T f (front_of c place) t
unfolding spots.front_of_spot
declines-front c place h = h
