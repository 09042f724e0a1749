-- Lists joined end to end, and the element at one index of one list.
use Rattle.std.proofs.Common.{◌≡◌, ℕ, zero, suc, ◌+◌, ◌-◌, ◌<◌, List, [], ◌∷◌, ◌++◌, length, take, get_or, set, refl, sym, ap, ◌∙◌, arith, length-append, Some}
use Rattle.std.specs.List.{flat_map, slice_get, remove}
use Rattle.std.proofs.lemmas.List.Edits.{remove-append_left, remove-append_right}
use Rattle.scc_array.proofs.ListsLemmas.{get-left, get-right}
use Rattle.scc_common.specs.Contents.{Contents, entries, bucket_count, list_of}
use Rattle.scc_buckets.specs.Places.{IsSpot, index_of_spot}
use Rattle.scc_buckets.specs.declared.place.Place.{Place}

abbrev pub before : {E : Type 0} → List (List E) → ℕ → ℕ
before ls i = length (flat_map (λ l. l) (take i ls))

before-suc : {E : Type 0} (l : List E) (ls : List (List E)) (i k : ℕ) → before (l ∷ ls) (suc i) + k ≡ length l + (before ls i + k)
before-suc l ls i k = omega (arith, length-append l (flat_map (λ x. x) (take i ls)))

pub flat-get : {E : Type 0} (ls : List (List E)) (i k : ℕ) (x : E) → i < length ls → slice_get (get_or ls i []) k ≡ Some x → slice_get (flat_map (λ l. l) ls) (before ls i + k) ≡ Some x
flat-get [] i k x h e = absurd (omega arith)
flat-get (l ∷ ls) zero k x h e = let z : 0 + k ≡ k = omega arith in ap (slice_get (l ++ flat_map (λ y. y) ls)) z ∙ get-left l (flat_map (λ y. y) ls) k x e
flat-get (l ∷ ls) (suc i) k x h e =
    ap (slice_get (l ++ flat_map (λ y. y) ls)) (before-suc l ls i k) ∙ get-right l (flat_map (λ y. y) ls) (before ls i + k) ∙ flat-get ls i k x (omega arith) e

-- to remove an element of one list is to remove it from the joined lists
pub flat-remove : {E : Type 0} (ls : List (List E)) (i k : ℕ) → i < length ls → k < length (get_or ls i [])
    → flat_map (λ l. l) (set ls i (remove (get_or ls i []) k)) ≡ remove (flat_map (λ l. l) ls) (before ls i + k)
flat-remove [] i k h q = absurd (omega arith)
flat-remove (l ∷ ls) zero k h q = let z : 0 + k ≡ k = omega arith in rw z (sym (remove-append_left l (flat_map (λ x. x) ls) k q))
flat-remove (l ∷ ls) (suc i) k h q =
    let near : length l + (before ls i + k) - length l ≡ before ls i + k = omega arith in
    ap (λ z. l ++ z) (flat-remove ls i k (omega arith) q)
    ∙ sym (ap (remove (l ++ flat_map (λ x. x) ls)) (before-suc l ls i k) ∙ remove-append_right l (flat_map (λ x. x) ls) (length l) (length l + (before ls i + k)) refl (omega arith) ∙ ap (λ n. l ++ remove (flat_map (λ x. x) ls) n) near)

set-left : {X : Type 0} (xs ys : List X) (i : ℕ) (x : X) → i < length xs → set (xs ++ ys) i x ≡ set xs i x ++ ys
set-left [] ys i x h = absurd (omega arith)
set-left (y ∷ xs) ys zero x h = refl
set-left (y ∷ xs) ys (suc i) x h = ap (λ z. y ∷ z) (set-left xs ys i x (omega arith))

set-right : {X : Type 0} (xs ys : List X) (i : ℕ) (x : X) → set (xs ++ ys) (length xs + i) x ≡ xs ++ set ys i x
set-right [] ys i x = let z : 0 + i ≡ i = omega arith in ap (λ n. set ys n x) z
set-right (y ∷ xs) ys i x = let z : suc (length xs) + i ≡ suc (length xs + i) = omega arith in ap (λ n. set (y ∷ (xs ++ ys)) n x) z ∙ ap (λ z. y ∷ z) (set-right xs ys i x)

-- to write an element of one list is to write it in the joined lists
pub flat-set : {E : Type 0} (ls : List (List E)) (i k : ℕ) (x : E) → i < length ls → k < length (get_or ls i [])
    → flat_map (λ l. l) (set ls i (set (get_or ls i []) k x)) ≡ set (flat_map (λ l. l) ls) (before ls i + k) x
flat-set [] i k x h q = absurd (omega arith)
flat-set (l ∷ ls) zero k x h q = let z : 0 + k ≡ k = omega arith in rw z (sym (set-left l (flat_map (λ y. y) ls) k x q))
flat-set (l ∷ ls) (suc i) k x h q =
    ap (λ z. l ++ z) (flat-set ls i k x (omega arith) q)
    ∙ sym (ap (λ n. set (l ++ flat_map (λ y. y) ls) n x) (before-suc l ls i k) ∙ set-right l (flat_map (λ y. y) ls) (before ls i + k) x)

module _ {E S : Type 0} (c : Contents E S) (p : Place) (within : IsSpot c p) where
  -- the entry at a slot of a list stands at the place's index among all entries
  pub place-get : (x : E) → slice_get (list_of c p.bucket) p.slot ≡ Some x → slice_get (entries c) (index_of_spot c p) ≡ Some x
  unfolding entries list_of index_of_spot bucket_count
  place-get x e = flat-get c.lists p.bucket p.slot x within.bucket e
