-- An entry that passes in a part also passes in the whole.
use Rattle.std.proofs.Common.{◌≡◌, ℕ, zero, suc, ◌+◌, ◌<◌, Bool, true, Option, Some, None, List, [], ◌∷◌, ◌++◌, length, get_or, refl, sym, ap, ◌∙◌, subst, inl, inr, arith}
use Rattle.std.specs.List.{find, flat_map, position, slice_get}
use Rattle.std.proofs.lemmas.List.Quantifiers.{position-Some}
use Rattle.scc_array.proofs.Finds.{slot-below}
use Rattle.scc_array.proofs.Gets.{get-some, get-is}
use Rattle.scc_array.proofs.Joined.{true-or-false}
use Rattle.scc_array.specs.Hints.{IsPassing, IsPassingAt}

pub get-left : {X : Type 0} (xs ys : List X) (j : ℕ) (x : X) → slice_get xs j ≡ Some x → slice_get (xs ++ ys) j ≡ Some x
get-left [] ys j x h = absurd (let s : None ≡ Some x = h in cc)
get-left (z ∷ xs) ys zero x h = h
get-left (z ∷ xs) ys (suc j) x h = get-left xs ys j x h

get-right : {X : Type 0} (xs ys : List X) (j : ℕ) (x : X) → slice_get ys j ≡ Some x → slice_get (xs ++ ys) (length xs + j) ≡ Some x
get-right [] ys j x h = let same : j ≡ 0 + j = omega arith in subst (λ n. slice_get ys n ≡ Some x) same h
get-right (z ∷ xs) ys j x h =
    let same : suc (length xs + j) ≡ suc (length xs) + j = omega arith in
    subst (λ n. slice_get (z ∷ (xs ++ ys)) n ≡ Some x) same (get-right xs ys j x h)

-- an entry that passes in a list also passes in an equal list with more elements behind it
pub moved : {X : Type 0} (p : X → Bool) {xs zs : List X} {x : X} → xs ≡ zs → (ys : List X) → IsPassing p xs x → IsPassing p (zs ++ ys) x
moved p {xs} {zs} {x} same ys r = record { passes = r.passes; slot = (r.slot.0, get-left zs ys r.slot.0 x (ap (λ l. slice_get l r.slot.0) (sym same) ∙ r.slot.1)) }

slot-flat : {X Y : Type 0} (f : X → List Y) (d : X) (xs : List X) (i j : ℕ) (y : Y) → slice_get (f (get_or xs i d)) j ≡ Some y → i < length xs → (k : ℕ) × (slice_get (flat_map f xs) k ≡ Some y)
slot-flat f d [] i j y h l = absurd (omega arith)
slot-flat f d (x ∷ xs) zero j y h l = (j, get-left (f x) (flat_map f xs) j y h)
slot-flat f d (x ∷ xs) (suc i) j y h l = let r = slot-flat f d xs i j y h (omega arith) in (length (f x) + r.0, get-right (f x) (flat_map f xs) r.0 y r.1)

-- an entry that passes in one list also passes in the joined lists
pub passing-flat : {X Y : Type 0} (p : Y → Bool) (f : X → List Y) (d : X) (xs : List X) (i : ℕ) (y : Y) → IsPassing p (f (get_or xs i d)) y → i < length xs → IsPassing p (flat_map f xs) y
passing-flat p f d xs i y r l = record { passes = r.passes; slot = slot-flat f d xs i r.slot.0 y r.slot.1 l }

-- an entry that passes in a list also passes in the list with more elements before it
pub behind : {X : Type 0} (p : X → Bool) (xs : List X) {ys : List X} {x : X} → IsPassing p ys x → IsPassing p (xs ++ ys) x
behind p xs {ys} {x} r = record { passes = r.passes; slot = (length xs + r.slot.0, get-right xs ys r.slot.0 x r.slot.1) }

-- the element that `find` returns passes
pub found-passing : {X : Type 0} (p : X → Bool) (xs : List X) (x : X) → find p xs ≡ Some x → IsPassing p xs x
found-passing p [] x h = absurd (let s : None ≡ Some x = h in cc)
found-passing p (z ∷ xs) x h = elim (true-or-false (p z)) [
  | inl y ↦
      let s : Some z ≡ Some x = rw y at h in
      let same : z ≡ x = cc in
      record { passes = subst (λ e. p e ≡ true) same y; slot = (0, s) }
  | inr n ↦
      let r = found-passing p xs x (rw n at h) in
      record { passes = r.passes; slot = (suc r.slot.0, r.slot.1) }
]

module _ {X : Type 0} (p : X → Bool) where
  -- an index at which an element passes is one in an equal list with more elements behind it
  pub moved-at : {xs zs : List X} {i : ℕ} → xs ≡ zs → (ys : List X) → IsPassingAt p xs i → IsPassingAt p (zs ++ ys) i
  moved-at {xs} {zs} {i} same ys r = record { entry = r.entry; here = get-left zs ys i r.entry (ap (λ l. slice_get l i) (sym same) ∙ r.here); passes = r.passes }

  -- an index at which an element passes grows by the number of elements before the list
  pub behind-at : (xs : List X) {ys : List X} {i : ℕ} → IsPassingAt p ys i → IsPassingAt p (xs ++ ys) (length xs + i)
  behind-at xs {ys} {i} r = record { entry = r.entry; here = get-right xs ys i r.entry r.here; passes = r.passes }

  -- the element at the index that `position` returns passes
  pub position-passing : (xs : List X) (i : ℕ) → position p xs ≡ Some i → IsPassingAt p xs i
  position-passing xs i h =
      let got = get-some xs i (slot-below p xs i h) in
      record { entry = got.0; here = got.1; passes = ap p (get-is xs i got.0 got.0 got.1) ∙ (position-Some p xs i got.0 h).1 }
