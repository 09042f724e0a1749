-- The first element that passes.
use Rattle.std.proofs.Common.{◌≡◌, ◌≢◌, ℕ, zero, suc, ◌<◌, ◌≤◌, Bool, true, false, List, [], ◌∷◌, length, get_or, Option, Some, None, nat_lt, refl, sym, ap, ◌∙◌, inl, inr, arith, rules}
use Rattle.std.specs.List.{filter, find, flat_map, position, position_or_len, slice_get}
use Rattle.std.specs.Option.{option_or}
use Rattle.std.proofs.lemmas.List.Folds.{find-append, find_at}
use native.Mathlib.Decide.{dec_lt}
use Rattle.scc_array.proofs.Gets.{get-past}
use Rattle.scc_array.proofs.Joined.{true-or-false}
use Rattle.scc_array.proofs.Search.{found, none_by}

module _ {X : Type 0} (p : X → Bool) where
  first-below : (xs : List X) (i : ℕ) → position p xs ≡ Some i → position_or_len p xs < length xs
  first-below xs i e = elim (dec_lt (position_or_len p xs) (length xs)) [
    | yes q ↦ q
    | no q ↦
        let far : nat_lt (position_or_len p xs) (length xs) ≡ false = let r : length xs ≤ position_or_len p xs = omega arith in search rules in
        absurd (let s : None ≡ Some i = sym (none_by p xs (position_or_len p xs) refl far) ∙ e in cc)
  ]

  first-slot : (xs : List X) (i : ℕ) → position p xs ≡ Some i → position_or_len p xs ≡ i
  first-slot xs i e = let s : Some (position_or_len p xs) ≡ Some i = sym (found p xs (position_or_len p xs) (first-below xs i e) refl) ∙ e in cc

  pub slot-below : (xs : List X) (i : ℕ) → position p xs ≡ Some i → i < length xs
  slot-below xs i e = omega (arith, first-below xs i e, first-slot xs i e)

  -- `find` returns the element at the first index that passes
  pub find-position : (xs : List X) (i : ℕ) → position p xs ≡ Some i → find p xs ≡ slice_get xs i
  find-position xs i e = find_at p xs ∙ ap (slice_get xs) (first-slot xs i e)

  pub find-missed : (xs : List X) → position p xs ≡ None → find p xs ≡ None
  find-missed xs e = elim (dec_lt (position_or_len p xs) (length xs)) [
    | yes q ↦ absurd (let s : Some (position_or_len p xs) ≡ None = sym (found p xs (position_or_len p xs) q refl) ∙ e in cc)
    | no q ↦ find_at p xs ∙ get-past xs (position_or_len p xs) (omega arith)
  ]

  -- `find` returns `None` if no element passes
  pub find-none : (xs : List X) → ((k : ℕ) (x : X) → slice_get xs k ≡ Some x → p x ≡ true → ⊥) → find p xs ≡ None
  find-none [] f = refl
  find-none (x ∷ xs) f = elim (true-or-false (p x)) [
    | inl h ↦ absurd (f 0 x refl h)
    | inr h ↦ rw h (find-none xs (λ k y e. f (suc k) y e))
  ]

  -- if a filter keeps all elements that pass, the first of them is unchanged
  pub find-filter : (q : X → Bool) → ((x : X) → p x ≡ true → q x ≡ true) → (xs : List X) → find p (filter q xs) ≡ find p xs
  find-filter q f [] = refl
  find-filter q f (x ∷ xs) = elim (true-or-false (p x)) [
    | inl h ↦ rw (f x h, h) refl
    | inr h ↦ elim (true-or-false (q x)) [
      | inl k ↦ rw (k, h) (find-filter q f xs)
      | inr k ↦ rw (k, h) (find-filter q f xs)
    ]
  ]

or_none : {X : Type 0} (o : Option X) → option_or o None ≡ o
or_none None = refl
or_none (Some x) = refl

module _ {X Y : Type 0} (p : Y → Bool) (f : X → List Y) (d : X) where
  find-flat_none : (xs : List X) → ((j : ℕ) → j < length xs → find p (f (get_or xs j d)) ≡ None) → find p (flat_map f xs) ≡ None
  find-flat_none [] n = refl
  find-flat_none (x ∷ xs) n =
      find-append p (f x) (flat_map f xs) ∙ ap (λ o. option_or o (find p (flat_map f xs))) (n 0 (omega arith)) ∙ find-flat_none xs (λ j l. n (suc j) (omega arith))

  -- if only list i can have an element that passes, the first of all lists is the first of list i
  pub find-flat : (xs : List X) (i : ℕ) → i < length xs → ((j : ℕ) → j < length xs → j ≢ i → find p (f (get_or xs j d)) ≡ None) → find p (flat_map f xs) ≡ find p (f (get_or xs i d))
  find-flat [] i l n = absurd (omega arith)
  find-flat (x ∷ xs) zero l n =
      find-append p (f x) (flat_map f xs) ∙ ap (option_or (find p (f x))) (find-flat_none xs (λ j m. n (suc j) (omega arith) (omega arith))) ∙ or_none (find p (f x))
  find-flat (x ∷ xs) (suc i) l n =
      find-append p (f x) (flat_map f xs) ∙ ap (λ o. option_or o (find p (flat_map f xs))) (n 0 (omega arith) (omega arith)) ∙ find-flat xs i (omega arith) (λ j m e. n (suc j) (omega arith) (omega arith))
