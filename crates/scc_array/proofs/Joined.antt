-- Two lists end to end: their elements, and the index of the first element that passes.
use Rattle.std.proofs.Common.{◌≡◌, ℕ, suc, ◌+◌, ◌≤◌, ◌⊎◌, Bool, true, false, List, [], ◌∷◌, ◌++◌, length, Option, Some, None, nat_lt, refl, sym, ap, ◌∙◌, inl, inr, arith, rules}
use Rattle.std.specs.List.{slice_get, position, position_or_len}
use Rattle.std.specs.Option.{option_map}
use native.Mathlib.Decide.{dec_lt}
use Rattle.scc_array.proofs.ListsLemmas.{get-right}
use Rattle.scc_array.proofs.Search.{position_is, found, none_by}

-- the index in the first list, or n plus the index in the second list
abbrev pub or_later : Option ℕ → ℕ → Option ℕ → Option ℕ
or_later (Some i) n o = Some i
or_later None n o = option_map (λ k. n + k) o

pub true-or-false : (b : Bool) → (b ≡ true) ⊎ (b ≡ false)
true-or-false true = inl refl
true-or-false false = inr refl

shifted : (n : ℕ) (a o : Option ℕ) → option_map suc (or_later a n o) ≡ or_later (option_map suc a) (suc n) o
shifted n (Some i) o = refl
shifted n None None = refl
shifted n None (Some k) = let e : suc (n + k) ≡ suc n + k = omega arith in ap (λ m. Some m) e

unshifted : (o : Option ℕ) → o ≡ or_later None 0 o
unshifted None = refl
unshifted (Some k) = let e : k ≡ 0 + k = omega arith in ap (λ m. Some m) e

module _ {X : Type 0} (p : X → Bool) where
  first-hit : (x : X) (xs : List X) → p x ≡ true → position p (x ∷ xs) ≡ Some 0
  first-hit x xs h = position_is p (x ∷ xs) 0 x (omega arith) (λ k l. absurd (omega arith)) h

  first-missed : (x : X) (xs : List X) → p x ≡ false → position p (x ∷ xs) ≡ option_map suc (position p xs)
  first-missed x xs h =
      let n : ℕ = position_or_len p xs in
      let e : position_or_len p (x ∷ xs) ≡ suc n = rw h (omega arith) in
      elim (dec_lt n (length xs)) [
        | yes q ↦ found p (x ∷ xs) (suc n) (omega arith) e ∙ sym (ap (option_map suc) (found p xs n q refl))
        | no q ↦
            let far : nat_lt (suc n) (length (x ∷ xs)) ≡ false = let r : length (x ∷ xs) ≤ suc n = omega arith in search rules in
            let near : nat_lt n (length xs) ≡ false = let r : length xs ≤ n = omega arith in search rules in
            none_by p (x ∷ xs) (suc n) e far ∙ sym (ap (option_map suc) (none_by p xs n refl near))
      ]

  pub position-joined : (xs ys : List X) → position p (xs ++ ys) ≡ or_later (position p xs) (length xs) (position p ys)
  position-joined [] ys = unshifted (position p ys)
  position-joined (x ∷ xs) ys = elim (true-or-false (p x)) [
    | inl h ↦ first-hit x (xs ++ ys) h ∙ ap (λ a. or_later a (suc (length xs)) (position p ys)) (sym (first-hit x xs h))
    | inr h ↦ first-missed x (xs ++ ys) h ∙ ap (option_map suc) (position-joined xs ys) ∙ shifted (length xs) (position p xs) (position p ys) ∙ ap (λ a. or_later a (suc (length xs)) (position p ys)) (sym (first-missed x xs h))
  ]

module _ {X : Type 0} where
  pub get-later : (xs ys : List X) (i k : ℕ) → i ≡ length xs + k → slice_get (xs ++ ys) i ≡ slice_get ys k
  get-later xs ys i k e = ap (slice_get (xs ++ ys)) e ∙ get-right xs ys k
