-- The cells after an entry was taken out of cell i, and that of cell j, which may be the same cell, has moved there.
use Rattle.std.proofs.Common.{◌≡◌, ◌≢◌, ℕ, zero, suc, ◌⊎◌, List, [], ◌∷◌, set, get_or, Option, Some, None, inl, inr, refl, sym, ap, ◌∙◌, arith}
use native.Mathlib.Decide.{dec_lt}

pub same_or_not : (i j : ℕ) → (i ≡ j) ⊎ (i ≢ j)
same_or_not i j = elim (dec_lt i j) [
  | yes l ↦ inr (λ e. omega arith)
  | no l ↦ elim (dec_lt j i) [
    | yes k ↦ inr (λ e. omega arith)
    | no k ↦ inl (omega arith)
  ]
]

module _ {X : Type 0} where
  set-twice : (cs : List X) (i : ℕ) (x y : X) → set (set cs i x) i y ≡ set cs i y
  set-twice [] i x y = refl
  set-twice (c ∷ cs) zero x y = refl
  set-twice (c ∷ cs) (suc i) x y = ap (λ l. c ∷ l) (set-twice cs i x y)

  set-apart : (cs : List X) (i j : ℕ) (x y : X) → i ≢ j → set (set cs i x) j y ≡ set (set cs j y) i x
  set-apart [] i j x y n = refl
  set-apart (c ∷ cs) zero zero x y n = absurd (n refl)
  set-apart (c ∷ cs) zero (suc j) x y n = refl
  set-apart (c ∷ cs) (suc i) zero x y n = refl
  set-apart (c ∷ cs) (suc i) (suc j) x y n = ap (λ l. c ∷ l) (set-apart cs i j x y (λ e. n (ap suc e)))

module _ {X : Type 0} (cs : List (Option X)) (i j : ℕ) where
  -- a cell that is moved onto itself is free
  pub moved-onto : i ≡ j → set cs i None ≡ set (set cs i (get_or cs j None)) j None
  moved-onto e = sym (set-twice cs i (get_or cs j None) None) ∙ ap (λ k. set (set cs i (get_or cs j None)) k None) e

  -- another cell moves into the free cell
  pub moved-over : (y : X) → i ≢ j → get_or cs j None ≡ Some y → set (set (set cs i None) j None) i (Some y) ≡ set (set cs i (get_or cs j None)) j None
  moved-over y n e = set-apart (set cs i None) j i None (Some y) (λ z. n (sym z)) ∙ ap (λ l. set l j None) (set-twice cs i None (Some y)) ∙ ap (λ c. set (set cs i c) j None) (sym e)
