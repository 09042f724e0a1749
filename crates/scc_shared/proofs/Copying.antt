-- What insertions that may fail did, by their answers, one after another.
use Rattle.std.proofs.Common.{◌≡◌, ℕ, suc, Bool, true, false, List, [], ◌∷◌, length, Some, Result, Ok, Err, take, refl, sym, subst, ◌∙◌}
use Rattle.std.specs.List.{FoldsTo, slice_get}
use Rattle.std.specs.Prelude.{IfOk, IsTrue, OnErr, is_ok}
use Rattle.std.proofs.lemmas.Fn.{FoldsTo-push}
use Rattle.scc_buckets.proofs.Placed.{take-more}
use Rattle.scc_table.proofs.walks.Reach.{all-taken}

module _ {P X : Type 0} (r : Result P X) (b : Bool) (is : b ≡ is_ok r) where
  yes : {Q : P → Type 0} (s : Result P X) → b ≡ is_ok s → IfOk s Q → IsTrue b → (p : P) × Q p
  yes (Ok p) e h t = (p, h)
  yes (Err x) e h t = absurd (let z : false ≡ true = sym e ∙ t in cc)

  no : {Q : Type 0} (s : Result P X) → b ≡ is_ok s → OnErr s Q → b ≡ false → Q
  no (Ok p) e h n = absurd (let z : true ≡ false = sym e ∙ n in cc)
  no (Err x) e h n = h

  -- if b is true, the result is `Ok`, and what holds of its value holds of some value
  pub answered-yes : {Q : P → Type 0} → IfOk r Q → IsTrue b → (p : P) × Q p
  answered-yes h t = yes r is h t

  -- if b is false, the result is `Err`
  pub answered-no : {Q : Type 0} → OnErr r Q → b ≡ false → Q
  answered-no h n = no r is h n

module _ {A X : Type 0} (R : A → X → A → Type 0) (es : List X) where
  none-taken : (xs : List X) → take 0 xs ≡ []
  none-taken [] = refl
  none-taken (x ∷ xs) = refl

  -- before the first item nothing is folded
  pub folds-none : (i : ℕ) (a : A) → i ≡ 0 → FoldsTo R a (take i es) a
  folds-none i a first = subst (λ n. FoldsTo R a (take n es) a) (sym first) (subst (λ xs. FoldsTo R a xs a) (sym (none-taken es)) refl)

  -- a step with the next item folds one item more
  pub folds-more : (i j : ℕ) (x : X) (a b c : A) → slice_get es i ≡ Some x → j ≡ suc i → FoldsTo R a (take i es) b → R b x c → FoldsTo R a (take j es) c
  folds-more i j x a b c at next before step = subst (λ n. FoldsTo R a (take n es) c) (sym next) (subst (λ xs. FoldsTo R a xs c) (sym (take-more es i x at)) (FoldsTo-push R a (take i es) b x c before step))

  -- after the last item all are folded
  pub folds-all : (i : ℕ) (a b : A) → i ≡ length es → FoldsTo R a (take i es) b → FoldsTo R a es b
  folds-all i a b last h = subst (λ xs. FoldsTo R a xs b) (all-taken es i last) h
