-- The element at one index of a list, and of two lists joined end to end.
use Rattle.std.proofs.Common.{◌≡◌, ℕ, zero, suc, ◌+◌, ◌<◌, List, [], ◌∷◌, ◌++◌, length, get_or, sym, ap, ◌∙◌, arith, None, Some}
use Rattle.std.specs.List.{slice_get}

pub get-index : {X : Type 0} (xs : List X) (i : ℕ) (x : X) → i < length xs → x ≡ get_or xs i x → slice_get xs i ≡ Some x
get-index [] i x h e = absurd (omega arith)
get-index (y ∷ xs) zero x h e = ap Some (sym e)
get-index (y ∷ xs) (suc i) x h e = get-index xs i x (omega arith) e

pub get-below : {X : Type 0} (xs : List X) (i : ℕ) (x : X) → slice_get xs i ≡ Some x → i < length xs
get-below [] i x e = absurd (let n : None ≡ Some x = e in cc)
get-below (y ∷ xs) zero x e = omega arith
get-below (y ∷ xs) (suc i) x e = let l = get-below xs i x e in omega arith

pub get-is : {X : Type 0} (xs : List X) (i : ℕ) (x d : X) → slice_get xs i ≡ Some x → x ≡ get_or xs i d
get-is [] i x d e = absurd (let n : None ≡ Some x = e in cc)
get-is (y ∷ xs) zero x d e = let s : y ≡ x = cc in sym s
get-is (y ∷ xs) (suc i) x d e = get-is xs i x d e

pub get-left : {X : Type 0} (xs ys : List X) (i : ℕ) (x : X) → slice_get xs i ≡ Some x → slice_get (xs ++ ys) i ≡ Some x
get-left [] ys i x e = absurd (let n : None ≡ Some x = e in cc)
get-left (y ∷ xs) ys zero x e = e
get-left (y ∷ xs) ys (suc i) x e = get-left xs ys i x e

pub get-right : {X : Type 0} (xs ys : List X) (i : ℕ) → slice_get (xs ++ ys) (length xs + i) ≡ slice_get ys i
get-right [] ys i = let z : 0 + i ≡ i = omega arith in ap (slice_get ys) z
get-right (x ∷ xs) ys i = let z : suc (length xs) + i ≡ suc (length xs + i) = omega arith in ap (slice_get (x ∷ (xs ++ ys))) z ∙ get-right xs ys i
