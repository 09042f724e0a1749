-- The item at a place of a list.
use Rattle.std.proofs.Common.{◌≡◌, ℕ, zero, suc, ◌+◌, ◌<◌, List, [], ◌∷◌, length, take, get_or, Some, sym, ap, arith, add-one}
use Rattle.std.specs.Prelude.{slice_get}
use Rattle.std.specs.List.{AllByRecursion}

pub item_at : {X : Type 0} (xs : List X) (i : ℕ) (x : X) → i < length xs → x ≡ get_or xs i x → slice_get xs i ≡ Some x
item_at [] i x h e = absurd (omega arith)
item_at (s ∷ xs) zero x h e = ap Some (sym e)
item_at (s ∷ xs) (suc i) x h e = item_at xs i x (omega arith) e

pub all_take_more : {X : Type 0} (P : X → Type 0) (xs : List X) (j : ℕ) (x : X) → AllByRecursion P (take j xs) → slice_get xs j ≡ Some x → P x → AllByRecursion P (take (j + 1) xs)
all_take_more P [] j x a e p = cc
all_take_more P (y ∷ xs) zero x a e p = let f : x ≡ y = cc in (rw f at p, tt)
all_take_more P (y ∷ xs) (suc j) x a e p = rw add-one (a.0, rw add-one at (all_take_more P xs j x a.1 e p))
