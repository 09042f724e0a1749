-- Arrays without an entry.
use Rattle.std.proofs.Common.{◌≡◌, ℕ, ◌<◌, List, [], ◌∷◌, ◌++◌, length, refl, ap, ◌∙◌, inl, inr, arith}
use Rattle.std.specs.declared.vec.Vec.{Vec}
use Rattle.scc_array.proofs.Shelves.{length-shelves, slots-are, list-is, list-read}
use Rattle.scc_array.specs.Lists.{AreSpent}
use Rattle.scc_array.specs.Shelves.{shelf_of, shelves, HasListEach}
use Rattle.scc_array.specs.Windows.{Window, window_of}
use Rattle.scc_array.specs.Shelf.{Shelf, shelf_entries}

none-left : {X : Type 0} (xs ys : List X) → xs ++ ys ≡ [] → xs ≡ []
none-left [] ys e = refl
none-left (x ∷ xs) ys e = absurd (let n : x ∷ (xs ++ ys) ≡ [] = e in cc)

none-right : {X : Type 0} (xs ys : List X) → xs ++ ys ≡ [] → ys ≡ []
none-right [] ys e = e
none-right (x ∷ xs) ys e = absurd (let n : x ∷ (xs ++ ys) ≡ [] = e in cc)

module _ {E A : Type 0} (ws : List (Window E)) (os : List (Vec E A)) (bs : List (Shelf E)) (view : shelves ws os ≡ bs) (none : (i : ℕ) → i < length bs → shelf_entries (shelf_of bs i) ≡ []) where
  pub no-slots : (i : ℕ) → i < length ws → (window_of ws i).slots ≡ []
  no-slots i h =
      let l : i < length bs = let n = length-shelves ws os in let m = ap length view in omega arith in
      slots-are ws os bs view i l ∙ none-left (shelf_of bs i).slots (shelf_of bs i).overflow (none i l)

  pub no-spilled : HasListEach ws os → AreSpent os
  no-spilled kept = record {
    spent = λ i v h at.
        let l : i < length bs = let n = length-shelves ws os in let m = ap length view in elim kept.lists [ inl z ↦ absurd (let k : length os ≡ 0 = ap length z in omega arith) | inr k ↦ omega arith ] in
        list-is ws os bs view i l v (list-read os i v h at) ∙ none-right (shelf_of bs i).slots (shelf_of bs i).overflow (none i l);
  }
