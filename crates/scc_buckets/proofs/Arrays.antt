-- The buckets of an array, by their numbers.
use Rattle.std.proofs.Common.{◌≡◌, ℕ, zero, suc, ◌<◌, ◌++◌, ◌∷◌, List, [], drop, take, get_or, length, set, Some, None, sym, ap, ◌∙◌, drop-cons, get_or-set_same}
use Rattle.std.proofs.lemmas.List.{append-nil, get_or_default}
use Rattle.std.proofs.lemmas.List.Concat.{flat_map-append}
use Rattle.std.specs.List.{flat_map, slice_get}
use Rattle.scc_array.proofs.Gets.{get-here}
use Rattle.scc_array.specs.Shelves.{shelf_of}
use Rattle.scc_array.specs.Shelf.{Shelf, empty_shelf, shelf_entries}

module _ {E : Type 0} (bs : List (Shelf E)) (i : ℕ) (l : i < length bs) where
  pub shelf-at : shelf_of bs i ≡ get_or bs i (shelf_of bs i)
  shelf-at = get_or_default bs i empty_shelf (shelf_of bs i) l

  -- the buckets from number i on begin with bucket i
  pub drop-shelf : drop i bs ≡ shelf_of bs i ∷ drop (suc i) bs
  drop-shelf = drop-cons bs i empty_shelf l

  module _ (ds : List (Shelf E)) (s : Shelf E) (put : ds ≡ set bs i s) where
    -- the bucket at i is the one that was put there
    pub put-is : shelf_of ds i ≡ s
    put-is = ap (λ v. shelf_of v i) put ∙ get_or-set_same bs i s empty_shelf l

    pub put-own : ds ≡ set bs i (shelf_of ds i)
    put-own = put ∙ ap (λ v. set bs i v) (sym put-is)

-- an element that was read is the first of the elements from j on, and the last of the first j + 1 elements
pub drop-got : {X : Type 0} (xs : List X) (j : ℕ) (x : X) → slice_get xs j ≡ Some x → drop j xs ≡ x ∷ drop (suc j) xs
drop-got [] j x e = absurd (let n : None ≡ Some x = e in cc)
drop-got (y ∷ xs) zero x e = let s : y ≡ x = cc in ap (λ z. z ∷ xs) s
drop-got (y ∷ xs) (suc j) x e = drop-got xs j x e

pub take-got : {X : Type 0} (xs : List X) (j : ℕ) (x : X) → slice_get xs j ≡ Some x → take (suc j) xs ≡ take j xs ++ x ∷ []
take-got [] j x e = absurd (let n : None ≡ Some x = e in cc)
take-got (y ∷ xs) zero x e = let s : y ≡ x = cc in ap (λ z. z ∷ []) s
take-got (y ∷ xs) (suc j) x e = ap (λ l. y ∷ l) (take-got xs j x e)

-- the entries of the first j + 1 buckets are those of the first j buckets, and then those of bucket j
pub flat-next : {E : Type 0} (bs : List (Shelf E)) (j : ℕ) → j < length bs → flat_map shelf_entries (take (suc j) bs) ≡ flat_map shelf_entries (take j bs) ++ shelf_entries (shelf_of bs j)
flat-next bs j l =
    ap (flat_map shelf_entries) (take-got bs j (shelf_of bs j) (get-here bs j empty_shelf l)) ∙ flat_map-append shelf_entries (take j bs) (shelf_of bs j ∷ [])
    ∙ ap (λ z. flat_map shelf_entries (take j bs) ++ z) (append-nil (shelf_entries (shelf_of bs j)))
