-- Lists with some elements left out.
use Rattle.std.proofs.Common.{◌≡◌, ℕ, suc, ◌<◌, ◌⊎◌, inl, inr, Bool, true, false, List, [], ◌∷◌, ◌++◌, length, map, get_or, refl, sym, ap, subst, arith}
use Rattle.std.specs.List.{filter, flat_map, IsDistinct, AllByRecursion}
use Rattle.std.proofs.lemmas.Map.Keys.{IsDistinct-head, IsDistinct-tail, IsDistinct-cons}

pub data Sub {X : Type 0} : List X → List X → Type 0 where
  none : Sub [] []
  keep : {x : X} {xs ys : List X} → Sub xs ys → Sub (x ∷ xs) (x ∷ ys)
  skip : {y : X} {xs ys : List X} → Sub xs ys → Sub xs (y ∷ ys)

pub keep_all : {X : Type 0} (zs : List X) {xs ys : List X} → Sub xs ys → Sub (zs ++ xs) (zs ++ ys)
keep_all [] s = s
keep_all (z ∷ zs) s = keep (keep_all zs s)

pub skip_all : {X : Type 0} (zs : List X) {xs ys : List X} → Sub xs ys → Sub xs (zs ++ ys)
skip_all [] s = s
skip_all (z ∷ zs) s = skip (skip_all zs s)

pub flat-sub : {X : Type 0} (xs ys : List (List X)) → length xs ≡ length ys → ((k : ℕ) → (get_or xs k [] ≡ get_or ys k []) ⊎ (get_or xs k [] ≡ [])) → Sub (flat_map (λ l. l) xs) (flat_map (λ l. l) ys)
flat-sub [] [] l h = none
flat-sub [] (y ∷ ys) l h = absurd (omega arith)
flat-sub (x ∷ xs) [] l h = absurd (omega arith)
flat-sub (x ∷ xs) (y ∷ ys) l h =
    let rest = flat-sub xs ys (omega arith) (λ k. h (suc k)) in
    elim (h 0) [
      | inl e ↦ subst (λ z. Sub (z ++ flat_map (λ l. l) xs) (y ++ flat_map (λ l. l) ys)) (sym e) (keep_all y rest)
      | inr e ↦ subst (λ z. Sub (z ++ flat_map (λ l. l) xs) (y ++ flat_map (λ l. l) ys)) (sym e) (skip_all y rest)
    ]

all-sub : {X K : Type 0} (key : X → K) (P : K → Type 0) {xs ys : List X} → Sub xs ys → AllByRecursion P (map key ys) → AllByRecursion P (map key xs)
all-sub key P none h = h
all-sub key P (keep s) h = (h.0, all-sub key P s h.1)
all-sub key P (skip s) h = all-sub key P s h.1

-- keys stay distinct if some elements are left out
pub distinct-sub : {X K : Type 0} (eq : K → K → Bool) (key : X → K) {xs ys : List X} → Sub xs ys → IsDistinct eq (map key ys) → IsDistinct eq (map key xs)
distinct-sub eq key none h = h
distinct-sub eq key (keep {x} {xs} {ys} s) h =
    IsDistinct-cons eq (key x) (map key xs) (all-sub key (λ y. eq (key x) y ≡ false) s (IsDistinct-head eq (key x) (map key ys) h)) (distinct-sub eq key s (IsDistinct-tail eq (key x) (map key ys) h))
distinct-sub eq key (skip {y} {xs} {ys} s) h = distinct-sub eq key s (IsDistinct-tail eq (key y) (map key ys) h)

-- if no element passes, the filtered list is empty
pub filter-none : {X : Type 0} (p : X → Bool) (xs : List X) → ((j : ℕ) (d : X) → j < length xs → p (get_or xs j d) ≡ false) → filter p xs ≡ []
filter-none p [] h = refl
filter-none p (x ∷ xs) h = let z : p x ≡ false = h 0 x (omega arith) in rw z (filter-none p xs (λ j d l. h (suc j) d (omega arith)))

-- if all elements pass, the filtered list is equal to the list
pub filter-each : {X : Type 0} (p : X → Bool) (xs : List X) → ((j : ℕ) (d : X) → j < length xs → p (get_or xs j d) ≡ true) → filter p xs ≡ xs
filter-each p [] h = refl
filter-each p (x ∷ xs) h = let z : p x ≡ true = h 0 x (omega arith) in rw z (ap (λ l. x ∷ l) (filter-each p xs (λ j d l. h (suc j) d (omega arith))))
