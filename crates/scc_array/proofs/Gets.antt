-- The element at one index of a changed list.
use Rattle.std.proofs.Common.{◌≡◌, ◌≢◌, ℕ, zero, suc, ◌-◌, ◌<◌, ◌≤◌, List, [], ◌∷◌, ◌++◌, length, take, set, get_or, Some, None, refl, sym, ap, ◌∙◌, arith, length-set}
use Rattle.std.specs.List.{slice_get, swap_remove, remove}

module _ {X : Type 0} where
  pub get-past : (xs : List X) (i : ℕ) → length xs ≤ i → slice_get xs i ≡ None
  get-past [] i h = refl
  get-past (x ∷ xs) zero h = absurd (omega arith)
  get-past (x ∷ xs) (suc i) h = get-past xs i (omega arith)

  pub get-none : (xs : List X) (i : ℕ) → slice_get xs i ≡ None → length xs ≤ i
  get-none [] i e = omega arith
  get-none (x ∷ xs) zero e = absurd (let n : Some x ≡ None = e in cc)
  get-none (x ∷ xs) (suc i) e = let h = get-none xs i e in omega arith

  pub get-some : (xs : List X) (i : ℕ) → i < length xs → (x : X) × (slice_get xs i ≡ Some x)
  get-some [] i h = absurd (omega arith)
  get-some (x ∷ xs) zero h = (x, refl)
  get-some (x ∷ xs) (suc i) h = get-some xs i (omega arith)

  pub get-here : (xs : List X) (i : ℕ) (d : X) → i < length xs → slice_get xs i ≡ Some (get_or xs i d)
  get-here [] i d h = absurd (omega arith)
  get-here (x ∷ xs) zero d h = refl
  get-here (x ∷ xs) (suc i) d h = get-here xs i d (omega arith)

  -- the index of an appended element is the length of the list before
  pub get-end : (xs : List X) (x : X) (i : ℕ) → i ≡ length xs → slice_get (xs ++ x ∷ []) i ≡ Some x
  get-end [] x zero e = refl
  get-end [] x (suc i) e = absurd (omega arith)
  get-end (y ∷ xs) x zero e = absurd (omega arith)
  get-end (y ∷ xs) x (suc i) e = get-end xs x i (omega arith)

  pub get-before_end : (xs : List X) (x : X) (i : ℕ) → i ≢ length xs → slice_get (xs ++ x ∷ []) i ≡ slice_get xs i
  get-before_end [] x zero e = absurd (e refl)
  get-before_end [] x (suc i) e = refl
  get-before_end (y ∷ xs) x zero e = refl
  get-before_end (y ∷ xs) x (suc i) e = get-before_end xs x i (λ h. e (ap suc h))

  pub get-set : (xs : List X) (i : ℕ) (x : X) → i < length xs → slice_get (set xs i x) i ≡ Some x
  get-set [] i x h = absurd (omega arith)
  get-set (y ∷ xs) zero x h = refl
  get-set (y ∷ xs) (suc i) x h = get-set xs i x (omega arith)

  pub get-set_other : (xs : List X) (i j : ℕ) (x : X) → j ≢ i → slice_get (set xs i x) j ≡ slice_get xs j
  get-set_other [] i j x e = refl
  get-set_other (y ∷ xs) zero zero x e = absurd (e refl)
  get-set_other (y ∷ xs) zero (suc j) x e = refl
  get-set_other (y ∷ xs) (suc i) zero x e = refl
  get-set_other (y ∷ xs) (suc i) (suc j) x e = get-set_other xs i j x (λ h. e (ap suc h))

  pub get-take : (n : ℕ) (xs : List X) (i : ℕ) → i < n → slice_get (take n xs) i ≡ slice_get xs i
  get-take zero xs i h = absurd (omega arith)
  get-take (suc n) [] i h = refl
  get-take (suc n) (x ∷ xs) zero h = refl
  get-take (suc n) (x ∷ xs) (suc i) h = get-take n xs i (omega arith)

  pub length-take_all : (n : ℕ) (xs : List X) → n ≤ length xs → length (take n xs) ≡ n
  length-take_all zero xs h = refl
  length-take_all (suc n) [] h = absurd (omega arith)
  length-take_all (suc n) (x ∷ xs) h = ap suc (length-take_all n xs (omega arith))

  -- the last element takes the place of the removed element
  module _ (xs : List X) (i : ℕ) (d : X) (h : i < length xs) where
    abbrev last : ℕ
    last = length xs - 1

    pub length-swapped : length (swap_remove xs i d) ≡ last
    length-swapped = length-take_all last (set xs i (get_or xs last d)) (let n = length-set xs i (get_or xs last d) in omega arith)

    pub get-swapped_here : i < last → slice_get (swap_remove xs i d) i ≡ slice_get xs last
    get-swapped_here l = get-take last (set xs i (get_or xs last d)) i l ∙ get-set xs i (get_or xs last d) h ∙ sym (get-here xs last d (omega arith))

    pub get-swapped_other : (j : ℕ) → j < last → j ≢ i → slice_get (swap_remove xs i d) j ≡ slice_get xs j
    get-swapped_other j l e = get-take last (set xs i (get_or xs last d)) j l ∙ get-set_other xs i j (get_or xs last d) e

    pub get-swapped_past : (j : ℕ) → last ≤ j → slice_get (swap_remove xs i d) j ≡ None
    get-swapped_past j l = get-past (swap_remove xs i d) j (let n = length-swapped in omega arith)

  pub get-within : (xs : List X) (i : ℕ) (x : X) → slice_get xs i ≡ Some x → i < length xs
  get-within [] i x e = absurd (let n : None ≡ Some x = e in cc)
  get-within (y ∷ xs) zero x e = omega arith
  get-within (y ∷ xs) (suc i) x e = let l = get-within xs i x e in omega arith

  pub get-is : (xs : List X) (i : ℕ) (x d : X) → slice_get xs i ≡ Some x → x ≡ get_or xs i d
  get-is [] i x d e = absurd (let n : None ≡ Some x = e in cc)
  get-is (y ∷ xs) zero x d e = let s : y ≡ x = cc in sym s
  get-is (y ∷ xs) (suc i) x d e = get-is xs i x d e

  -- the elements after the removed element move up
  pub get-removed_before : (xs : List X) (i j : ℕ) → j < i → slice_get (remove xs i) j ≡ slice_get xs j
  get-removed_before [] zero j h = refl
  get-removed_before [] (suc i) j h = refl
  get-removed_before (x ∷ xs) zero j h = absurd (omega arith)
  get-removed_before (x ∷ xs) (suc i) zero h = refl
  get-removed_before (x ∷ xs) (suc i) (suc j) h = get-removed_before xs i j (omega arith)

  pub get-removed_after : (xs : List X) (i j : ℕ) → i ≤ j → slice_get (remove xs i) j ≡ slice_get xs (suc j)
  get-removed_after [] zero j h = refl
  get-removed_after [] (suc i) j h = refl
  get-removed_after (x ∷ xs) zero j h = refl
  get-removed_after (x ∷ xs) (suc i) zero h = absurd (omega arith)
  get-removed_after (x ∷ xs) (suc i) (suc j) h = get-removed_after xs i j (omega arith)

  pub length-removed : (xs : List X) (i : ℕ) → i < length xs → suc (length (remove xs i)) ≡ length xs
  length-removed [] i h = absurd (omega arith)
  length-removed (x ∷ xs) zero h = refl
  length-removed (x ∷ xs) (suc i) h = ap suc (length-removed xs i (omega arith))
