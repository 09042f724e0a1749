-- A bucket whose removed entry is replaced by its last entry.
use Rattle.std.proofs.Common.{◌≡◌, ℕ, zero, suc, ◌+◌, ◌-◌, ◌<◌, ◌≤◌, List, [], ◌∷◌, ◌++◌, length, map, set, take, get_or, nat_lt, true, false, rules, refl, sym, ap, ◌∙◌, subst, arith, length-append}
use Rattle.std.specs.List.{remove, swap_remove}
use Rattle.std.specs.List.Sorted.{IsPermutation}
use Rattle.std.proofs.Math.Seq.{take-set-lt}
use Rattle.std.proofs.lemmas.List.{get_or-map, get_or-take, length-map, length-take-le, map-set, take-map, take-take}
use Rattle.std.proofs.lemmas.List.Sorted.{length_permutation, IsPermutation-append_comm, IsPermutation-append_left, IsPermutation-append_right, IsPermutation-cons, IsPermutation-refl}
use native.Mathlib.Decide.{dec_lt}
use Rattle.scc_array.specs.Shelf.{Shelf, shelf_entries, without_slot, swapped_out}

-- the tags of the remaining slots, after the last tag was written to slot i
pub tags_swapped : (tags : List ℕ) (n k i : ℕ) → i < n → n ≤ length tags → k + 1 ≡ n → take k (set tags i (get_or tags (n - 1) 0)) ≡ swap_remove (take n tags) i 0
tags_swapped tags n k i p q e =
    let long : length (take n tags) ≡ n = length-take-le n tags q in
    let last : get_or (take n tags) (n - 1) 0 ≡ get_or tags (n - 1) 0 = get_or-take n tags (n - 1) 0 (omega arith) in
    let whole : take (n - 1) (set (take n tags) i (get_or (take n tags) (n - 1) 0)) ≡ swap_remove (take n tags) i 0 = ap (λ m. take (m - 1) (set (take n tags) i (get_or (take n tags) (m - 1) 0))) (sym long) in
    let less : k ≡ n - 1 = omega arith in
    sym (take-take k n (set tags i (get_or tags (n - 1) 0)) (omega arith))
    ∙ ap (take k) (take-set-lt n tags i (get_or tags (n - 1) 0) p ∙ ap (set (take n tags) i) (sym last))
    ∙ ap (λ m. take m (set (take n tags) i (get_or (take n tags) (n - 1) 0))) less ∙ whole

-- a bucket whose parts are those of `swapped_out` is equal to it
pub swapped : {E : Type 0} (b : Shelf E) (slots : List E) (tags : List ℕ) (overflow : List E) (room i : ℕ) (x : E) → i < length b.slots
    → slots ≡ swap_remove b.slots i x → tags ≡ swap_remove b.tags i 0 → overflow ≡ b.overflow → room ≡ b.room
    → ◌≡◌ {A = Shelf E} (record { slots = slots; tags = tags; overflow = overflow; room = room }) (swapped_out b i x)
swapped b slots tags overflow room i x l es et eo er =
    let t : nat_lt i (length b.slots) ≡ true = search rules in
    rw (es, et, eo, er, t)

up-to-last : {X : Type 0} (y : X) (ys : List X) (d : X) → take (length ys) (y ∷ ys) ++ get_or (y ∷ ys) (length ys) d ∷ [] ≡ y ∷ ys
up-to-last y [] d = refl
up-to-last y (z ∷ zs) d = ap (λ l. y ∷ l) (up-to-last z zs d)

-- if the last element replaces the first one, the result is a permutation of the other elements
rotated : {X : Type 0} (y : X) (ys : List X) (d : X) → IsPermutation ys (take (length ys) (get_or (y ∷ ys) (length ys) d ∷ ys))
rotated y [] d = IsPermutation-refl []
rotated y (z ∷ zs) d =
    let front = take (length zs) (z ∷ zs) in
    let last = get_or (z ∷ zs) (length zs) d in
    subst (λ l. IsPermutation l (last ∷ front)) (up-to-last z zs d) (IsPermutation-append_comm front (last ∷ []))

-- `remove` and `swap_remove` differ only in the order of the other elements
pub remove-swap_remove : {X : Type 0} (xs : List X) (i : ℕ) (d : X) → i < length xs → IsPermutation (remove xs i) (swap_remove xs i d)
remove-swap_remove [] i d h = absurd (omega arith)
remove-swap_remove (y ∷ ys) zero d h =
    let n : suc (length ys) - 1 ≡ length ys = omega arith in
    subst (λ m. IsPermutation ys (take m (get_or (y ∷ ys) m d ∷ ys))) (sym n) (rotated y ys d)
remove-swap_remove (y ∷ []) (suc i) d h = absurd (omega arith)
remove-swap_remove (y ∷ z ∷ zs) (suc i) d h =
    let n : suc (length zs) - 1 ≡ length zs = omega arith in
    let m : suc (suc (length zs)) - 1 ≡ suc (length zs) = omega arith in
    let rest = subst (λ k. IsPermutation (remove (z ∷ zs) i) (take k (set (z ∷ zs) i (get_or (z ∷ zs) k d)))) n (remove-swap_remove (z ∷ zs) i d (omega arith)) in
    subst (λ k. IsPermutation (y ∷ remove (z ∷ zs) i) (take k (y ∷ set (z ∷ zs) i (get_or (y ∷ z ∷ zs) k d)))) (sym m) (IsPermutation-cons y (remove (z ∷ zs) i) (take (length zs) (set (z ∷ zs) i (get_or (z ∷ zs) (length zs) d))) rest)

map-swap_remove : {X Y : Type 0} (f : X → Y) (xs : List X) (i : ℕ) (d : X) (e : Y) → i < length xs → swap_remove (map f xs) i e ≡ map f (swap_remove xs i d)
map-swap_remove f xs i d e h =
    let n : ℕ = length xs - 1 in
    let count : length (map f xs) ≡ length xs = length-map xs f in
    let last : get_or (map f xs) n e ≡ f (get_or xs n d) = get_or-map f xs n d e (omega arith) in
    ap (λ m. take (m - 1) (set (map f xs) i (get_or (map f xs) (m - 1) e))) count
    ∙ ap (λ y. take n (set (map f xs) i y)) last ∙ ap (take n) (sym (map-set f xs i (get_or xs n d))) ∙ take-map f n (set xs i (get_or xs n d))

module _ {E : Type 0} (b : Shelf E) (k : ℕ) (x : E) (lk : k < length (shelf_entries b)) where
  pub entries-swapped : IsPermutation (shelf_entries (without_slot b k)) (shelf_entries (swapped_out b k x))
  entries-swapped = elim (dec_lt k (length b.slots)) [
    | yes q ↦
        let c : nat_lt k (length b.slots) ≡ true = search rules in
        rw c (IsPermutation-append_left b.overflow (remove b.slots k) (swap_remove b.slots k x) (remove-swap_remove b.slots k x q))
    | no q ↦
        let c : nat_lt k (length b.slots) ≡ false = let far : length b.slots ≤ k = omega arith in search rules in
        let l : k - length b.slots < length b.overflow = omega (arith, length-append b.slots b.overflow) in
        rw c (IsPermutation-append_right b.slots (remove b.overflow (k - length b.slots)) (swap_remove b.overflow (k - length b.slots) x) (remove-swap_remove b.overflow (k - length b.slots) x l))
  ]

  -- each part is as long as after a removal in which the later entries move up
  pub slots-swapped : length (swapped_out b k x).slots ≡ length (without_slot b k).slots
  slots-swapped = elim (dec_lt k (length b.slots)) [
    | yes q ↦
        let c : nat_lt k (length b.slots) ≡ true = search rules in
        rw c (length_permutation (remove b.slots k) (swap_remove b.slots k x) (remove-swap_remove b.slots k x q))
    | no q ↦ let c : nat_lt k (length b.slots) ≡ false = let far : length b.slots ≤ k = omega arith in search rules in rw c refl
  ]

  pub overflow-swapped : length (swapped_out b k x).overflow ≡ length (without_slot b k).overflow
  overflow-swapped = elim (dec_lt k (length b.slots)) [
    | yes q ↦ let c : nat_lt k (length b.slots) ≡ true = search rules in rw c refl
    | no q ↦
        let c : nat_lt k (length b.slots) ≡ false = let far : length b.slots ≤ k = omega arith in search rules in
        let l : k - length b.slots < length b.overflow = omega (arith, length-append b.slots b.overflow) in
        rw c (length_permutation (remove b.overflow (k - length b.slots)) (swap_remove b.overflow (k - length b.slots) x) (remove-swap_remove b.overflow (k - length b.slots) x l))
  ]

  pub tags-swapped : (f : E → ℕ) → b.tags ≡ map f b.slots → (swapped_out b k x).tags ≡ map f (swapped_out b k x).slots
  tags-swapped f h = elim (dec_lt k (length b.slots)) [
    | yes q ↦ let c : nat_lt k (length b.slots) ≡ true = search rules in rw c (ap (λ z. swap_remove z k 0) h ∙ map-swap_remove f b.slots k x 0 q)
    | no q ↦ let c : nat_lt k (length b.slots) ≡ false = let far : length b.slots ≤ k = omega arith in search rules in rw c h
  ]
