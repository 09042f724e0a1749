-- A bucket with one entry written.
use Rattle.std.proofs.Common.{◌≡◌, ℕ, zero, suc, ◌+◌, ◌-◌, ◌<◌, ◌≤◌, List, [], ◌∷◌, ◌++◌, length, take, set, get_or, nat_lt, true, false, rules, refl, sym, ap, ◌∙◌, arith, Some}
use Rattle.std.specs.List.{slice_get}
use Rattle.scc_array.specs.Shelf.{Shelf, shelf_entries}
use Rattle.scc_array.specs.ShelfWrites.{write_at, shelf_write_at, length-write_at}
use Rattle.scc_array.proofs.ListsLemmas.{get-index, get-left, get-right}

-- to set the whole entry at index i is to write into the entry at index i
pub set-write_at : {E X : Type 0} (put : E → X → E) (es : List E) (i : ℕ) (e : E) (w : X) → i < length es → e ≡ get_or es i e → set es i (put e w) ≡ write_at put es i w
set-write_at put [] i e w l at = absurd (omega arith)
set-write_at put (x ∷ es) zero e w l at = ap (λ z. put z w ∷ es) at
set-write_at put (x ∷ es) (suc i) e w l at = ap (λ z. x ∷ z) (set-write_at put es i e w (omega arith) at)

-- the shelf with these fields
abbrev pub shelf_of : {E : Type 0} → List E → List ℕ → List E → ℕ → Shelf E
shelf_of slots tags overflow room = record { slots = slots; tags = take (length slots) tags; overflow = overflow; room = room }

module _ {E X : Type 0} (put : E → X → E) (slots : List E) (tags : List ℕ) (overflow : List E) (room i : ℕ) (e : E) (b : Shelf E) (view : shelf_of slots tags overflow room ≡ b) where
  pub slot-written : (w : X) → i < length slots → e ≡ get_or slots i e → shelf_of (set slots i (put e w)) tags overflow room ≡ shelf_write_at put b i w
  slot-written w l at =
      let t : nat_lt i (length slots) ≡ true = search rules in
      let here : shelf_of (set slots i (put e w)) tags overflow room ≡ shelf_write_at put (shelf_of slots tags overflow room) i w =
      rw (t, set-write_at put slots i e w l at, length-write_at put slots i w) refl in
      here ∙ ap (λ s. shelf_write_at put s i w) view

  pub overflow-written : (w : X) (k : ℕ) → length slots ≤ i → k ≡ i - length slots → k < length overflow → e ≡ get_or overflow k e → shelf_of slots tags (set overflow k (put e w)) room ≡ shelf_write_at put b i w
  overflow-written w k far ek l at =
      let t : nat_lt i (length slots) ≡ false = search rules in
      let here : shelf_of slots tags (set overflow k (put e w)) room ≡ shelf_write_at put (shelf_of slots tags overflow room) i w =
      rw (t, set-write_at put overflow k e w l at, ek) refl in
      here ∙ ap (λ s. shelf_write_at put s i w) view

  pub slot-got : i < length slots → e ≡ get_or slots i e → slice_get (shelf_entries b) i ≡ Some e
  slot-got l at = ap (λ s. slice_get (shelf_entries s) i) (sym view) ∙ get-left slots overflow i e (get-index slots i e l at)

  pub overflow-got : (k : ℕ) → length slots ≤ i → k ≡ i - length slots → k < length overflow → e ≡ get_or overflow k e → slice_get (shelf_entries b) i ≡ Some e
  overflow-got k far ek l at =
      let s : i ≡ length slots + k = omega arith in
      ap (λ x. slice_get (shelf_entries x) i) (sym view) ∙ ap (slice_get (slots ++ overflow)) s ∙ get-right slots overflow k ∙ get-index overflow k e l at
