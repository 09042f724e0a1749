-- A removal of the first entry that passes.
use Rattle.std.proofs.Common.{◌≡◌, ℕ, ◌+◌, ◌<◌, ◌≤◌, Bool, List, length, Option, Some, None, nat_lt, true, refl, sym, ap, ◌∙◌, arith, rules}
use Rattle.std.specs.List.{slice_get, position}
use Rattle.std.specs.Option.{option_map}
use Rattle.std.specs.declared.vec.Vec.{Vec}
use Rattle.scc_array.proofs.Finds.{slot-below}
use Rattle.scc_array.proofs.Joined.{position-joined, or_later}
use Rattle.scc_array.proofs.ListsLemmas.{get-left}
use Rattle.scc_array.proofs.Shelves.{slots-are, seen-window}
use Rattle.scc_array.specs.Shelves.{shelf_of, shelves}
use Rattle.scc_array.specs.Windows.{Window, window_of, popped_over}
use Rattle.scc_array.specs.Shelf.{Shelf, shelf_entries, swapped_out}
use Rattle.scc_array.specs.Takes.{TakesFirstOf, TakesInSlots}

later-past : (n : ℕ) (o : Option ℕ) (i : ℕ) → option_map (λ k. n + k) o ≡ Some i → n ≤ i
later-past n None i e = absurd (let z : None ≡ Some i = e in cc)
later-past n (Some k) i e = let z : n + k ≡ i = cc in omega arith

module _ {E : Type 0} (p : E → Bool) (b : Shelf E) (i : ℕ) where
  -- if no entry in the slots passes, the first entry that passes is in the overflow list
  pub past-cells : position p b.slots ≡ None → position p (shelf_entries b) ≡ Some i → length b.slots ≤ i
  past-cells missed first =
      later-past (length b.slots) (position p b.overflow) i
      (sym (position-joined p b.slots b.overflow ∙ ap (λ o. or_later o (length b.slots) (position p b.overflow)) missed) ∙ first)

  -- the first entry that passes in the slots is the first in the bucket
  pub first-slot : position p b.slots ≡ Some i → position p (shelf_entries b) ≡ Some i
  first-slot found = position-joined p b.slots b.overflow ∙ ap (λ o. or_later o (length b.slots) (position p b.overflow)) found

-- a removal from the slots of a bucket is a removal from the bucket
pub taken-in_places : {E A : Type 0} (p : E → Bool) (ws vs : List (Window E)) (os : List (Vec E A)) (bs : List (Shelf E)) (view : shelves ws os ≡ bs) (b : ℕ) (within : b < length bs) (r : Option E)
    → TakesFirstOf p ws b vs r → TakesInSlots p bs b (shelves vs os) r
taken-in_places p ws vs os bs view b within None (missed, stays) =
    (ap (position p) (sym (slots-are ws os bs view b within)) ∙ missed, ap (λ z. shelves z os) stays ∙ view)
taken-in_places p ws vs os bs view b within (Some x) (i, found, got, taken) =
    let slots = slots-are ws os bs view b within in
    let first : position p (shelf_of bs b).slots ≡ Some i = ap (position p) (sym slots) ∙ found in
    let near = slot-below p (window_of ws b).slots i found in
    let t : nat_lt i (length (window_of ws b).slots) ≡ true = search rules in (
      i,
      slot-below p (shelf_of bs b).slots i first,
      record {
        first = first-slot p (shelf_of bs b) i first;
        entry = get-left (shelf_of bs b).slots (shelf_of bs b).overflow i x (ap (λ l. slice_get l i) (sym slots) ∙ got);
        others = ap (λ z. shelves z os) taken ∙ seen-window ws os bs view b within (λ s. swapped_out s i x) (popped_over (window_of ws b) i x) (rw t refl);
      },
    )
