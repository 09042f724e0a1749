-- A write into an entry of an array.
use Rattle.std.proofs.Common.{◌≡◌, ℕ, ◌-◌, ◌<◌, ◌≤◌, List, length, set, get_or, Some, nat_lt, true, false, refl, sym, ap, ◌∙◌, arith, rules, length-append}
use Rattle.std.specs.List.{slice_get}
use Rattle.std.specs.Vec.{vec_capacity}
use Rattle.std.specs.declared.vec.Vec.{Vec}
use Rattle.scc_array.proofs.Gets.{get-is, get-here}
use Rattle.scc_array.proofs.Joined.{get-later}
use Rattle.scc_array.proofs.Shelves.{slots-are, spilled-there, list-is, seen-window, seen-list}
use Rattle.scc_array.specs.Shelves.{shelf_of, shelves, HasListEach}
use Rattle.scc_array.specs.Windows.{Window, window_of, written_over}
use Rattle.scc_array.proofs.ListsLemmas.{get-left}
use Rattle.scc_array.proofs.Writing.{set-write_at}
use Rattle.scc_array.specs.Shelf.{Shelf, shelf_entries}
use Rattle.scc_array.specs.ShelfWrites.{shelf_write_at}

module _ {E A X : Type 0} (put : E → X → E) (ws : List (Window E)) (os : List (Vec E A)) (bs : List (Shelf E)) (view : shelves ws os ≡ bs) (kept : HasListEach ws os) (b : ℕ) (within : b < length bs) (i : ℕ) where
  module _ (e : E) (there : i < length (window_of ws b).slots) (entry_count : slice_get (window_of ws b).slots i ≡ Some e) where
    pub slot-got : slice_get (shelf_entries (shelf_of bs b)) i ≡ Some e
    slot-got = get-left (shelf_of bs b).slots (shelf_of bs b).overflow i e (ap (λ l. slice_get l i) (sym (slots-are ws os bs view b within)) ∙ entry_count)

    pub slot-written : (w : X) → shelves (set ws b (written_over (window_of ws b) i (put e w))) os ≡ set bs b (shelf_write_at put (shelf_of bs b) i w)
    slot-written w =
        let t : nat_lt i (length (window_of ws b).slots) ≡ true = search rules in
        seen-window ws os bs view b within (λ s. shelf_write_at put s i w) (written_over (window_of ws b) i (put e w))
        (rw (t, set-write_at put (window_of ws b).slots i e w there (get-is (window_of ws b).slots i e e entry_count)) refl)

  module _ (slot : i < length (shelf_entries (shelf_of bs b))) (k : ℕ) (count : k ≡ length (window_of ws b).slots) (far : k ≤ i) where
    abbrev slots : List E
    slots = (shelf_of bs b).slots

    abbrev overflow : List E
    overflow = (shelf_of bs b).overflow

    counted : k ≡ length slots
    counted = count ∙ ap length (slots-are ws os bs view b within)

    pub in-list : i - k < length overflow
    in-list = let c = counted in omega (arith, length-append slots overflow)

    pub list-there : b < length os
    list-there = spilled-there ws os bs view b within kept (let l = in-list in omega arith)

    module _ (v : Vec E A) (entry_count : slice_get os b ≡ Some v) where
      pub list-long : i - k < length v.items
      list-long = let l = in-list in let n = ap length (list-is ws os bs view b within v entry_count) in omega arith

      module _ (e : E) (at : e ≡ get_or v.items (i - k) e) where
        pub list-got : slice_get (shelf_entries (shelf_of bs b)) i ≡ Some e
        list-got =
            let c = counted in
            get-later slots overflow i (i - k) (omega arith) ∙ ap (λ l. slice_get l (i - k)) (sym (list-is ws os bs view b within v entry_count)) ∙ get-here v.items (i - k) e list-long ∙ ap Some (sym at)

        pub list-written : (u : Vec E A) (w : X) → u.items ≡ set v.items (i - k) (put e w) → vec_capacity u ≡ vec_capacity v → shelves ws (set os b u) ≡ set bs b (shelf_write_at put (shelf_of bs b) i w)
        list-written u w items room =
            let t : nat_lt i (length (window_of ws b).slots) ≡ false = let l : length (window_of ws b).slots ≤ i = omega arith in search rules in
            seen-list ws os bs view b within (λ s. shelf_write_at put s i w) u (set v.items (i - k) (put e w)) (vec_capacity v) list-there items room
            (rw (t, entry_count, set-write_at put v.items (i - k) e w list-long at, count) refl)
