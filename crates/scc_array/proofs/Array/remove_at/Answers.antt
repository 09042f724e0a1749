use Rattle.std.proofs.Common.{◌≡◌, ◌≤◌, ◌<◌, ◌-◌, arith, length, Some, true, false, nat_lt, refl, sym, ap, ◌∙◌, rules, length-append}
use Rattle.std.specs.List.{slice_get, remove}
use Rattle.std.specs.Vec.{vec_capacity}
use Rattle.scc_array.proofs.Gets.{get-here}
use Rattle.scc_array.proofs.Joined.{get-later}
use Rattle.scc_array.proofs.ListsLemmas.{get-left}
use Rattle.scc_array.proofs.Shelves.{window-within, slots-are, spilled-there, list-is, seen-window, seen-list, list-read}
use Rattle.scc_array.specs.Shelves.{shelf_of}
use Rattle.scc_array.specs.Windows.{window_of, shifted_out}
use Rattle.scc_array.specs.Shelf.{without_slot}
use Rattle.scc_array.proofs.Array.remove_at.Goals as goal

pub remove-requires-clause-bucket : goal.remove-requires-clause-bucket
remove-requires-clause-bucket g c = window-within c.self.inside.columns c.self.inside.overflow.items c.args.self.now c.self.view_is c.args.bucket c.requires.bucket

pub remove-requires-clause-slot : goal.remove-requires-clause-slot
remove-requires-clause-slot g c = omega (arith, c.slots_before_overflow-count.ensures.within c.if-slot-count.true, ap length (slots-are c.self.inside.columns c.self.inside.overflow.items c.args.self.now c.self.view_is c.args.bucket c.requires.bucket))

pub returns-then-slot-count-clause-entry : goal.returns-then-slot-count-clause-entry
returns-then-slot-count-clause-entry g c =
    let ws = c.self.inside.columns in let os = c.self.inside.overflow.items in let bs = c.args.self.now in let b = c.args.bucket in
    let view = c.self.view_is in let within = window-within ws os bs view b c.requires.bucket in
    let slots = slots-are ws os bs view b c.requires.bucket in
    get-left (shelf_of bs b).slots (shelf_of bs b).overflow c.args.slot c.remove.result (ap (λ l. slice_get l c.args.slot) (sym slots) ∙ c.remove.ensures.entry)

pub returns-then-slot-count-clause-others : goal.returns-then-slot-count-clause-others
returns-then-slot-count-clause-others g c =
    let ws = c.self.inside.columns in let os = c.self.inside.overflow.items in let bs = c.args.self.now in let b = c.args.bucket in
    let view = c.self.view_is in let within = window-within ws os bs view b c.requires.bucket in
    let slots = slots-are ws os bs view b c.requires.bucket in
    let x = c.remove.result in
    let t : nat_lt c.args.slot (length (window_of ws b).slots) ≡ true = let l : c.args.slot < length (window_of ws b).slots = omega (arith, c.slots_before_overflow-count.ensures.within c.if-slot-count.true, ap length slots) in search rules in
    rw c.remove.ensures.others (seen-window ws os bs view b c.requires.bucket (λ s. without_slot s c.args.slot) (shifted_out (window_of ws b) c.args.slot) (rw t refl))

pub index_mut-list-requires : goal.index_mut-list-requires
index_mut-list-requires g c =
    let ws = c.self.inside.columns in let os = c.self.inside.overflow.items in let bs = c.args.self.now in let b = c.args.bucket in
    let view = c.self.view_is in let within = window-within ws os bs view b c.requires.bucket in
    let slots = slots-are ws os bs view b c.requires.bucket in
    let k : c.slots_before_overflow-count.result ≡ length (shelf_of bs b).slots = (c.slots_before_overflow-count.ensures.past (omega (arith, c.if-slot-count.false)) ∙ sym (ap length slots)) ∙ ap length slots in
    let far : length (shelf_of bs b).slots ≤ c.args.slot = omega (arith, c.if-slot-count.false) in
    let some : c.args.slot - c.slots_before_overflow-count.result < length (shelf_of bs b).overflow = omega (arith, c.requires.slot, length-append (shelf_of bs b).slots (shelf_of bs b).overflow) in
    let there = spilled-there ws os bs view b c.requires.bucket c.self.invariant.0 (omega arith) in
    omega (arith, c.self.inside.overflow.ok.0)

pub remove-requires-2 : goal.remove-requires-2
remove-requires-2 g c =
    let ws = c.self.inside.columns in let os = c.self.inside.overflow.items in let bs = c.args.self.now in let b = c.args.bucket in
    let view = c.self.view_is in let within = window-within ws os bs view b c.requires.bucket in
    let slots = slots-are ws os bs view b c.requires.bucket in
    let k : c.slots_before_overflow-count.result ≡ length (shelf_of bs b).slots = (c.slots_before_overflow-count.ensures.past (omega (arith, c.if-slot-count.false)) ∙ sym (ap length slots)) ∙ ap length slots in
    let far : length (shelf_of bs b).slots ≤ c.args.slot = omega (arith, c.if-slot-count.false) in
    let some : c.args.slot - c.slots_before_overflow-count.result < length (shelf_of bs b).overflow = omega (arith, c.requires.slot, length-append (shelf_of bs b).slots (shelf_of bs b).overflow) in
    let there = spilled-there ws os bs view b c.requires.bucket c.self.invariant.0 (omega arith) in
    let v = c.index_mut-list.result.now in let items = list-is ws os bs view b c.requires.bucket v (list-read os b v there c.index_mut-list.ensures.value) in
    omega (arith, v.ok.0, ap length items)

pub returns-clause-entry : goal.returns-clause-entry
returns-clause-entry g c =
    let ws = c.self.inside.columns in let os = c.self.inside.overflow.items in let bs = c.args.self.now in let b = c.args.bucket in
    let view = c.self.view_is in let within = window-within ws os bs view b c.requires.bucket in
    let slots = slots-are ws os bs view b c.requires.bucket in
    let k : c.slots_before_overflow-count.result ≡ length (shelf_of bs b).slots = (c.slots_before_overflow-count.ensures.past (omega (arith, c.if-slot-count.false)) ∙ sym (ap length slots)) ∙ ap length slots in
    let far : length (shelf_of bs b).slots ≤ c.args.slot = omega (arith, c.if-slot-count.false) in
    let some : c.args.slot - c.slots_before_overflow-count.result < length (shelf_of bs b).overflow = omega (arith, c.requires.slot, length-append (shelf_of bs b).slots (shelf_of bs b).overflow) in
    let there = spilled-there ws os bs view b c.requires.bucket c.self.invariant.0 (omega arith) in
    let v = c.index_mut-list.result.now in let items = list-is ws os bs view b c.requires.bucket v (list-read os b v there c.index_mut-list.ensures.value) in
    let x = c.remove-2.result in let j = c.args.slot - c.slots_before_overflow-count.result in
    get-later (shelf_of bs b).slots (shelf_of bs b).overflow c.args.slot j (omega arith) ∙ ap (λ l. slice_get l j) (sym items) ∙ get-here v.items j x (omega (arith, ap length items)) ∙ ap Some (sym c.remove-2.ensures.value)

pub returns-clause-others : goal.returns-clause-others
returns-clause-others g c =
    let ws = c.self.inside.columns in let os = c.self.inside.overflow.items in let bs = c.args.self.now in let b = c.args.bucket in
    let view = c.self.view_is in let within = window-within ws os bs view b c.requires.bucket in
    let slots = slots-are ws os bs view b c.requires.bucket in
    let k : c.slots_before_overflow-count.result ≡ length (shelf_of bs b).slots = (c.slots_before_overflow-count.ensures.past (omega (arith, c.if-slot-count.false)) ∙ sym (ap length slots)) ∙ ap length slots in
    let far : length (shelf_of bs b).slots ≤ c.args.slot = omega (arith, c.if-slot-count.false) in
    let some : c.args.slot - c.slots_before_overflow-count.result < length (shelf_of bs b).overflow = omega (arith, c.requires.slot, length-append (shelf_of bs b).slots (shelf_of bs b).overflow) in
    let there = spilled-there ws os bs view b c.requires.bucket c.self.invariant.0 (omega arith) in
    let v = c.index_mut-list.result.now in let entry_count = list-read os b v there c.index_mut-list.ensures.value in
    let x = c.remove-2.result in let count = (c.slots_before_overflow-count.ensures.past (omega (arith, c.if-slot-count.false)) ∙ sym (ap length slots)) in
    let t : nat_lt c.args.slot (length (window_of ws b).slots) ≡ false = let l : length (window_of ws b).slots ≤ c.args.slot = omega (arith, (c.slots_before_overflow-count.ensures.past (omega (arith, c.if-slot-count.false)) ∙ sym (ap length slots)), c.if-slot-count.false) in search rules in
    let j = c.args.slot - c.slots_before_overflow-count.result in let same : c.args.slot - length (window_of ws b).slots ≡ j = ap (λ n. c.args.slot - n) (sym count) in
    seen-list ws os bs view b c.requires.bucket (λ s. without_slot s c.args.slot) c.remove-2.new.self (remove v.items j) (vec_capacity v) there c.remove-2.ensures.items c.remove-2.ensures.capacity
    (rw (t, entry_count, same) refl)
