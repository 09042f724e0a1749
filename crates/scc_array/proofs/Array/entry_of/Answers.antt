use Rattle.std.proofs.Common.{◌≡◌, ◌≤◌, ◌<◌, ◌-◌, arith, length, Some, sym, ap, ◌∙◌, length-append}
use Rattle.std.specs.List.{slice_get}
use Rattle.scc_array.proofs.Gets.{get-here}
use Rattle.scc_array.proofs.Joined.{get-later}
use Rattle.scc_array.proofs.ListsLemmas.{get-left}
use Rattle.scc_array.proofs.Shelves.{window-within, slots-are, spilled-there, list-is, list-read}
use Rattle.scc_array.specs.Shelves.{shelf_of}
use Rattle.scc_array.proofs.Array.entry_of.Goals as goal

pub entry_at-requires-clause-bucket : goal.entry_at-requires-clause-bucket
entry_at-requires-clause-bucket g c = window-within c.self.inside.columns c.self.inside.overflow.items c.args.self.now c.self.view_is c.args.bucket c.requires.bucket

pub entry_at-requires-clause-slot : goal.entry_at-requires-clause-slot
entry_at-requires-clause-slot g c =
    let ws = c.self.inside.columns in let os = c.self.inside.overflow.items in let bs = c.args.self.now in let b = c.args.bucket in
    let view = c.self.view_is in
    let n = ap length (slots-are ws os bs view b c.requires.bucket) in
    omega (arith, c.requires.slots, c.if-slot-slots.true)

pub returns-then-slot-slots : goal.returns-then-slot-slots
returns-then-slot-slots g c =
    let ws = c.self.inside.columns in let os = c.self.inside.overflow.items in let bs = c.args.self.now in let b = c.args.bucket in
    let view = c.self.view_is in let within = window-within ws os bs view b c.requires.bucket in
    let slots = slots-are ws os bs view b c.requires.bucket in
    let k : c.args.slots ≡ length (shelf_of bs b).slots = c.requires.slots in
    get-left (shelf_of bs b).slots (shelf_of bs b).overflow c.args.slot c.entry_at.result.now (ap (λ l. slice_get l c.args.slot) (sym slots) ∙ c.entry_at.ensures)

pub index-requires : goal.index-requires
index-requires g c =
    let ws = c.self.inside.columns in let os = c.self.inside.overflow.items in let bs = c.args.self.now in let b = c.args.bucket in
    let view = c.self.view_is in let within = window-within ws os bs view b c.requires.bucket in
    let slots = slots-are ws os bs view b c.requires.bucket in
    let k : c.args.slots ≡ length (shelf_of bs b).slots = c.requires.slots in
    let far : length (shelf_of bs b).slots ≤ c.args.slot = omega (arith, c.if-slot-slots.false) in
    let some : c.args.slot - c.args.slots < length (shelf_of bs b).overflow = omega (arith, c.requires.slot, length-append (shelf_of bs b).slots (shelf_of bs b).overflow) in
    let there = spilled-there ws os bs view b c.requires.bucket c.self.invariant.0 (omega arith) in
    omega (arith, c.self.inside.overflow.ok.0)

pub index-requires-2 : goal.index-requires-2
index-requires-2 g c =
    let ws = c.self.inside.columns in let os = c.self.inside.overflow.items in let bs = c.args.self.now in let b = c.args.bucket in
    let view = c.self.view_is in let within = window-within ws os bs view b c.requires.bucket in
    let slots = slots-are ws os bs view b c.requires.bucket in
    let k : c.args.slots ≡ length (shelf_of bs b).slots = c.requires.slots in
    let far : length (shelf_of bs b).slots ≤ c.args.slot = omega (arith, c.if-slot-slots.false) in
    let some : c.args.slot - c.args.slots < length (shelf_of bs b).overflow = omega (arith, c.requires.slot, length-append (shelf_of bs b).slots (shelf_of bs b).overflow) in
    let there = spilled-there ws os bs view b c.requires.bucket c.self.invariant.0 (omega arith) in
    let v = c.index.result.now in let items = list-is ws os bs view b c.requires.bucket v (list-read os b v there c.index.ensures) in
    omega (arith, v.ok.0, ap length items)

pub returns : goal.returns
returns g c =
    let ws = c.self.inside.columns in let os = c.self.inside.overflow.items in let bs = c.args.self.now in let b = c.args.bucket in
    let view = c.self.view_is in let within = window-within ws os bs view b c.requires.bucket in
    let slots = slots-are ws os bs view b c.requires.bucket in
    let k : c.args.slots ≡ length (shelf_of bs b).slots = c.requires.slots in
    let far : length (shelf_of bs b).slots ≤ c.args.slot = omega (arith, c.if-slot-slots.false) in
    let some : c.args.slot - c.args.slots < length (shelf_of bs b).overflow = omega (arith, c.requires.slot, length-append (shelf_of bs b).slots (shelf_of bs b).overflow) in
    let there = spilled-there ws os bs view b c.requires.bucket c.self.invariant.0 (omega arith) in
    let v = c.index.result.now in let items = list-is ws os bs view b c.requires.bucket v (list-read os b v there c.index.ensures) in
    let x = c.index-2.result.now in let j = c.args.slot - c.args.slots in
    get-later (shelf_of bs b).slots (shelf_of bs b).overflow c.args.slot j (omega arith) ∙ ap (λ l. slice_get l j) (sym items) ∙ get-here v.items j x (omega (arith, ap length items)) ∙ ap Some (sym c.index-2.ensures)
