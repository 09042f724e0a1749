use Rattle.std.proofs.Common.{◌≡◌, ◌<◌, arith, length, sym, ap, ◌∙◌, length-append}
use Rattle.scc_array.proofs.Shelves.{window-within, slots-are, overflow-is, no-list, empty-list}
use Rattle.scc_array.specs.Shelves.{shelf_of}
use Rattle.scc_array.proofs.Array.slots_before_overflow.Goals as goal

pub returns-then-len-eq0-clause-within : goal.returns-then-len-eq0-clause-within
returns-then-len-eq0-clause-within g c = λ l.
    let ws = c.self.inside.columns in let os = c.self.inside.overflow.items in let bs = c.args.self.now in let b = c.args.bucket in
    let view = c.self.view_is in
    let slots = slots-are ws os bs view b c.requires.bucket in
    let none = empty-list os (sym c.self.inside.overflow.ok.0 ∙ sym c.len.ensures ∙ c.if-len-eq0.true) in
    let bare : length (shelf_of bs b).overflow ≡ 0 = ap length (sym (overflow-is ws os bs view b c.requires.bucket) ∙ no-list os b none) in
    let here : c.args.slot < length (shelf_of bs b).slots = omega (arith, c.requires.slot, length-append (shelf_of bs b).slots (shelf_of bs b).overflow) in
    here

pub returns-then-len-eq0-clause-past : goal.returns-then-len-eq0-clause-past
returns-then-len-eq0-clause-past g c = λ l. absurd (omega (arith, l, c.if-slot-lt32.true))

pub slots_before_overflow-requires : goal.slots_before_overflow-requires
slots_before_overflow-requires g c = window-within c.self.inside.columns c.self.inside.overflow.items c.args.self.now c.self.view_is c.args.bucket c.requires.bucket

pub returns-clause-within : goal.returns-clause-within
returns-clause-within g c = λ l.
    let ws = c.self.inside.columns in let os = c.self.inside.overflow.items in let bs = c.args.self.now in let b = c.args.bucket in
    let view = c.self.view_is in
    let slots = slots-are ws os bs view b c.requires.bucket in
    let w = c.slots_before_overflow.ensures.within l in omega (arith, ap length slots)

pub returns-clause-past : goal.returns-clause-past
returns-clause-past g c = λ l.
    let ws = c.self.inside.columns in let os = c.self.inside.overflow.items in let bs = c.args.self.now in let b = c.args.bucket in
    let view = c.self.view_is in
    let slots = slots-are ws os bs view b c.requires.bucket in
    c.slots_before_overflow.ensures.past l ∙ ap length slots
