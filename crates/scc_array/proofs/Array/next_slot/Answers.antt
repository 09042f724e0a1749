use Rattle.std.proofs.Common.{◌≡◌, ◌<◌, ◌≤◌, arith, length, nat_lt, true, false, ap, ◌∙◌, rules, length-append}
use Rattle.scc_array.proofs.Shelves.{window-within, slots-are}
use Rattle.scc_array.specs.Shelves.{shelf_of}
use Rattle.scc_array.proofs.Array.next_slot.Goals as goal

pub count-count-requires : goal.count-count-requires
count-count-requires g c = window-within c.self.inside.columns c.self.inside.overflow.items c.args.self.now c.self.view_is c.args.bucket c.requires.bucket

pub returns-then-count-lt32 : goal.returns-then-count-lt32
returns-then-count-lt32 g c =
    let ws = c.self.inside.columns in let os = c.self.inside.overflow.items in let bs = c.args.self.now in let b = c.args.bucket in
    let view = c.self.view_is in
    let k : c.count-count.result ≡ length (shelf_of bs b).slots = c.count-count.ensures.count ∙ ap length (slots-are ws os bs view b c.requires.bucket) in
    let t : nat_lt (length (shelf_of bs b).slots) 32 ≡ true = let l : length (shelf_of bs b).slots < 32 = omega (arith, c.if-count-lt32.true) in search rules in
    rw t k

pub overflow_add-result : goal.overflow_add-result
overflow_add-result g c =
    let ws = c.self.inside.columns in let os = c.self.inside.overflow.items in let bs = c.args.self.now in let b = c.args.bucket in
    let view = c.self.view_is in
    let k : c.count-count.result ≡ length (shelf_of bs b).slots = c.count-count.ensures.count ∙ ap length (slots-are ws os bs view b c.requires.bucket) in
    record { fits = omega (arith, c.requires.few, c.overflow_len.ensures, length-append (shelf_of bs b).slots (shelf_of bs b).overflow) }

pub returns : goal.returns
returns g c =
    let ws = c.self.inside.columns in let os = c.self.inside.overflow.items in let bs = c.args.self.now in let b = c.args.bucket in
    let view = c.self.view_is in
    let k : c.count-count.result ≡ length (shelf_of bs b).slots = c.count-count.ensures.count ∙ ap length (slots-are ws os bs view b c.requires.bucket) in
    let t : nat_lt (length (shelf_of bs b).slots) 32 ≡ false = let l : 32 ≤ length (shelf_of bs b).slots = omega (arith, c.if-count-lt32.false) in search rules in
    rw t (omega (arith, c.overflow_len.ensures, length-append (shelf_of bs b).slots (shelf_of bs b).overflow))
