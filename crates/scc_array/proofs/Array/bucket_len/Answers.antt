use Rattle.std.proofs.Common.{arith, length, ap, length-append}
use Rattle.scc_array.proofs.Shelves.{window-within, slots-are}
use Rattle.scc_array.specs.Shelves.{shelf_of}
use Rattle.scc_array.proofs.Array.bucket_len.Goals as goal

pub count-requires : goal.count-requires
count-requires g c =
    let ws = c.self.inside.columns in let os = c.self.inside.overflow.items in let bs = c.args.self.now in let b = c.args.bucket in
    let view = c.self.view_is in let within = window-within ws os bs view b c.requires.bucket in
    within

pub overflow_add-result : goal.overflow_add-result
overflow_add-result g c =
    let ws = c.self.inside.columns in let os = c.self.inside.overflow.items in let bs = c.args.self.now in let b = c.args.bucket in
    let view = c.self.view_is in let within = window-within ws os bs view b c.requires.bucket in
    record { fits = let n = ap length (slots-are ws os bs view b c.requires.bucket) in omega (arith, c.requires.few, c.count.ensures.count, c.overflow_len.ensures, length-append (shelf_of bs b).slots (shelf_of bs b).overflow) }

pub returns : goal.returns
returns g c =
    let ws = c.self.inside.columns in let os = c.self.inside.overflow.items in let bs = c.args.self.now in let b = c.args.bucket in
    let view = c.self.view_is in let within = window-within ws os bs view b c.requires.bucket in
    let n = ap length (slots-are ws os bs view b c.requires.bucket) in omega (arith, c.count.ensures.count, c.overflow_len.ensures, length-append (shelf_of bs b).slots (shelf_of bs b).overflow)
