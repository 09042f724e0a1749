use Rattle.std.proofs.Common.{◌≡◌, ◌≤◌, length, ap, ◌∙◌, inl, arith, rules}
use Rattle.scc_array.proofs.Shelves.{window-within, slots-are}
use Rattle.scc_array.specs.Shelves.{shelf_of}
use Rattle.scc_array.proofs.Array.make_room.Goals as goal

pub count-requires : goal.count-requires
count-requires g c = window-within c.self.inside.columns c.self.inside.overflow.items c.args.self.now c.self.view_is c.args.bucket c.requires

pub returns-then-count-lt32-clause-room : goal.returns-then-count-lt32-clause-room
returns-then-count-lt32-clause-room g c =
    let ws = c.self.inside.columns in let os = c.self.inside.overflow.items in let bs = c.args.self.now in let b = c.args.bucket in
    let view = c.self.view_is in
    let k : c.count.result ≡ length (shelf_of bs b).slots = c.count.ensures.count ∙ ap length (slots-are ws os bs view b c.requires) in
    inl (omega (arith, c.if-count-lt32.true))

pub returns-clause-refused : goal.returns-clause-refused
returns-clause-refused g c =
    let ws = c.self.inside.columns in let os = c.self.inside.overflow.items in let bs = c.args.self.now in let b = c.args.bucket in
    let view = c.self.view_is in
    let k : c.count.result ≡ length (shelf_of bs b).slots = c.count.ensures.count ∙ ap length (slots-are ws os bs view b c.requires) in
    let full : 32 ≤ length (shelf_of bs b).slots = omega (arith, c.if-count-lt32.false) in
    search rules
