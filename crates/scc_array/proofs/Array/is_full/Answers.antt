use Rattle.std.proofs.Common.{◌≡◌, length, sym, ap, ◌∙◌, rules}
use Rattle.scc_array.proofs.Shelves.{window-within, slots-are}
use Rattle.scc_array.specs.Shelves.{shelf_of}
use Rattle.scc_array.proofs.Array.is_full.Goals as goal

pub count-requires : goal.count-requires
count-requires g c =
    let ws = c.self.inside.columns in let os = c.self.inside.overflow.items in let bs = c.args.self.now in let b = c.args.bucket in
    let view = c.self.view_is in let within = window-within ws os bs view b c.requires in
    within

pub returns : goal.returns
returns g c =
    let ws = c.self.inside.columns in let os = c.self.inside.overflow.items in let bs = c.args.self.now in let b = c.args.bucket in
    let view = c.self.view_is in let within = window-within ws os bs view b c.requires in
    let k = c.count.ensures.count ∙ ap length (slots-are ws os bs view b c.requires) in
    let h : length (shelf_of bs b).slots ≡ c.count.result = sym k in
    rw h (search rules)
