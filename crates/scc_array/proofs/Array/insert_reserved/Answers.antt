use Rattle.std.proofs.Common.{arith, length, refl, ap}
use Rattle.scc_array.proofs.Shelves.{seen-window, window-within, slots-are}
use Rattle.scc_array.specs.Windows.{pushed, window_of}
use Rattle.scc_array.specs.Shelf.{with_slot}
use Rattle.scc_array.proofs.Array.insert_reserved.Goals as goal

pub push-requires-clause-bucket : goal.push-requires-clause-bucket
push-requires-clause-bucket g c =
    let ws = c.self.inside.columns in let os = c.self.inside.overflow.items in let bs = c.args.self.now in let b = c.args.bucket in
    let view = c.self.view_is in let within = window-within ws os bs view b c.requires.bucket in
    within

pub push-requires-clause-room : goal.push-requires-clause-room
push-requires-clause-room g c =
    let ws = c.self.inside.columns in let os = c.self.inside.overflow.items in let bs = c.args.self.now in let b = c.args.bucket in
    let view = c.self.view_is in let within = window-within ws os bs view b c.requires.bucket in
    let n = ap length (slots-are ws os bs view b c.requires.bucket) in omega (arith, c.requires.room)

pub returns-clause-value : goal.returns-clause-value
returns-clause-value g c =
    let ws = c.self.inside.columns in let os = c.self.inside.overflow.items in let bs = c.args.self.now in let b = c.args.bucket in
    let view = c.self.view_is in let within = window-within ws os bs view b c.requires.bucket in
    rw c.push.ensures.value (seen-window ws os bs view b c.requires.bucket (λ s. with_slot s c.args.entry c.args.tag) (pushed (window_of ws b) c.args.entry c.args.tag) refl)

pub returns-clause-slot : goal.returns-clause-slot
returns-clause-slot g c =
    let n = ap length (slots-are c.self.inside.columns c.self.inside.overflow.items c.args.self.now c.self.view_is c.args.bucket c.requires.bucket) in
    omega (arith, c.push.ensures.slot)
