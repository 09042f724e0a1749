use Rattle.std.proofs.Common.{◌≡◌, ◌<◌, arith, length, true, nat_lt, refl, ap, ◌∙◌, rules}
use Rattle.scc_array.proofs.Shelves.{window-within, slots-are, seen-window, own-room}
use Rattle.scc_array.specs.Shelves.{shelf_of}
use Rattle.scc_array.specs.Windows.{window_of, pushed}
use Rattle.scc_array.specs.Shelf.{with_slot}
use Rattle.scc_array.proofs.Array.insert_made.Goals as goal

pub count-count-requires : goal.count-count-requires
count-count-requires g c = window-within c.self.inside.columns c.self.inside.overflow.items c.args.self.now c.self.view_is c.args.bucket c.requires.bucket

pub push_at-requires-clause-bucket : goal.push_at-requires-clause-bucket
push_at-requires-clause-bucket g c = window-within c.self.inside.columns c.self.inside.overflow.items c.args.self.now c.self.view_is c.args.bucket c.requires.bucket

pub returns-in-Ok-clause-ok : goal.returns-in-Ok-clause-ok
returns-in-Ok-clause-ok g c =
    let ws = c.self.inside.columns in let os = c.self.inside.overflow.items in let bs = c.args.self.now in let b = c.args.bucket in
    let view = c.self.view_is in
    let k : c.count-count.result ≡ length (shelf_of bs b).slots = c.count-count.ensures.count ∙ ap length (slots-are ws os bs view b c.requires.bucket) in
    let t : nat_lt (length (shelf_of bs b).slots) 32 ≡ true = let l : length (shelf_of bs b).slots < 32 = omega (arith, c.if-count-ge32.false) in search rules in
    let seen = seen-window ws os bs view b c.requires.bucket (λ s. with_slot s c.in-Ok.entry c.args.tag) (pushed (window_of ws b) c.in-Ok.entry c.args.tag) refl in
    let room = own-room _ bs b (with_slot (shelf_of bs b) c.in-Ok.entry c.args.tag) c.requires.bucket seen in
    rw (← c.in-Ok.ensures.ok) (rw t k, rw (t, c.push_at.ensures) room)
