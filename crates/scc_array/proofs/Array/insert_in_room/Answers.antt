use Rattle.std.proofs.Common.{◌≡◌, ◌≤◌, ◌<◌, arith, length, set, true, false, nat_lt, refl, ap, ◌∙◌, inl, inr, rules}
use Rattle.scc_array.proofs.Reserving.{shelf-put}
use Rattle.scc_array.proofs.Shelves.{window-within, slots-are, seen-window, own-room}
use Rattle.scc_array.specs.Shelves.{shelf_of, shelves}
use Rattle.scc_array.specs.Windows.{window_of, pushed}
use Rattle.scc_array.specs.Shelf.{Shelf, with_slot}
use Rattle.scc_array.proofs.Array.insert_in_room.Goals as goal

pub count-count-requires : goal.count-count-requires
count-count-requires g c = window-within c.self.inside.columns c.self.inside.overflow.items c.args.self.now c.self.view_is c.args.bucket c.requires.bucket

pub push_at-requires-clause-bucket : goal.push_at-requires-clause-bucket
push_at-requires-clause-bucket g c = window-within c.self.inside.columns c.self.inside.overflow.items c.args.self.now c.self.view_is c.args.bucket c.requires.bucket

pub push_in_room-requires-clause-room : goal.push_in_room-requires-clause-room
push_in_room-requires-clause-room g c =
    let ws = c.self.inside.columns in let os = c.self.inside.overflow.items in let bs = c.args.self.now in let b = c.args.bucket in
    let view = c.self.view_is in
    let k : c.count-count.result ≡ length (shelf_of bs b).slots = c.count-count.ensures.count ∙ ap length (slots-are ws os bs view b c.requires.bucket) in
    elim c.requires.room [ inl l ↦ absurd (omega (arith, c.if-count-lt32.false)) | inr r ↦ r ]

pub returns-then-count-lt32-clause-value : goal.returns-then-count-lt32-clause-value
returns-then-count-lt32-clause-value g c =
    let ws = c.self.inside.columns in let os = c.self.inside.overflow.items in let bs = c.args.self.now in let b = c.args.bucket in
    let view = c.self.view_is in
    let k : c.count-count.result ≡ length (shelf_of bs b).slots = c.count-count.ensures.count ∙ ap length (slots-are ws os bs view b c.requires.bucket) in
    let t : nat_lt (length (shelf_of bs b).slots) 32 ≡ true = let l : length (shelf_of bs b).slots < 32 = omega (arith, c.if-count-lt32.true) in search rules in
    let seen = seen-window ws os bs view b c.requires.bucket (λ s. with_slot s c.args.entry c.args.tag) (pushed (window_of ws b) c.args.entry c.args.tag) refl in
    let room = own-room _ bs b (with_slot (shelf_of bs b) c.args.entry c.args.tag) c.requires.bucket seen in
    rw (t, c.push_at.ensures) room

pub returns-then-count-lt32-clause-room : goal.returns-then-count-lt32-clause-room
returns-then-count-lt32-clause-room g c =
    let ws = c.self.inside.columns in let os = c.self.inside.overflow.items in let bs = c.args.self.now in let b = c.args.bucket in
    let view = c.self.view_is in
    let seen = seen-window ws os bs view b c.requires.bucket (λ s. with_slot s c.args.entry c.args.tag) (pushed (window_of ws b) c.args.entry c.args.tag) refl in
    let r = ap (λ (s : Shelf g.row.E.Denot). s.room) (shelf-put bs (shelves (set ws b (pushed (window_of ws b) c.args.entry c.args.tag)) os) b (with_slot (shelf_of bs b) c.args.entry c.args.tag) c.requires.bucket seen) in
    rw c.push_at.ensures (omega (arith, r))

pub returns-else-count-lt32-clause-value : goal.returns-else-count-lt32-clause-value
returns-else-count-lt32-clause-value g c =
    let ws = c.self.inside.columns in let os = c.self.inside.overflow.items in let bs = c.args.self.now in let b = c.args.bucket in
    let view = c.self.view_is in
    let k : c.count-count.result ≡ length (shelf_of bs b).slots = c.count-count.ensures.count ∙ ap length (slots-are ws os bs view b c.requires.bucket) in
    let t : nat_lt (length (shelf_of bs b).slots) 32 ≡ false = let l : 32 ≤ length (shelf_of bs b).slots = omega (arith, c.if-count-lt32.false) in search rules in
    rw t c.push_in_room.ensures.value
