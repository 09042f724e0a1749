use Rattle.std.proofs.Common.{◌≡◌, ◌≤◌, ◌<◌, ◌+◌, arith, length, set, true, false, nat_lt, refl, sym, ap, ◌∙◌, rules, length-append}
use Rattle.scc_array.proofs.ListPushing.{and-third}
use Rattle.scc_array.proofs.Shelves.{window-within, slots-are, seen-window, own-room}
use Rattle.scc_array.specs.Shelves.{shelf_of}
use Rattle.scc_array.specs.Windows.{window_of, pushed}
use Rattle.scc_array.specs.Shelf.{shelf_entries, with_slot}
use Rattle.scc_array.proofs.Array.insert.Goals as goal

pub count-count-requires : goal.count-count-requires
count-count-requires g c =
    let ws = c.self.inside.columns in let os = c.self.inside.overflow.items in let bs = c.args.self.now in let b = c.args.bucket in
    let view = c.self.view_is in
    window-within ws os bs view b c.requires.bucket

pub push_at-requires-clause-bucket : goal.push_at-requires-clause-bucket
push_at-requires-clause-bucket g c =
    let ws = c.self.inside.columns in let os = c.self.inside.overflow.items in let bs = c.args.self.now in let b = c.args.bucket in
    let view = c.self.view_is in
    window-within ws os bs view b c.requires.bucket

pub returns-then-count-lt32-clause-ok : goal.returns-then-count-lt32-clause-ok
returns-then-count-lt32-clause-ok g c =
    let ws = c.self.inside.columns in let os = c.self.inside.overflow.items in let bs = c.args.self.now in let b = c.args.bucket in
    let view = c.self.view_is in
    let within = window-within ws os bs view b c.requires.bucket in
    let k : c.count-count.result ≡ length (shelf_of bs b).slots = c.count-count.ensures.count ∙ ap length (slots-are ws os bs view b c.requires.bucket) in
    let t : nat_lt (length (shelf_of bs b).slots) 32 ≡ true = let l : length (shelf_of bs b).slots < 32 = omega (arith, c.if-count-lt32.true) in search rules in
    let seen = seen-window ws os bs view b c.requires.bucket (λ s. with_slot s c.args.entry c.args.tag) (pushed (window_of ws b) c.args.entry c.args.tag) refl in
    let room = own-room _ bs b (with_slot (shelf_of bs b) c.args.entry c.args.tag) c.requires.bucket seen in
    (rw t k, rw (t, c.push_at.ensures) room)

pub returns-clause-ok : goal.returns-clause-ok
returns-clause-ok g c =
    let ws = c.self.inside.columns in let os = c.self.inside.overflow.items in let bs = c.args.self.now in let b = c.args.bucket in
    let view = c.self.view_is in
    let within = window-within ws os bs view b c.requires.bucket in
    let k : c.count-count.result ≡ length (shelf_of bs b).slots = c.count-count.ensures.count ∙ ap length (slots-are ws os bs view b c.requires.bucket) in
    let t : nat_lt (length (shelf_of bs b).slots) 32 ≡ false = let l : 32 ≤ length (shelf_of bs b).slots = omega (arith, c.if-count-lt32.false) in search rules in
    let full : 32 ≡ length (shelf_of bs b).slots = omega (arith, c.count-count.ensures.most, c.if-count-lt32.false) in
    let all : length (shelf_entries (shelf_of bs b)) ≡ 32 + length (shelf_of bs b).overflow = length-append (shelf_of bs b).slots (shelf_of bs b).overflow ∙ ap (λ n. n + length (shelf_of bs b).overflow) (sym full) in
    rw (t, all) c.push_list.ensures.ok

pub returns-clause-err : goal.returns-clause-err
returns-clause-err g c =
    let ws = c.self.inside.columns in let os = c.self.inside.overflow.items in let bs = c.args.self.now in let b = c.args.bucket in
    let view = c.self.view_is in
    let k : c.count-count.result ≡ length (shelf_of bs b).slots = c.count-count.ensures.count ∙ ap length (slots-are ws os bs view b c.requires.bucket) in
    and-third c.push_list.result (λ e. e ≡ c.args.entry) (λ _. c.push_list.new.self ≡ set bs b (record (shelf_of bs b) { room = (shelf_of c.push_list.new.self b).room })) (32 ≤ length (shelf_of bs b).slots) (omega (arith, c.if-count-lt32.false)) c.push_list.ensures.err
