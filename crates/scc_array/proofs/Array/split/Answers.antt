use Rattle.std.proofs.Common.{arith, length, set, refl, sym, ap, ◌∙◌}
use Rattle.scc_array.proofs.Shelves.{shelf-is, seen-window, window-within, slots-are}
use Rattle.scc_array.proofs.Array.split.Goals as goal
use Rattle.scc_array.specs.Sifts.{raised}
use Rattle.scc_array.specs.Shelves.{shelf_at, shelf_of}
use Rattle.scc_array.specs.Sifts.{unflagged_of, picked_of, shelf_unflagged, shelf_with, window_with}
use Rattle.scc_array.specs.Windows.{window_of}
use Rattle.scc_array.specs.Shelf.{Shelf}

pub split-requires-clause-bucket : goal.split-requires-clause-bucket
split-requires-clause-bucket g c = window-within c.self.inside.columns c.self.inside.overflow.items c.args.self.now c.self.view_is c.args.bucket c.requires.bucket

pub split-requires-clause-target : goal.split-requires-clause-target
split-requires-clause-target g c = window-within c.into.inside.columns c.into.inside.overflow.items c.args.into.now c.into.view_is c.args.target c.requires.target

pub split-requires-clause-room : goal.split-requires-clause-room
split-requires-clause-room g c =
    let ws = c.self.inside.columns in let os = c.self.inside.overflow.items in let bs = c.args.self.now in let b = c.args.bucket in
    let vs = c.into.inside.columns in let ls = c.into.inside.overflow.items in let cs = c.args.into.now in let t = c.args.target in
    let n = ap length (slots-are ws os bs c.self.view_is b c.requires.bucket) in
    let m = ap length (slots-are vs ls cs c.into.view_is t c.requires.target) in
    omega (arith, c.requires.room)

pub returns-clause-stays : goal.returns-clause-stays
returns-clause-stays g c =
    let ws = c.self.inside.columns in let os = c.self.inside.overflow.items in let bs = c.args.self.now in let b = c.args.bucket in
    let vs = c.into.inside.columns in let ls = c.into.inside.overflow.items in let cs = c.args.into.now in let t = c.args.target in
    let fs = raised c.args.flags.now in
    rw c.split.ensures.stays (seen-window ws os bs c.self.view_is b c.requires.bucket (shelf_unflagged fs) (unflagged_of fs (window_of ws b)) refl)

pub returns-clause-moved : goal.returns-clause-moved
returns-clause-moved g c =
    let ws = c.self.inside.columns in let os = c.self.inside.overflow.items in let bs = c.args.self.now in let b = c.args.bucket in
    let vs = c.into.inside.columns in let ls = c.into.inside.overflow.items in let cs = c.args.into.now in let t = c.args.target in
    let fs = raised c.args.flags.now in
    rw c.split.ensures.moved (
    seen-window vs ls cs c.into.view_is t c.requires.target (λ s. shelf_with s fs (shelf_at ws os b)) (window_with (window_of vs t) (picked_of fs (window_of ws b))) refl
    ∙ ap (λ (s : Shelf g.row.E.Denot). set cs t (shelf_with (shelf_of cs t) fs s)) (sym (shelf-is ws os bs c.self.view_is b c.requires.bucket))
    )
