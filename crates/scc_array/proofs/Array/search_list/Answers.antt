use Rattle.std.proofs.Common.{◌≡◌, ◌+◌, arith, [], length, Some, None, Bool, sym, ap, ◌∙◌}
use Rattle.std.specs.List.{position}
use Rattle.scc_array.proofs.Joined.{position-joined, or_later}
use Rattle.scc_array.proofs.Shelves.{window-within, slots-are, overflow-is, list-within, list-is, no-list, empty-list, list-read}
use Rattle.scc_array.specs.Shelves.{shelf_of}
use Rattle.scc_array.specs.Shelf.{shelf_entries}
use Rattle.scc_array.proofs.Array.search_list.Goals as goal

pub returns-then-len-eq0 : goal.returns-then-len-eq0
returns-then-len-eq0 g c =
    let ws = c.self.inside.columns in let os = c.self.inside.overflow.items in let bs = c.args.self.now in let b = c.args.bucket in
    let view = c.self.view_is in let within = window-within ws os bs view b c.requires.bucket in
    let p : g.row.E.Denot → Bool = λ e. g.E.Key.PartialEq.eq c.args.key.now (g.E.Keyed.key_of e) in
    let xs = (shelf_of bs b).slots in let ys = (shelf_of bs b).overflow in
    let none = empty-list os (sym c.self.inside.overflow.ok.0 ∙ sym c.len.ensures ∙ c.if-len-eq0.true) in
    let empty : ys ≡ [] = sym (overflow-is ws os bs view b c.requires.bucket) ∙ no-list os b none in
    sym (position-joined p xs ys ∙ ap (λ o. or_later o (length xs) (position p ys)) c.requires.missed ∙ ap (λ l. or_later None (length xs) (position p l)) empty)

pub count-count-requires : goal.count-count-requires
count-count-requires g c =
    let ws = c.self.inside.columns in let os = c.self.inside.overflow.items in let bs = c.args.self.now in let b = c.args.bucket in
    let view = c.self.view_is in let within = window-within ws os bs view b c.requires.bucket in
    let p : g.row.E.Denot → Bool = λ e. g.E.Key.PartialEq.eq c.args.key.now (g.E.Keyed.key_of e) in
    let xs = (shelf_of bs b).slots in let ys = (shelf_of bs b).overflow in
    within

pub index-requires : goal.index-requires
index-requires g c =
    let ws = c.self.inside.columns in let os = c.self.inside.overflow.items in let bs = c.args.self.now in let b = c.args.bucket in
    let view = c.self.view_is in let within = window-within ws os bs view b c.requires.bucket in
    let p : g.row.E.Denot → Bool = λ e. g.E.Key.PartialEq.eq c.args.key.now (g.E.Keyed.key_of e) in
    let xs = (shelf_of bs b).slots in let ys = (shelf_of bs b).overflow in
    let there = list-within ws os bs view b c.requires.bucket c.self.invariant.0 (λ e. c.if-len-eq0.false (c.len.ensures ∙ c.self.inside.overflow.ok.0 ∙ ap length e)) in
    omega (arith, c.self.inside.overflow.ok.0)

pub returns-in-Some : goal.returns-in-Some
returns-in-Some g c =
    let ws = c.self.inside.columns in let os = c.self.inside.overflow.items in let bs = c.args.self.now in let b = c.args.bucket in
    let view = c.self.view_is in let within = window-within ws os bs view b c.requires.bucket in
    let p : g.row.E.Denot → Bool = λ e. g.E.Key.PartialEq.eq c.args.key.now (g.E.Keyed.key_of e) in
    let xs = (shelf_of bs b).slots in let ys = (shelf_of bs b).overflow in
    let there = list-within ws os bs view b c.requires.bucket c.self.invariant.0 (λ e. c.if-len-eq0.false (c.len.ensures ∙ c.self.inside.overflow.ok.0 ∙ ap length e)) in
    let v = c.index.result.now in let items = list-is ws os bs view b c.requires.bucket v (list-read os b v there c.index.ensures) in
    let in_list : c.find_in.result ≡ position p ys = c.find_in.ensures ∙ ap (position p) (c.as_slice.ensures.value ∙ items) in
    let whole : position p (shelf_entries (shelf_of bs b)) ≡ or_later None (length xs) c.find_in.result =
    position-joined p xs ys ∙ ap (λ o. or_later o (length xs) (position p ys)) c.requires.missed ∙ ap (λ o. or_later None (length xs) o) (sym in_list) in
    let k : c.count-count.result ≡ length xs = c.count-count.ensures.count ∙ ap length (slots-are ws os bs view b c.requires.bucket) in
    ap (λ n. Some (n + c.in-Some.i)) k ∙ sym (whole ∙ ap (λ o. or_later None (length xs) o) c.in-Some.is)

pub returns-in-None : goal.returns-in-None
returns-in-None g c =
    let ws = c.self.inside.columns in let os = c.self.inside.overflow.items in let bs = c.args.self.now in let b = c.args.bucket in
    let view = c.self.view_is in let within = window-within ws os bs view b c.requires.bucket in
    let p : g.row.E.Denot → Bool = λ e. g.E.Key.PartialEq.eq c.args.key.now (g.E.Keyed.key_of e) in
    let xs = (shelf_of bs b).slots in let ys = (shelf_of bs b).overflow in
    let there = list-within ws os bs view b c.requires.bucket c.self.invariant.0 (λ e. c.if-len-eq0.false (c.len.ensures ∙ c.self.inside.overflow.ok.0 ∙ ap length e)) in
    let v = c.index.result.now in let items = list-is ws os bs view b c.requires.bucket v (list-read os b v there c.index.ensures) in
    let in_list : c.find_in.result ≡ position p ys = c.find_in.ensures ∙ ap (position p) (c.as_slice.ensures.value ∙ items) in
    let whole : position p (shelf_entries (shelf_of bs b)) ≡ or_later None (length xs) c.find_in.result =
    position-joined p xs ys ∙ ap (λ o. or_later o (length xs) (position p ys)) c.requires.missed ∙ ap (λ o. or_later None (length xs) o) (sym in_list) in
    sym (whole ∙ ap (λ o. or_later None (length xs) o) c.in-None.is)
