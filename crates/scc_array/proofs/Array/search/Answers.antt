use Rattle.std.proofs.Common.{◌≡◌, [], length, Some, None, Bool, sym, ap, ◌∙◌, subst}
use Rattle.std.specs.List.{position}
use Rattle.scc_array.proofs.Joined.{position-joined, or_later}
use Rattle.scc_array.proofs.Shelves.{window-within, shelf-is, slots-are}
use Rattle.scc_array.specs.Shelves.{shelf_of}
use Rattle.scc_array.specs.Shelf.{Shelf, HasTag}
use Rattle.scc_array.proofs.Array.search.Goals as goal

pub search-requires-clause-bucket : goal.search-requires-clause-bucket
search-requires-clause-bucket g c =
    let ws = c.self.inside.columns in let os = c.self.inside.overflow.items in let bs = c.args.self.now in let b = c.args.bucket in
    let view = c.self.view_is in let within = window-within ws os bs view b c.requires.bucket in
    let p : g.row.E.Denot → Bool = λ e. g.E.Key.PartialEq.eq c.args.key.now (g.E.Keyed.key_of e) in
    let xs = (shelf_of bs b).slots in let ys = (shelf_of bs b).overflow in
    within

pub search-requires-clause-tagged : goal.search-requires-clause-tagged
search-requires-clause-tagged g c =
    let ws = c.self.inside.columns in let os = c.self.inside.overflow.items in let bs = c.args.self.now in let b = c.args.bucket in
    let view = c.self.view_is in let within = window-within ws os bs view b c.requires.bucket in
    let p : g.row.E.Denot → Bool = λ e. g.E.Key.PartialEq.eq c.args.key.now (g.E.Keyed.key_of e) in
    let xs = (shelf_of bs b).slots in let ys = (shelf_of bs b).overflow in
    let tagged : HasTag p c.args.tag (shelf_of bs b) = c.requires.tagged in
    subst (λ (s : Shelf g.row.E.Denot). HasTag p c.args.tag s) (shelf-is ws os bs view b c.requires.bucket) tagged

pub returns-in-Some : goal.returns-in-Some
returns-in-Some g c =
    let ws = c.self.inside.columns in let os = c.self.inside.overflow.items in let bs = c.args.self.now in let b = c.args.bucket in
    let view = c.self.view_is in let within = window-within ws os bs view b c.requires.bucket in
    let p : g.row.E.Denot → Bool = λ e. g.E.Key.PartialEq.eq c.args.key.now (g.E.Keyed.key_of e) in
    let xs = (shelf_of bs b).slots in let ys = (shelf_of bs b).overflow in
    let found : position p xs ≡ Some c.in-Some.slot = ap (position p) (sym (slots-are ws os bs view b c.requires.bucket)) ∙ sym c.search.ensures ∙ c.in-Some.is in
    sym (position-joined p xs ys ∙ ap (λ o. or_later o (length xs) (position p ys)) found)

pub returns-then-not-may_overflow : goal.returns-then-not-may_overflow
returns-then-not-may_overflow g c =
    let ws = c.self.inside.columns in let os = c.self.inside.overflow.items in let bs = c.args.self.now in let b = c.args.bucket in
    let view = c.self.view_is in let within = window-within ws os bs view b c.requires.bucket in
    let p : g.row.E.Denot → Bool = λ e. g.E.Key.PartialEq.eq c.args.key.now (g.E.Keyed.key_of e) in
    let xs = (shelf_of bs b).slots in let ys = (shelf_of bs b).overflow in
    let missed : position p xs ≡ None = ap (position p) (sym (slots-are ws os bs view b c.requires.bucket)) ∙ sym c.search.ensures ∙ c.in-None.is in
    let empty : ys ≡ [] = c.may_overflow.ensures c.if-not-may_overflow.true in
    sym (position-joined p xs ys ∙ ap (λ o. or_later o (length xs) (position p ys)) missed ∙ ap (λ l. or_later None (length xs) (position p l)) empty)

pub search_list-requires-clause-missed : goal.search_list-requires-clause-missed
search_list-requires-clause-missed g c =
    let ws = c.self.inside.columns in let os = c.self.inside.overflow.items in let bs = c.args.self.now in let b = c.args.bucket in
    let view = c.self.view_is in let within = window-within ws os bs view b c.requires.bucket in
    let p : g.row.E.Denot → Bool = λ e. g.E.Key.PartialEq.eq c.args.key.now (g.E.Keyed.key_of e) in
    let xs = (shelf_of bs b).slots in let ys = (shelf_of bs b).overflow in
    ap (position p) (sym (slots-are ws os bs view b c.requires.bucket)) ∙ sym c.search.ensures ∙ c.in-None.is
