use Rattle.std.proofs.Common.{◌≡◌, [], length, Some, None, sym, ap, ◌∙◌, subst}
use Rattle.std.specs.List.{position}
use Rattle.scc_array.proofs.Hinted.{moved-at}
use Rattle.scc_array.proofs.Joined.{position-joined, or_later}
use Rattle.scc_array.proofs.Shelves.{window-within, shelf-is, slots-are}
use Rattle.scc_array.specs.Shelf.{Shelf, HasTag}
use Rattle.scc_array.specs.Shelves.{shelf_of}
use Rattle.scc_array.proofs.Array.search_hinted.Goals as goal

pub search_hinted-requires-clause-bucket : goal.search_hinted-requires-clause-bucket
search_hinted-requires-clause-bucket g c = window-within c.self.inside.columns c.self.inside.overflow.items c.args.self.now c.self.view_is c.args.bucket c.requires.bucket

pub returns-in-Some : goal.returns-in-Some
returns-in-Some g c =
    let ws = c.self.inside.columns in let os = c.self.inside.overflow.items in let bs = c.args.self.now in let b = c.args.bucket in
    let p = λ (e : g.row.E.Denot). g.E.Key.PartialEq.eq c.args.key.now (g.E.Keyed.key_of e) in
    moved-at p (slots-are ws os bs c.self.view_is b c.requires.bucket) (shelf_of bs b).overflow c.in-Some.ensures

pub returns-then-not-may_overflow : goal.returns-then-not-may_overflow
returns-then-not-may_overflow g c = λ tagged.
    let ws = c.self.inside.columns in let os = c.self.inside.overflow.items in let bs = c.args.self.now in let b = c.args.bucket in
    let p = λ (e : g.row.E.Denot). g.E.Key.PartialEq.eq c.args.key.now (g.E.Keyed.key_of e) in
    let xs = (shelf_of bs b).slots in let ys = (shelf_of bs b).overflow in
    let here = subst (λ (s : Shelf g.row.E.Denot). HasTag p c.args.tag s) (shelf-is ws os bs c.self.view_is b c.requires.bucket) tagged in
    let missed : position p xs ≡ None = ap (position p) (sym (slots-are ws os bs c.self.view_is b c.requires.bucket)) ∙ c.in-None.ensures here in
    let empty : ys ≡ [] = c.may_overflow.ensures c.if-not-may_overflow.true in
    position-joined p xs ys ∙ ap (λ o. or_later o (length xs) (position p ys)) missed ∙ ap (λ l. or_later None (length xs) (position p l)) empty

pub returns-in-None-search_in_overflow : goal.returns-in-None-search_in_overflow
returns-in-None-search_in_overflow g c = λ tagged.
    let ws = c.self.inside.columns in let os = c.self.inside.overflow.items in let bs = c.args.self.now in let b = c.args.bucket in
    let p = λ (e : g.row.E.Denot). g.E.Key.PartialEq.eq c.args.key.now (g.E.Keyed.key_of e) in
    let xs = (shelf_of bs b).slots in let ys = (shelf_of bs b).overflow in
    let here = subst (λ (s : Shelf g.row.E.Denot). HasTag p c.args.tag s) (shelf-is ws os bs c.self.view_is b c.requires.bucket) tagged in
    let missed : position p xs ≡ None = ap (position p) (sym (slots-are ws os bs c.self.view_is b c.requires.bucket)) ∙ c.in-None.ensures here in
    position-joined p xs ys ∙ ap (λ o. or_later o (length xs) (position p ys)) missed ∙ ap (λ o. or_later None (length xs) o) c.in-None-search_in_overflow.ensures
