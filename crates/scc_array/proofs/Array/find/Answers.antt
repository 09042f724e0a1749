use Rattle.std.proofs.Common.{◌≡◌, [], Some, None, sym, ap, ◌∙◌, subst}
use Rattle.std.specs.List.{find}
use Rattle.std.specs.Option.{option_or}
use Rattle.std.proofs.lemmas.List.Folds.{find-append}
use Rattle.scc_array.proofs.Shelves.{window-within, shelf-is, slots-are}
use Rattle.scc_array.specs.Shelves.{shelf_of}
use Rattle.scc_array.specs.Shelf.{Shelf, HasTag}
use Rattle.scc_array.proofs.Array.find.Goals as goal

pub find_entry-requires-clause-bucket : goal.find_entry-requires-clause-bucket
find_entry-requires-clause-bucket g c = window-within c.self.inside.columns c.self.inside.overflow.items c.args.self.now c.self.view_is c.args.bucket c.requires.bucket

pub find_entry-requires-clause-tagged : goal.find_entry-requires-clause-tagged
find_entry-requires-clause-tagged g c =
    let p = λ (e : g.row.E.Denot). g.E.Key.PartialEq.eq c.args.key.now (g.E.Keyed.key_of e) in
    let tagged : HasTag p c.args.tag (shelf_of c.args.self.now c.args.bucket) = c.requires.tagged in
    subst (λ (s : Shelf g.row.E.Denot). HasTag p c.args.tag s) (shelf-is c.self.inside.columns c.self.inside.overflow.items c.args.self.now c.self.view_is c.args.bucket c.requires.bucket) tagged

pub returns-in-Some : goal.returns-in-Some
returns-in-Some g c =
    let ws = c.self.inside.columns in let os = c.self.inside.overflow.items in let bs = c.args.self.now in let b = c.args.bucket in
    let p = λ (e : g.row.E.Denot). g.E.Key.PartialEq.eq c.args.key.now (g.E.Keyed.key_of e) in
    let xs = (shelf_of bs b).slots in let ys = (shelf_of bs b).overflow in
    let found : find p xs ≡ Some c.in-Some.entry.now = ap (find p) (sym (slots-are ws os bs c.self.view_is b c.requires.bucket)) ∙ sym c.in-Some.ensures in
    sym (find-append p xs ys ∙ ap (λ o. option_or o (find p ys)) found)

pub returns-then-not-may_overflow : goal.returns-then-not-may_overflow
returns-then-not-may_overflow g c =
    let ws = c.self.inside.columns in let os = c.self.inside.overflow.items in let bs = c.args.self.now in let b = c.args.bucket in
    let p = λ (e : g.row.E.Denot). g.E.Key.PartialEq.eq c.args.key.now (g.E.Keyed.key_of e) in
    let xs = (shelf_of bs b).slots in let ys = (shelf_of bs b).overflow in
    let missed : find p xs ≡ None = ap (find p) (sym (slots-are ws os bs c.self.view_is b c.requires.bucket)) ∙ sym c.in-None.ensures in
    let empty : ys ≡ [] = c.may_overflow.ensures c.if-not-may_overflow.true in
    sym (find-append p xs ys ∙ ap (λ o. option_or o (find p ys)) missed ∙ ap (find p) empty)

pub returns-else-not-may_overflow : goal.returns-else-not-may_overflow
returns-else-not-may_overflow g c =
    let ws = c.self.inside.columns in let os = c.self.inside.overflow.items in let bs = c.args.self.now in let b = c.args.bucket in
    let p = λ (e : g.row.E.Denot). g.E.Key.PartialEq.eq c.args.key.now (g.E.Keyed.key_of e) in
    let xs = (shelf_of bs b).slots in let ys = (shelf_of bs b).overflow in
    let missed : find p xs ≡ None = ap (find p) (sym (slots-are ws os bs c.self.view_is b c.requires.bucket)) ∙ sym c.in-None.ensures in
    c.find_in_overflow.ensures ∙ sym (find-append p xs ys ∙ ap (λ o. option_or o (find p ys)) missed)
