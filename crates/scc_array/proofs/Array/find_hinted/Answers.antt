use Rattle.std.proofs.Common.{◌≡◌, [], Some, None, sym, ap, ◌∙◌, subst}
use Rattle.std.specs.List.{find}
use Rattle.std.specs.Option.{option_or}
use Rattle.std.proofs.lemmas.List.Folds.{find-append}
use Rattle.scc_array.proofs.Finds.{find-missed}
use Rattle.scc_array.proofs.Hinted.{behind, found-passing, moved}
use Rattle.scc_array.proofs.Shelves.{window-within, shelf-is, slots-are}
use Rattle.scc_array.specs.Shelf.{Shelf, HasTag}
use Rattle.scc_array.specs.Shelves.{shelf_of}
use Rattle.scc_array.proofs.Array.find_hinted.Goals as goal

pub find_hinted-requires-clause-bucket : goal.find_hinted-requires-clause-bucket
find_hinted-requires-clause-bucket g c = window-within c.self.inside.columns c.self.inside.overflow.items c.args.self.now c.self.view_is c.args.bucket c.requires.bucket

pub returns-in-Some : goal.returns-in-Some
returns-in-Some g c =
    let ws = c.self.inside.columns in let os = c.self.inside.overflow.items in let bs = c.args.self.now in let b = c.args.bucket in
    let p = λ (e : g.row.E.Denot). g.E.Key.PartialEq.eq c.args.key.now (g.E.Keyed.key_of e) in
    moved p (slots-are ws os bs c.self.view_is b c.requires.bucket) (shelf_of bs b).overflow c.in-Some.ensures

pub returns-then-not-may_overflow : goal.returns-then-not-may_overflow
returns-then-not-may_overflow g c = λ tagged.
    let ws = c.self.inside.columns in let os = c.self.inside.overflow.items in let bs = c.args.self.now in let b = c.args.bucket in
    let p = λ (e : g.row.E.Denot). g.E.Key.PartialEq.eq c.args.key.now (g.E.Keyed.key_of e) in
    let xs = (shelf_of bs b).slots in let ys = (shelf_of bs b).overflow in
    let here = subst (λ (s : Shelf g.row.E.Denot). HasTag p c.args.tag s) (shelf-is ws os bs c.self.view_is b c.requires.bucket) tagged in
    let missed : find p xs ≡ None = ap (find p) (sym (slots-are ws os bs c.self.view_is b c.requires.bucket)) ∙ find-missed p _ (c.in-None.ensures here) in
    let empty : ys ≡ [] = c.may_overflow.ensures c.if-not-may_overflow.true in
    find-append p xs ys ∙ ap (λ o. option_or o (find p ys)) missed ∙ ap (find p) empty

pub returns-in-Some-find_in_overflow : goal.returns-in-Some-find_in_overflow
returns-in-Some-find_in_overflow g c =
    let bs = c.args.self.now in let b = c.args.bucket in
    let p = λ (e : g.row.E.Denot). g.E.Key.PartialEq.eq c.args.key.now (g.E.Keyed.key_of e) in
    behind p (shelf_of bs b).slots (found-passing p (shelf_of bs b).overflow _ (sym c.in-Some-find_in_overflow.ensures))

pub returns-in-None-find_in_overflow : goal.returns-in-None-find_in_overflow
returns-in-None-find_in_overflow g c = λ tagged.
    let ws = c.self.inside.columns in let os = c.self.inside.overflow.items in let bs = c.args.self.now in let b = c.args.bucket in
    let p = λ (e : g.row.E.Denot). g.E.Key.PartialEq.eq c.args.key.now (g.E.Keyed.key_of e) in
    let xs = (shelf_of bs b).slots in let ys = (shelf_of bs b).overflow in
    let here = subst (λ (s : Shelf g.row.E.Denot). HasTag p c.args.tag s) (shelf-is ws os bs c.self.view_is b c.requires.bucket) tagged in
    let missed : find p xs ≡ None = ap (find p) (sym (slots-are ws os bs c.self.view_is b c.requires.bucket)) ∙ find-missed p _ (c.in-None.ensures here) in
    find-append p xs ys ∙ ap (λ o. option_or o (find p ys)) missed ∙ sym c.in-None-find_in_overflow.ensures
