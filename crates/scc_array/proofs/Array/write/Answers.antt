use Rattle.std.proofs.Common.{◌≡◌, [], length, Some, None, Bool, refl, sym, ap, ◌∙◌, subst}
use Rattle.std.specs.List.{position}
use Rattle.scc_array.proofs.Finds.{find-position, slot-below}
use Rattle.scc_array.proofs.Joined.{position-joined, or_later}
use Rattle.scc_array.proofs.Shelves.{window-within, shelf-is, slots-are}
use Rattle.scc_array.specs.Shelves.{shelf_of}
use Rattle.scc_array.specs.Shelf.{Shelf, shelf_entries, HasTag}
use Rattle.scc_array.proofs.Array.write.Goals as goal

pub search-requires-clause-bucket : goal.search-requires-clause-bucket
search-requires-clause-bucket g c = window-within c.self.inside.columns c.self.inside.overflow.items c.args.self.now c.self.view_is c.args.bucket c.requires.bucket

pub search-requires-clause-tagged : goal.search-requires-clause-tagged
search-requires-clause-tagged g c =
    let p : g.row.E.Denot → Bool = λ e. g.E.Key.PartialEq.eq c.args.key.now (g.E.Keyed.key_of e) in
    let tagged : HasTag p c.args.tag (shelf_of c.args.self.now c.args.bucket) = c.requires.tagged in
    subst (λ (s : Shelf g.row.E.Denot). HasTag p c.args.tag s) (shelf-is c.self.inside.columns c.self.inside.overflow.items c.args.self.now c.self.view_is c.args.bucket c.requires.bucket) tagged

pub write_in-requires-clause-slot : goal.write_in-requires-clause-slot
write_in-requires-clause-slot g c =
    let ws = c.self.inside.columns in let os = c.self.inside.overflow.items in let bs = c.args.self.now in let b = c.args.bucket in
    let p : g.row.E.Denot → Bool = λ e. g.E.Key.PartialEq.eq c.args.key.now (g.E.Keyed.key_of e) in
    let found : position p (shelf_of bs b).slots ≡ Some c.in-Some.slot = ap (position p) (sym (slots-are ws os bs c.self.view_is b c.requires.bucket)) ∙ sym c.in-Some.ensures in
    slot-below p (shelf_of bs b).slots c.in-Some.slot found

pub write_in-requires-clause-takes : goal.write_in-requires-clause-takes
write_in-requires-clause-takes g c =
    let ws = c.self.inside.columns in let os = c.self.inside.overflow.items in let bs = c.args.self.now in let b = c.args.bucket in
    let p : g.row.E.Denot → Bool = λ e. g.E.Key.PartialEq.eq c.args.key.now (g.E.Keyed.key_of e) in
    let xs = (shelf_of bs b).slots in let ys = (shelf_of bs b).overflow in
    let found : position p xs ≡ Some c.in-Some.slot = ap (position p) (sym (slots-are ws os bs c.self.view_is b c.requires.bucket)) ∙ sym c.in-Some.ensures in
    let first : position p (shelf_entries (shelf_of bs b)) ≡ Some c.in-Some.slot = position-joined p xs ys ∙ ap (λ o. or_later o (length xs) (position p ys)) found in
    λ e here allowed. c.requires.takes e (find-position p (shelf_entries (shelf_of bs b)) c.in-Some.slot first ∙ here) allowed

pub write_in-requires-clause-keeps : goal.write_in-requires-clause-keeps
write_in-requires-clause-keeps g c =
    let ws = c.self.inside.columns in let os = c.self.inside.overflow.items in let bs = c.args.self.now in let b = c.args.bucket in
    let p : g.row.E.Denot → Bool = λ e. g.E.Key.PartialEq.eq c.args.key.now (g.E.Keyed.key_of e) in
    let xs = (shelf_of bs b).slots in let ys = (shelf_of bs b).overflow in
    let found : position p xs ≡ Some c.in-Some.slot = ap (position p) (sym (slots-are ws os bs c.self.view_is b c.requires.bucket)) ∙ sym c.in-Some.ensures in
    let first : position p (shelf_entries (shelf_of bs b)) ≡ Some c.in-Some.slot = position-joined p xs ys ∙ ap (λ o. or_later o (length xs) (position p ys)) found in
    λ e r w here allowed written. c.requires.keeps e r w (find-position p (shelf_entries (shelf_of bs b)) c.in-Some.slot first ∙ here) allowed written

pub returns-then-not-may_overflow-clause-step : goal.returns-then-not-may_overflow-clause-step
returns-then-not-may_overflow-clause-step g c =
    let ws = c.self.inside.columns in let os = c.self.inside.overflow.items in let bs = c.args.self.now in let b = c.args.bucket in
    let p : g.row.E.Denot → Bool = λ e. g.E.Key.PartialEq.eq c.args.key.now (g.E.Keyed.key_of e) in
    let xs = (shelf_of bs b).slots in let ys = (shelf_of bs b).overflow in
    let missed : position p xs ≡ None = ap (position p) (sym (slots-are ws os bs c.self.view_is b c.requires.bucket)) ∙ sym c.in-None.ensures in
    let empty : ys ≡ [] = c.may_overflow.ensures c.if-not-may_overflow.true in
    (position-joined p xs ys ∙ ap (λ o. or_later o (length xs) (position p ys)) missed ∙ ap (λ l. or_later None (length xs) (position p l)) empty, refl)

pub write_list-requires-clause-missed : goal.write_list-requires-clause-missed
write_list-requires-clause-missed g c =
    let ws = c.self.inside.columns in let os = c.self.inside.overflow.items in let bs = c.args.self.now in let b = c.args.bucket in
    let p : g.row.E.Denot → Bool = λ e. g.E.Key.PartialEq.eq c.args.key.now (g.E.Keyed.key_of e) in
    ap (position p) (sym (slots-are ws os bs c.self.view_is b c.requires.bucket)) ∙ sym c.in-None.ensures

pub returns-in-Some-clause-step : goal.returns-in-Some-clause-step
returns-in-Some-clause-step g c =
    let ws = c.self.inside.columns in let os = c.self.inside.overflow.items in let bs = c.args.self.now in let b = c.args.bucket in
    let p : g.row.E.Denot → Bool = λ e. g.E.Key.PartialEq.eq c.args.key.now (g.E.Keyed.key_of e) in
    let xs = (shelf_of bs b).slots in let ys = (shelf_of bs b).overflow in
    let found : position p xs ≡ Some c.in-Some.slot = ap (position p) (sym (slots-are ws os bs c.self.view_is b c.requires.bucket)) ∙ sym c.in-Some.ensures in
    let first : position p (shelf_entries (shelf_of bs b)) ≡ Some c.in-Some.slot = position-joined p xs ys ∙ ap (λ o. or_later o (length xs) (position p ys)) found in
    let u = c.write_in.ensures in
    (c.in-Some.slot, u.0, u.1, first, u.2, u.3, u.4)

pub returns-in-Some-clause-allowed : goal.returns-in-Some-clause-allowed
returns-in-Some-clause-allowed g c =
    let ws = c.self.inside.columns in let os = c.self.inside.overflow.items in let bs = c.args.self.now in let b = c.args.bucket in
    let p : g.row.E.Denot → Bool = λ e. g.E.Key.PartialEq.eq c.args.key.now (g.E.Keyed.key_of e) in
    let xs = (shelf_of bs b).slots in let ys = (shelf_of bs b).overflow in
    let found : position p xs ≡ Some c.in-Some.slot = ap (position p) (sym (slots-are ws os bs c.self.view_is b c.requires.bucket)) ∙ sym c.in-Some.ensures in
    let first : position p (shelf_entries (shelf_of bs b)) ≡ Some c.in-Some.slot = position-joined p xs ys ∙ ap (λ o. or_later o (length xs) (position p ys)) found in
    let u = c.write_in.ensures in
    (u.0, find-position p (shelf_entries (shelf_of bs b)) c.in-Some.slot first ∙ u.2, u.5)
