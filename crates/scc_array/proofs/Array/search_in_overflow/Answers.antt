use Rattle.std.proofs.Common.{◌≡◌, ◌+◌, [], length, arith, Some, None, sym, ap, ◌∙◌, subst}
use Rattle.std.specs.List.{position}
use Rattle.scc_array.proofs.Hinted.{behind-at, position-passing}
use Rattle.scc_array.proofs.Shelves.{window-within, slots-are, overflow-is, list-within, list-is, no-list, empty-list, list-read}
use Rattle.scc_array.specs.Hints.{IsPassingAt}
use Rattle.scc_array.specs.Shelf.{shelf_entries}
use Rattle.scc_array.specs.Shelves.{shelf_of}
use Rattle.scc_array.proofs.Array.search_in_overflow.Goals as goal

pub returns-then-len-eq0 : goal.returns-then-len-eq0
returns-then-len-eq0 g c =
    let ws = c.self.inside.columns in let os = c.self.inside.overflow.items in let bs = c.args.self.now in let b = c.args.bucket in
    let p = λ (e : g.row.E.Denot). g.E.Key.PartialEq.eq c.args.key.now (g.E.Keyed.key_of e) in
    let none = empty-list os (sym c.self.inside.overflow.ok.0 ∙ sym c.len.ensures ∙ c.if-len-eq0.true) in
    ap (position p) (sym (overflow-is ws os bs c.self.view_is b c.requires) ∙ no-list os b none)

pub count-count-requires : goal.count-count-requires
count-count-requires g c = window-within c.self.inside.columns c.self.inside.overflow.items c.args.self.now c.self.view_is c.args.bucket c.requires

pub index-requires : goal.index-requires
index-requires g c =
    let ws = c.self.inside.columns in let os = c.self.inside.overflow.items in let bs = c.args.self.now in let b = c.args.bucket in
    let there = list-within ws os bs c.self.view_is b c.requires c.self.invariant.0 (λ e. c.if-len-eq0.false (c.len.ensures ∙ c.self.inside.overflow.ok.0 ∙ ap length e)) in
    omega (arith, c.self.inside.overflow.ok.0)

pub returns-in-Some : goal.returns-in-Some
returns-in-Some g c =
    let ws = c.self.inside.columns in let os = c.self.inside.overflow.items in let bs = c.args.self.now in let b = c.args.bucket in
    let p = λ (e : g.row.E.Denot). g.E.Key.PartialEq.eq c.args.key.now (g.E.Keyed.key_of e) in
    let xs = (shelf_of bs b).slots in let ys = (shelf_of bs b).overflow in
    let there = list-within ws os bs c.self.view_is b c.requires c.self.invariant.0 (λ e. c.if-len-eq0.false (c.len.ensures ∙ c.self.inside.overflow.ok.0 ∙ ap length e)) in
    let v = c.index.result.now in let items = list-is ws os bs c.self.view_is b c.requires v (list-read os b v there c.index.ensures) in
    let first : position p ys ≡ Some c.in-Some.i = ap (position p) (sym (c.as_slice.ensures.value ∙ items)) ∙ sym c.in-Some.ensures in
    let k : length xs ≡ c.count-count.result = sym (c.count-count.ensures.count ∙ ap length (slots-are ws os bs c.self.view_is b c.requires)) in
    subst (λ n. IsPassingAt p (shelf_entries (shelf_of bs b)) (n + c.in-Some.i)) k (behind-at p xs (position-passing p ys c.in-Some.i first))

pub returns-in-None : goal.returns-in-None
returns-in-None g c =
    let ws = c.self.inside.columns in let os = c.self.inside.overflow.items in let bs = c.args.self.now in let b = c.args.bucket in
    let p = λ (e : g.row.E.Denot). g.E.Key.PartialEq.eq c.args.key.now (g.E.Keyed.key_of e) in
    let there = list-within ws os bs c.self.view_is b c.requires c.self.invariant.0 (λ e. c.if-len-eq0.false (c.len.ensures ∙ c.self.inside.overflow.ok.0 ∙ ap length e)) in
    let v = c.index.result.now in let items = list-is ws os bs c.self.view_is b c.requires v (list-read os b v there c.index.ensures) in
    ap (position p) (sym (c.as_slice.ensures.value ∙ items)) ∙ sym c.in-None.ensures
