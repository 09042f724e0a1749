use Rattle.std.proofs.Common.{◌≡◌, length, arith, Some, sym, ap, ◌∙◌}
use Rattle.std.specs.List.{find, position}
use Rattle.scc_array.proofs.Finds.{find-missed, find-position, slot-below}
use Rattle.scc_array.proofs.Gets.{get-here}
use Rattle.scc_array.proofs.Shelves.{overflow-is, list-within, list-is, no-list, empty-list, list-read}
use Rattle.scc_array.specs.Shelves.{shelf_of}
use Rattle.scc_array.proofs.Array.find_in_overflow.Goals as goal

pub returns-then-len-eq0 : goal.returns-then-len-eq0
returns-then-len-eq0 g c =
    let ws = c.self.inside.columns in let os = c.self.inside.overflow.items in let bs = c.args.self.now in let b = c.args.bucket in
    let p = λ (e : g.row.E.Denot). g.E.Key.PartialEq.eq c.args.key.now (g.E.Keyed.key_of e) in
    let none = empty-list os (sym c.self.inside.overflow.ok.0 ∙ sym c.len.ensures ∙ c.if-len-eq0.true) in
    ap (find p) (sym (no-list os b none) ∙ overflow-is ws os bs c.self.view_is b c.requires)

pub index-requires : goal.index-requires
index-requires g c =
    let ws = c.self.inside.columns in let os = c.self.inside.overflow.items in let bs = c.args.self.now in let b = c.args.bucket in
    let there = list-within ws os bs c.self.view_is b c.requires c.self.invariant.0 (λ e. c.if-len-eq0.false (c.len.ensures ∙ c.self.inside.overflow.ok.0 ∙ ap length e)) in
    omega (arith, c.self.inside.overflow.ok.0)

pub returns-in-Some : goal.returns-in-Some
returns-in-Some g c =
    let ws = c.self.inside.columns in let os = c.self.inside.overflow.items in let bs = c.args.self.now in let b = c.args.bucket in
    let p = λ (e : g.row.E.Denot). g.E.Key.PartialEq.eq c.args.key.now (g.E.Keyed.key_of e) in
    let there = list-within ws os bs c.self.view_is b c.requires c.self.invariant.0 (λ e. c.if-len-eq0.false (c.len.ensures ∙ c.self.inside.overflow.ok.0 ∙ ap length e)) in
    let v = c.index.result.now in let items = list-is ws os bs c.self.view_is b c.requires v (list-read os b v there c.index.ensures) in
    let xs = c.as_slice-list.result.now in let i = c.in-Some.i in
    let same : xs ≡ (shelf_of bs b).overflow = c.as_slice-list.ensures.value ∙ items in
    let first : position p xs ≡ Some i = sym c.in-Some.ensures in
    ap Some c.index-list-i.is ∙ sym (get-here xs i c.index-list-i.result (slot-below p xs i first)) ∙ sym (find-position p xs i first) ∙ ap (find p) same

pub returns-in-None : goal.returns-in-None
returns-in-None g c =
    let ws = c.self.inside.columns in let os = c.self.inside.overflow.items in let bs = c.args.self.now in let b = c.args.bucket in
    let p = λ (e : g.row.E.Denot). g.E.Key.PartialEq.eq c.args.key.now (g.E.Keyed.key_of e) in
    let there = list-within ws os bs c.self.view_is b c.requires c.self.invariant.0 (λ e. c.if-len-eq0.false (c.len.ensures ∙ c.self.inside.overflow.ok.0 ∙ ap length e)) in
    let v = c.index.result.now in let items = list-is ws os bs c.self.view_is b c.requires v (list-read os b v there c.index.ensures) in
    let xs = c.as_slice-list.result.now in
    let same : xs ≡ (shelf_of bs b).overflow = c.as_slice-list.ensures.value ∙ items in
    sym (ap (find p) (sym same) ∙ find-missed p xs (sym c.in-None.ensures))
