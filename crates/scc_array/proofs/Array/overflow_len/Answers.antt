use Rattle.std.proofs.Common.{arith, length, sym, ap, ◌∙◌}
use Rattle.scc_array.proofs.Shelves.{window-within, overflow-is, list-within, no-list, empty-list, list-read}
use Rattle.scc_array.specs.Shelves.{spilled}
use Rattle.scc_array.proofs.Array.overflow_len.Goals as goal

pub returns-then-len-eq0 : goal.returns-then-len-eq0
returns-then-len-eq0 g c =
    let ws = c.self.inside.columns in let os = c.self.inside.overflow.items in let bs = c.args.self.now in let b = c.args.bucket in
    let view = c.self.view_is in let within = window-within ws os bs view b c.requires in
    let none = empty-list os (sym c.self.inside.overflow.ok.0 ∙ sym c.len.ensures ∙ c.if-len-eq0.true) in
    ap length (sym (no-list os b none) ∙ overflow-is ws os bs view b c.requires)

pub index-requires : goal.index-requires
index-requires g c =
    let ws = c.self.inside.columns in let os = c.self.inside.overflow.items in let bs = c.args.self.now in let b = c.args.bucket in
    let view = c.self.view_is in let within = window-within ws os bs view b c.requires in
    let l = list-within ws os bs view b c.requires c.self.invariant.0 (λ e. c.if-len-eq0.false (c.len.ensures ∙ c.self.inside.overflow.ok.0 ∙ ap length e)) in
    omega (arith, c.self.inside.overflow.ok.0)

pub returns : goal.returns
returns g c =
    let ws = c.self.inside.columns in let os = c.self.inside.overflow.items in let bs = c.args.self.now in let b = c.args.bucket in
    let view = c.self.view_is in let within = window-within ws os bs view b c.requires in
    let l = list-within ws os bs view b c.requires c.self.invariant.0 (λ e. c.if-len-eq0.false (c.len.ensures ∙ c.self.inside.overflow.ok.0 ∙ ap length e)) in
    let v = c.index.result.now in let there = list-read os b v l c.index.ensures in
    c.len-2.ensures ∙ v.ok.0 ∙ ap (λ o. length (spilled o)) (sym there) ∙ ap length (overflow-is ws os bs view b c.requires)
