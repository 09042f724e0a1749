use Rattle.std.proofs.Common.{◌<◌, length, set, sym, ap, subst, ◌∙◌}
use Rattle.scc_array.proofs.ArrayWriting.{slot-got, slot-written}
use Rattle.scc_array.proofs.Shelves.{slots-are, window-within}
use Rattle.scc_array.specs.Shelves.{shelves}
use Rattle.scc_array.specs.Windows.{window_of, written_over}
use Rattle.scc_array.proofs.Array.write_in.Goals as goal

pub entry_mut-entry-requires-clause-bucket : goal.entry_mut-entry-requires-clause-bucket
entry_mut-entry-requires-clause-bucket g c = window-within c.self.inside.columns c.self.inside.overflow.items c.args.self.now c.self.view_is c.args.bucket c.requires.bucket

pub entry_mut-entry-requires-clause-slot : goal.entry_mut-entry-requires-clause-slot
entry_mut-entry-requires-clause-slot g c = subst (λ n. c.args.slot < n) (ap length (sym (slots-are c.self.inside.columns c.self.inside.overflow.items c.args.self.now c.self.view_is c.args.bucket c.requires.bucket))) c.requires.slot

pub write-requires-clause-takes : goal.write-requires-clause-takes
write-requires-clause-takes g c =
    let ws = c.self.inside.columns in let os = c.self.inside.overflow.items in let bs = c.args.self.now in let b = c.args.bucket in
    let view = c.self.view_is in let kept = c.self.invariant.0 in let i = c.args.slot in
    let e = c.entry_mut-entry.result.now in
    let l : i < length (window_of ws b).slots = subst (λ n. i < n) (ap length (sym (slots-are ws os bs view b c.requires.bucket))) c.requires.slot in
    let got = slot-got g.E.Valued.with_value ws os bs view kept b c.requires.bucket i e l c.entry_mut-entry.ensures.entry in
    λ allowed. c.requires.takes e got allowed

pub write-requires-clause-keeps : goal.write-requires-clause-keeps
write-requires-clause-keeps g c =
    let ws = c.self.inside.columns in let os = c.self.inside.overflow.items in let bs = c.args.self.now in let b = c.args.bucket in
    let view = c.self.view_is in let kept = c.self.invariant.0 in let i = c.args.slot in
    let e = c.entry_mut-entry.result.now in
    let l : i < length (window_of ws b).slots = subst (λ n. i < n) (ap length (sym (slots-are ws os bs view b c.requires.bucket))) c.requires.slot in
    let got = slot-got g.E.Valued.with_value ws os bs view kept b c.requires.bucket i e l c.entry_mut-entry.ensures.entry in
    λ r w allowed written. c.requires.keeps e r w got allowed written

pub returns : goal.returns
returns g c =
    let ws = c.self.inside.columns in let os = c.self.inside.overflow.items in let bs = c.args.self.now in let b = c.args.bucket in
    let view = c.self.view_is in let kept = c.self.invariant.0 in let put = g.E.Valued.with_value in let i = c.args.slot in
    let e = c.entry_mut-entry.result.now in
    let l : i < length (window_of ws b).slots = subst (λ n. i < n) (ap length (sym (slots-are ws os bs view b c.requires.bucket))) c.requires.slot in
    let got = slot-got put ws os bs view kept b c.requires.bucket i e l c.entry_mut-entry.ensures.entry in
    let w = c.write.ensures.written in
    (e, w.0, got, w.1, ap (λ x. shelves (set ws b (written_over (window_of ws b) i x)) os) w.2 ∙ slot-written put ws os bs view kept b c.requires.bucket i e l c.entry_mut-entry.ensures.entry w.0, c.write.ensures.allowed)
