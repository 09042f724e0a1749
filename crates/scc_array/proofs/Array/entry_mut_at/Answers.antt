use Rattle.std.proofs.Common.{◌≤◌, ◌<◌, ◌-◌, arith, length, refl, sym, ap, ◌∙◌}
use Rattle.std.specs.Vec.{with_item}
use Rattle.scc_array.proofs.ArrayWriting.{slot-got, slot-written, list-there, list-long, list-got, list-written, in-list}
use Rattle.scc_array.proofs.Listed.{listed-both}
use Rattle.scc_array.proofs.Shelves.{slots-are, window-within, list-read}
use Rattle.scc_array.specs.Windows.{window_of}
use Rattle.scc_array.specs.Shelves.{shelves}
use Rattle.scc_array.specs.ShelfWrites.{put_whole}
use Rattle.scc_array.proofs.Array.entry_mut_at.Goals as goal

pub entry_mut-requires-clause-bucket : goal.entry_mut-requires-clause-bucket
entry_mut-requires-clause-bucket g c = window-within c.self.inside.columns c.self.inside.overflow.items c.args.self.now c.self.view_is c.args.bucket c.requires.bucket

pub entry_mut-requires-clause-slot : goal.entry_mut-requires-clause-slot
entry_mut-requires-clause-slot g c = omega (arith, c.slots_before_overflow-count.ensures.within c.if-slot-count.true, ap length (slots-are c.self.inside.columns c.self.inside.overflow.items (shelves c.self.inside.columns c.self.inside.overflow.items) refl c.args.bucket (omega (arith, ap length c.self.view_is, c.requires.bucket))))

pub returns-then-slot-count : goal.returns-then-slot-count
returns-then-slot-count g c =
    let ws = c.self.inside.columns in let os = c.self.inside.overflow.items in let bs = c.args.self.now in let b = c.args.bucket in
    let view = c.self.view_is in let kept = c.self.invariant.0 in let i = c.args.slot in
    let e = c.entry_mut.result.now in let l : i < length (window_of ws b).slots = omega (arith, c.slots_before_overflow-count.ensures.within c.if-slot-count.true, ap length (slots-are ws os (shelves ws os) refl b (omega (arith, ap length view, c.requires.bucket)))) in
    let got = slot-got put_whole ws os bs view kept b c.requires.bucket i e l c.entry_mut.ensures.entry in
    ((refl, λ w. slot-written put_whole ws os bs view kept b c.requires.bucket i e l c.entry_mut.ensures.entry w), record { writes_back = tt; entry = got })

pub index_mut-list-requires : goal.index_mut-list-requires
index_mut-list-requires g c =
    let ws = c.self.inside.columns in let os = c.self.inside.overflow.items in let bs = c.args.self.now in let b = c.args.bucket in
    let view = c.self.view_is in let kept = c.self.invariant.0 in let i = c.args.slot in
    let k = c.slots_before_overflow-count.result in let far : k ≤ i = omega (arith, c.if-slot-count.false) in
    let counted = c.slots_before_overflow-count.ensures.past (omega (arith, c.if-slot-count.false)) ∙ sym (ap length (slots-are ws os (shelves ws os) refl b (omega (arith, ap length view, c.requires.bucket)))) in
    let there = list-there put_whole ws os bs view kept b c.requires.bucket i c.requires.slot k counted far in
    omega (arith, c.self.inside.overflow.ok.0)

pub index_mut-requires : goal.index_mut-requires
index_mut-requires g c =
    let ws = c.self.inside.columns in let os = c.self.inside.overflow.items in let bs = c.args.self.now in let b = c.args.bucket in
    let view = c.self.view_is in let kept = c.self.invariant.0 in let i = c.args.slot in
    let k = c.slots_before_overflow-count.result in let far : k ≤ i = omega (arith, c.if-slot-count.false) in
    let counted = c.slots_before_overflow-count.ensures.past (omega (arith, c.if-slot-count.false)) ∙ sym (ap length (slots-are ws os (shelves ws os) refl b (omega (arith, ap length view, c.requires.bucket)))) in
    let there = list-there put_whole ws os bs view kept b c.requires.bucket i c.requires.slot k counted far in
    let v = c.index_mut-list.result.now in let entry_count = list-read os b v there c.index_mut-list.ensures.value in
    let l = list-long put_whole ws os bs view kept b c.requires.bucket i c.requires.slot k counted far v entry_count in
    omega (arith, v.ok.0)

pub returns-else-slot-count : goal.returns-else-slot-count
returns-else-slot-count g c =
    let ws = c.self.inside.columns in let os = c.self.inside.overflow.items in let bs = c.args.self.now in let b = c.args.bucket in
    let view = c.self.view_is in let kept = c.self.invariant.0 in let i = c.args.slot in
    let k = c.slots_before_overflow-count.result in let far : k ≤ i = omega (arith, c.if-slot-count.false) in
    let counted = c.slots_before_overflow-count.ensures.past (omega (arith, c.if-slot-count.false)) ∙ sym (ap length (slots-are ws os (shelves ws os) refl b (omega (arith, ap length view, c.requires.bucket)))) in
    let there = list-there put_whole ws os bs view kept b c.requires.bucket i c.requires.slot k counted far in
    let v = c.index_mut-list.result.now in let entry_count = list-read os b v there c.index_mut-list.ensures.value in
    let e = c.index_mut.result.now in
    let got = list-got put_whole ws os bs view kept b c.requires.bucket i c.requires.slot k counted far v entry_count e c.index_mut.ensures.value in
    ((refl, λ w. list-written put_whole ws os bs view kept b c.requires.bucket i c.requires.slot k counted far v entry_count e c.index_mut.ensures.value (with_item v (i - k) w) w refl refl), record { writes_back = tt; entry = got })

pub invariant_of-self-lent-else-slot-count : goal.invariant_of-self-lent-else-slot-count
invariant_of-self-lent-else-slot-count g c =
    let ws = c.self.inside.columns in let os = c.self.inside.overflow.items in let bs = c.args.self.now in let b = c.args.bucket in
    let view = c.self.view_is in let kept = c.self.invariant.0 in let i = c.args.slot in
    let k = c.slots_before_overflow-count.result in let far : k ≤ i = omega (arith, c.if-slot-count.false) in
    let counted = c.slots_before_overflow-count.ensures.past (omega (arith, c.if-slot-count.false)) ∙ sym (ap length (slots-are ws os (shelves ws os) refl b (omega (arith, ap length view, c.requires.bucket)))) in
    let here = in-list put_whole ws os bs view kept b c.requires.bucket i c.requires.slot k counted far in
    λ w. listed-both ws os c.self.inside.crowded.items bs view kept c.self.invariant.1 b c.requires.bucket (i - k) here _
