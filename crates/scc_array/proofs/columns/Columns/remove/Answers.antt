use Rattle.std.proofs.Common.{◌≡◌, ◌+◌, ◌-◌, ◌*◌, arith, [], length, set, get_or, None, ap, ◌∙◌}
use Rattle.std.proofs.lemmas.List.{get_or-set_other}
use Rattle.scc_array.proofs.Bucket.{packed-there, row-within, row-read, number-small, filled-there, entry-there}
use Rattle.scc_array.proofs.Shifting.{windows-shifted, columns-shifted}
use Rattle.scc_array.proofs.columns.Columns.remove.Goals as goal
use Rattle.scc_array.specs.Shifts.{Closes}
use Rattle.scc_array.specs.Windows.{window_of, shifted_out}

pub overflow_mul-base : goal.overflow_mul-base
overflow_mul-base g c = record { fits = let n = number-small c.self.inside.tags.items c.self.inside.slots c.self.invariant c.args.self.now c.self.view_is c.args.bucket c.requires.bucket in omega arith }

pub overflow_add-base : goal.overflow_add-base
overflow_add-base g c =
    let rows = c.self.inside.tags.items in let cells = c.self.inside.slots in let ws = c.args.self.now in let b = c.args.bucket in let i = c.args.slot in
    let kept = c.self.invariant in let view = c.self.view_is in
    let packed = packed-there rows cells kept ws view b c.requires.bucket in let within = row-within rows cells kept ws view b c.requires.bucket in
    let last : c.count-last.result - 1 ≡ length (window_of ws b).slots - 1 = ap (λ n. n - 1) c.count-last.ensures.count in
    let n = number-small rows cells kept ws view b c.requires.bucket in let m = packed.most in
    record { fits = omega (arith, c.requires.slot) }

pub take-entry-requires : goal.take-entry-requires
take-entry-requires g c = filled-there c.self.inside.tags.items c.self.inside.slots c.self.invariant c.args.self.now c.self.view_is c.args.bucket c.requires.bucket c.args.slot c.requires.slot

pub close_gap-requires-clause-filled : goal.close_gap-requires-clause-filled
close_gap-requires-clause-filled g c = λ q above below.
    let rows = c.self.inside.tags.items in let cells = c.self.inside.slots in let ws = c.args.self.now in let b = c.args.bucket in let i = c.args.slot in
    let kept = c.self.invariant in let view = c.self.view_is in
    let packed = packed-there rows cells kept ws view b c.requires.bucket in let within = row-within rows cells kept ws view b c.requires.bucket in
    let last : c.count-last.result - 1 ≡ length (window_of ws b).slots - 1 = ap (λ n. n - 1) c.count-last.ensures.count in
    let j = q - 32 * b in let at : q ≡ 32 * b + j = omega arith in
    let f = filled-there rows cells kept ws view b c.requires.bucket j (omega (arith, c.requires.slot)) in
    (f.0, rw c.take-entry.ensures.cells (get_or-set_other cells (32 * b + i) q None None (λ e. omega arith) ∙ ap (λ k. get_or cells k None) at ∙ f.1))

pub invariant_of-self : goal.invariant_of-self
invariant_of-self g c =
    let rows = c.self.inside.tags.items in let cells = c.self.inside.slots in let ws = c.args.self.now in let b = c.args.bucket in let i = c.args.slot in
    let kept = c.self.invariant in let view = c.self.view_is in
    let packed = packed-there rows cells kept ws view b c.requires.bucket in let within = row-within rows cells kept ws view b c.requires.bucket in
    let last : c.count-last.result - 1 ≡ length (window_of ws b).slots - 1 = ap (λ n. n - 1) c.count-last.ensures.count in
    let row : get_or rows b [] ≡ c.index_mut.result.now = row-read rows b c.index_mut.result.now within c.index_mut.ensures.value in
    let closed_row : Closes 0 (get_or rows b []) i (length (window_of ws b).slots - 1) c.close_gap.new.row = rw (← last, row) c.close_gap.ensures.tags in
    let closed : Closes None (set cells (32 * b + i) None) (32 * b + i) (32 * b + (length (window_of ws b).slots - 1)) c.close_gap.new.slots = rw (← last, ← c.take-entry.ensures.cells) c.close_gap.ensures.entries in
    columns-shifted rows cells kept b within _ _ packed i c.requires.slot c.close_gap.new.slots c.close_gap.new.row closed closed_row

pub returns-clause-entry : goal.returns-clause-entry
returns-clause-entry g c = entry-there c.self.inside.tags.items c.self.inside.slots c.self.invariant c.args.self.now c.self.view_is c.args.bucket c.requires.bucket c.args.slot c.requires.slot c.take-entry.result c.take-entry.ensures.entry

pub returns-clause-others : goal.returns-clause-others
returns-clause-others g c =
    let rows = c.self.inside.tags.items in let cells = c.self.inside.slots in let ws = c.args.self.now in let b = c.args.bucket in let i = c.args.slot in
    let kept = c.self.invariant in let view = c.self.view_is in
    let packed = packed-there rows cells kept ws view b c.requires.bucket in let within = row-within rows cells kept ws view b c.requires.bucket in
    let last : c.count-last.result - 1 ≡ length (window_of ws b).slots - 1 = ap (λ n. n - 1) c.count-last.ensures.count in
    let row : get_or rows b [] ≡ c.index_mut.result.now = row-read rows b c.index_mut.result.now within c.index_mut.ensures.value in
    let closed_row : Closes 0 (get_or rows b []) i (length (window_of ws b).slots - 1) c.close_gap.new.row = rw (← last, row) c.close_gap.ensures.tags in
    let closed : Closes None (set cells (32 * b + i) None) (32 * b + i) (32 * b + (length (window_of ws b).slots - 1)) c.close_gap.new.slots = rw (← last, ← c.take-entry.ensures.cells) c.close_gap.ensures.entries in
    windows-shifted rows cells kept b within _ _ packed i c.requires.slot c.close_gap.new.slots c.close_gap.new.row closed closed_row ∙ ap (λ v. set v b (shifted_out (window_of ws b) i)) view
