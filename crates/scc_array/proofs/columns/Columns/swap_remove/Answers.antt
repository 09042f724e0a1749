use Rattle.std.proofs.Common.{◌≡◌, ◌-◌, arith, length, set, ap, ◌∙◌}
use Rattle.scc_array.proofs.Bucket.{packed-there, row-within, row-read, number-small, filled-there, entry-there}
use Rattle.scc_array.proofs.Swapping.{windows-over, columns-over}
use Rattle.scc_array.proofs.columns.Columns.swap_remove.Goals as goal
use Rattle.scc_array.specs.Windows.{window_of, popped_over}

pub index_mut-row-requires : goal.index_mut-row-requires
index_mut-row-requires g c =
    let rows = c.self.inside.tags.items in let cells = c.self.inside.slots in let ws = c.args.self.now in let b = c.args.bucket in
    let kept = c.self.invariant in let view = c.self.view_is in
    let packed = packed-there rows cells kept ws view b c.requires.bucket in let within = row-within rows cells kept ws view b c.requires.bucket in
    omega (arith, c.self.inside.tags.ok.0)

pub overflow_mul-base : goal.overflow_mul-base
overflow_mul-base g c = record { fits = let n = number-small c.self.inside.tags.items c.self.inside.slots c.self.invariant c.args.self.now c.self.view_is c.args.bucket c.requires.bucket in omega arith }

pub overflow_add-base : goal.overflow_add-base
overflow_add-base g c =
    let rows = c.self.inside.tags.items in let cells = c.self.inside.slots in let ws = c.args.self.now in let b = c.args.bucket in
    let kept = c.self.invariant in let view = c.self.view_is in
    let packed = packed-there rows cells kept ws view b c.requires.bucket in let within = row-within rows cells kept ws view b c.requires.bucket in
    let n = number-small rows cells kept ws view b c.requires.bucket in
    let m = packed.most in
    record { fits = omega (arith, c.requires.slot) }

pub overflow_add-base-2 : goal.overflow_add-base-2
overflow_add-base-2 g c =
    let rows = c.self.inside.tags.items in let cells = c.self.inside.slots in let ws = c.args.self.now in let b = c.args.bucket in
    let kept = c.self.invariant in let view = c.self.view_is in
    let packed = packed-there rows cells kept ws view b c.requires.bucket in let within = row-within rows cells kept ws view b c.requires.bucket in
    let n = number-small rows cells kept ws view b c.requires.bucket in
    record { fits = omega (arith, c.count-last.ensures.most) }

pub take_over-requires-clause-cell : goal.take_over-requires-clause-cell
take_over-requires-clause-cell g c =
    filled-there c.self.inside.tags.items c.self.inside.slots c.self.invariant c.args.self.now c.self.view_is c.args.bucket c.requires.bucket c.args.slot c.requires.slot

pub take_over-requires-clause-from : goal.take_over-requires-clause-from
take_over-requires-clause-from g c =
    let ws = c.args.self.now in let b = c.args.bucket in
    let last : c.count-last.result - 1 ≡ length (window_of ws b).slots - 1 = ap (λ n. n - 1) c.count-last.ensures.count in
    rw last (filled-there c.self.inside.tags.items c.self.inside.slots c.self.invariant ws c.self.view_is b c.requires.bucket (length (window_of ws b).slots - 1) (omega (arith, c.requires.slot)))

pub invariant_of-self : goal.invariant_of-self
invariant_of-self g c =
    let rows = c.self.inside.tags.items in let cells = c.self.inside.slots in let ws = c.args.self.now in let b = c.args.bucket in
    let kept = c.self.invariant in let view = c.self.view_is in
    let packed = packed-there rows cells kept ws view b c.requires.bucket in let within = row-within rows cells kept ws view b c.requires.bucket in
    let k : c.count-last.result ≡ length (window_of ws b).slots = c.count-last.ensures.count in
    let row = row-read rows b c.index_mut-row.result.now within c.index_mut-row.ensures.value in
    let last : c.count-last.result - 1 ≡ length (window_of ws b).slots - 1 = ap (λ n. n - 1) k in
    rw (c.take_over.ensures.cells, last, ← row) (columns-over rows cells kept b within _ _ packed c.args.slot c.requires.slot c.take_over.result)

pub returns-clause-entry : goal.returns-clause-entry
returns-clause-entry g c =
    entry-there c.self.inside.tags.items c.self.inside.slots c.self.invariant c.args.self.now c.self.view_is c.args.bucket c.requires.bucket c.args.slot c.requires.slot c.take_over.result c.take_over.ensures.entry

pub returns-clause-others : goal.returns-clause-others
returns-clause-others g c =
    let rows = c.self.inside.tags.items in let cells = c.self.inside.slots in let ws = c.args.self.now in let b = c.args.bucket in
    let kept = c.self.invariant in let view = c.self.view_is in
    let packed = packed-there rows cells kept ws view b c.requires.bucket in let within = row-within rows cells kept ws view b c.requires.bucket in
    let k : c.count-last.result ≡ length (window_of ws b).slots = c.count-last.ensures.count in
    let row = row-read rows b c.index_mut-row.result.now within c.index_mut-row.ensures.value in
    let last : c.count-last.result - 1 ≡ length (window_of ws b).slots - 1 = ap (λ n. n - 1) k in
    rw (c.take_over.ensures.cells, last, ← row)
    (windows-over rows cells kept b within _ _ packed c.args.slot c.requires.slot c.take_over.result ∙ ap (λ v. set v b (popped_over (window_of ws b) c.args.slot c.take_over.result)) view)
