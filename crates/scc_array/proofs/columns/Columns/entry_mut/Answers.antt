use Rattle.std.proofs.Common.{arith, set, refl, ap, ◌∙◌}
use Rattle.scc_array.proofs.Bucket.{packed-there, row-within, number-small, filled-there, entry-there}
use Rattle.scc_array.proofs.WritingOver.{windows-written, columns-written}
use Rattle.scc_array.proofs.columns.Columns.entry_mut.Goals as goal
use Rattle.scc_array.specs.Windows.{window_of, written_over}

pub overflow_mul-bucket : goal.overflow_mul-bucket
overflow_mul-bucket g c = record { fits = let n = number-small c.self.inside.tags.items c.self.inside.slots c.self.invariant c.args.self.now c.self.view_is c.args.bucket c.requires.bucket in omega arith }

pub overflow_add-bucket : goal.overflow_add-bucket
overflow_add-bucket g c =
    let rows = c.self.inside.tags.items in let cells = c.self.inside.slots in let ws = c.args.self.now in let b = c.args.bucket in
    let kept = c.self.invariant in let view = c.self.view_is in
    let packed = packed-there rows cells kept ws view b c.requires.bucket in let within = row-within rows cells kept ws view b c.requires.bucket in
    let n = number-small rows cells kept ws view b c.requires.bucket in let m = packed.most in
    record { fits = omega (arith, c.requires.slot) }

pub get_mut-requires : goal.get_mut-requires
get_mut-requires g c = filled-there c.self.inside.tags.items c.self.inside.slots c.self.invariant c.args.self.now c.self.view_is c.args.bucket c.requires.bucket c.args.slot c.requires.slot

pub invariant_of-self-lent : goal.invariant_of-self-lent
invariant_of-self-lent g c = λ w.
    let rows = c.self.inside.tags.items in let cells = c.self.inside.slots in let ws = c.args.self.now in let b = c.args.bucket in
    let kept = c.self.invariant in let view = c.self.view_is in
    let packed = packed-there rows cells kept ws view b c.requires.bucket in let within = row-within rows cells kept ws view b c.requires.bucket in
    columns-written rows cells kept b within _ _ packed c.args.slot c.requires.slot w

pub returns : goal.returns
returns g c =
    let rows = c.self.inside.tags.items in let cells = c.self.inside.slots in let ws = c.args.self.now in let b = c.args.bucket in
    let kept = c.self.invariant in let view = c.self.view_is in
    let packed = packed-there rows cells kept ws view b c.requires.bucket in let within = row-within rows cells kept ws view b c.requires.bucket in (
      (refl, λ w. windows-written rows cells kept b within _ _ packed c.args.slot c.requires.slot w ∙ ap (λ v. set v b (written_over (window_of ws b) c.args.slot w)) view),
      record { writes_back = tt; entry = entry-there rows cells kept ws view b c.requires.bucket c.args.slot c.requires.slot c.get_mut.result.now c.get_mut.ensures.entry },
    )
