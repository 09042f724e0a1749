use Rattle.std.proofs.Common.{◌+◌, arith, ◌∙◌, inr}
use Rattle.scc_array.proofs.sifting.close_gap.Goals as goal

pub move_cell-requires-clause-from : goal.move_cell-requires-clause-from
move_cell-requires-clause-from g c =
    let f = c.requires.filled (c.args.base + c.loop-p.p + 1) (omega arith) (omega arith) in
    (f.0, c.loop-p.invariant.entries.others (c.args.base + c.loop-p.p + 1) (inr (omega arith)) ∙ f.1)
