use Rattle.std.proofs.Common.{◌%◌, ◌/◌, ◌<◌, inl, inr, arith}
use Rattle.scc_draining.proofs.relocate.sibling.Goals as goal

pub returns-then-target-eq0 : goal.returns-then-target-eq0
returns-then-target-eq0 c = (c.args.target / 2, inl (omega (arith, c.if-target-eq0.true), omega (arith, c.if-target-eq0.true)))

pub returns : goal.returns
returns c =
    let some : 0 < c.args.target % 2 = let ne = c.if-target-eq0.false in omega arith in
    let least : c.args.target % 2 < 2 = omega arith in
    (c.args.target / 2, inr (omega arith, omega arith))
