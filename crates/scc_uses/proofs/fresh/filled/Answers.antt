use Rattle.std.proofs.Common.{arith}
use Rattle.scc_table.proofs.arrays.NoneWaits.{none-flagged}
use Rattle.scc_uses.proofs.fresh.filled.Goals as goal

pub loop-key-init : goal.loop-key-init
loop-key-init c =
    let size = c.in-Ok.ensures.size (omega arith) in
    record { array = omega (arith, size.least); not_waiting = none-flagged c.in-Ok.map c.in-Ok.ensures.waiting }
