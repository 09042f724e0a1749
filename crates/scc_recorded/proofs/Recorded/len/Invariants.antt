use Rattle.std.proofs.Common.{◌≡◌}
use Rattle.scc_recorded.specs.Adds.{Adds, IsOf}
use Rattle.scc_recorded.proofs.Recorded.len.Given as goal

abbrev pub invariant-loop-i : goal.invariant-loop-i
invariant-loop-i g l = record {
  number : l.pass.log.number ≡ l.fn.pass.log.number;
  adds : Adds (IsOf g.C.Call.Clone.is_clone g.C.Calls.means g.C.WholeCalls.counts) l.fn.pass.log.clock l.pass.log.clock l.i l.fn.pass.log.receipts.items l.pass.log.receipts.items;
}
