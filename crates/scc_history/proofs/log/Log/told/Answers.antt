use Rattle.std.proofs.Common.{arith}
use Rattle.scc_history.proofs.Growing.{RisesTo-later}
use Rattle.scc_history.proofs.log.Log.told.Goals as goal

pub invariant_of-self : goal.invariant_of-self
invariant_of-self g c = record { rising = RisesTo-later 0 c.args.self.now.clock c.args.other.now.clock c.args.self.now.receipts.items c.args.self.now.rising (omega arith) }
