use Rattle.std.proofs.Common.{refl}
use Rattle.scc_common.proofs.entry.Tuple2Valued.visit.Goals as goal

pub returns-clause-written : goal.returns-clause-written
returns-clause-written g c = (c.f.new.arg3, record { key = _; value = _; shows = refl; left = _; called = c.f.ensures; leaves = refl }, refl)
