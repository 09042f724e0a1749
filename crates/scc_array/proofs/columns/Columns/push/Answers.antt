use Rattle.std.proofs.Common.{arith}
use Rattle.scc_array.proofs.columns.Columns.push.Goals as goal

pub push_at-requires-clause-room : goal.push_at-requires-clause-room
push_at-requires-clause-room g c = omega (arith, c.count-slot.ensures.count, c.requires.room)
