use Rattle.std.specs.Arc.{arc_value}
use Rattle.std.proofs.Common.{ap, map}
use Rattle.scc_common.proofs.snapshot.Iter.of.Goals as goal

pub returns : goal.returns
returns g c = ap (map arc_value) c.from_vec.ensures.items
