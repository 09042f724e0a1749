use Rattle.std.proofs.lemmas.List.{map-id}
use Rattle.scc_common.proofs.WalkLemmas.{CallableWhile-always}
use Rattle.scc_shared.proofs.paired.Tuple2Paired.all.Goals as goal

pub iter_sync-requires : goal.iter_sync-requires
iter_sync-requires g c = λ es same. CallableWhile-always g.F.FnMut _ c.args.f es c.requires

pub returns : goal.returns
returns g c = let walk = c.iter_sync.ensures in (walk.0, walk.1, rw (map-id walk.0) walk.2, walk.3)
