use Rattle.std.proofs.lemmas.List.{map-id}
use Rattle.std.proofs.lemmas.List.Sorted.{IsPermutation-refl}
use Rattle.scc_common.specs.Contents.{entries}
use Rattle.scc_common.proofs.WalkLemmas.{CallableWhile-always}
use Rattle.scc_shared.proofs.paired.RuledPaired.all.Goals as goal

pub iter_sync-requires : goal.iter_sync-requires
iter_sync-requires g c = CallableWhile-always g.F.FnMut _ c.args.f _ c.requires

pub returns : goal.returns
returns g c = let walk = c.iter_sync.ensures in (entries c.args.owned.now, walk.0, rw (map-id (entries c.args.owned.now)) (IsPermutation-refl _), walk.1)
