use Rattle.std.proofs.lemmas.List.Sorted.{IsPermutation-refl}
use Rattle.scc_common.specs.Contents.{entries}
use Rattle.scc_owned.proofs.map.calls.Map+K+V+H.iter_sync.Goals as goal

pub walk-requires : goal.walk-requires
walk-requires g c =
    let callable = c.requires (entries c.args.self.now) (IsPermutation-refl _) in
    rw (← c.self.view_is) at callable
