use Rattle.std.proofs.Common.{refl, ap}
use Rattle.scc_owned.specs.MapEntries.{value_apart}
use Rattle.scc_table.specs.Places.{with_write_at}
use Rattle.scc_common.specs.Pairs.{with_pair_value}
use Rattle.scc_owned.proofs.map.places.Map+K+V+H.value_mut_at.Goals as goal

pub returns : goal.returns
returns g c =
    let v = rw c.self.view_is at c.value_mut_at.ensures.value in (
      (refl, λ w. ap (λ m. with_write_at with_pair_value m c.args.place w) c.self.view_is),
      record { writes_back = tt; value = v; unique = value_apart g.K.PartialEq.eq c.args.self.now c.args.place c.requires (rw c.self.view_is at c.value_mut_at.ensures.unique) },
    )
