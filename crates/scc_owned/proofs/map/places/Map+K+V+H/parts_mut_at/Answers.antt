use Rattle.std.proofs.Common.{refl, ap}
use Rattle.scc_table.specs.Places.{with_write_at}
use Rattle.scc_common.specs.Pairs.{with_pair_value}
use Rattle.scc_owned.proofs.map.places.Map+K+V+H.parts_mut_at.Goals as goal

pub returns : goal.returns
returns g c =
    let x = c.parts_mut_at.ensures.parts in
    ((refl, λ w. ap (λ m. with_write_at with_pair_value m c.args.place w) c.self.view_is), record { writes_back = tt; parts = rw (← c.self.view_is, x.2, x.3) x.1 })
