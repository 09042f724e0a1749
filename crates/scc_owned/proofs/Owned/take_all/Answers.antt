use Rattle.std.proofs.Common.{refl}
use Rattle.scc_table.proofs.walks.Reach.{reached-first}
use Rattle.scc_owned.proofs.Owned.take_all.Goals as goal

pub loop-at-init : goal.loop-at-init
loop-at-init g c =
    let start = reached-first c.args.self.now c.first_place-at.result (rw c.self.view_is at c.first_place-at.ensures.place) in
    record { within = start.1; first = start.0; buckets = refl; settings = refl; noted = refl; waiting = refl }
