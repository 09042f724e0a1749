use Rattle.std.proofs.Common.{refl}
use Rattle.scc_table.proofs.walks.Reach.{reached-first}
use Rattle.scc_owned_cache.proofs.Walking.{left-shorter}
use Rattle.scc_owned_cache.proofs.Owned.take_all.Goals as goal

pub loop-at-init : goal.loop-at-init
loop-at-init g c =
    let start = reached-first c.self.inside.table c.first_place-at.result c.first_place-at.ensures.place in
    rw (← c.self.view_is) record { within = start.1; first = start.0; buckets = refl; settings = refl; refused = refl; maximum = refl; waiting = refl }

pub loop-at-smaller : goal.loop-at-smaller
loop-at-smaller g c =
    let within = rw c.in-Some.is at c.loop-at.invariant.within in
    left-shorter c.loop-at.self.contents c.take_with_next-pair.new.self.contents c.in-Some.place within c.take_with_next-pair.ensures.takes.others
