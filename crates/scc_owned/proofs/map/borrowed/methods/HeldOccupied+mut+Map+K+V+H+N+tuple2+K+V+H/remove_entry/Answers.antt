use Rattle.std.proofs.Common.{refl}
use Rattle.scc_buckets.specs.Placed as spots
use Rattle.scc_owned.proofs.HeldEntries.{pair-is}
use Rattle.scc_owned.proofs.map.borrowed.methods.HeldOccupied+mut+Map+K+V+H+N+tuple2+K+V+H.remove_entry.Goals as goal

pub returns-clause-pair : goal.returns-clause-pair
returns-clause-pair g c = pair-is c.args.self c.args.self.guard.now c.remove_at.result refl c.remove_at.ensures.pair

pub returns-clause-removed : goal.returns-clause-removed
unfolding spots.front_of_spot spots.back_of_spot
returns-clause-removed g c = c.remove_at.ensures.others
