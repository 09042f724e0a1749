use Rattle.scc_buckets.specs.Placed as spots
use Rattle.scc_owned.proofs.index.borrowed.methods.HeldOccupied+mut+Index+K+V+H+N+SharedVersion+K+V+H.remove_entry.Goals as goal

pub returns-clause-removed : goal.returns-clause-removed
unfolding spots.front_of_spot spots.back_of_spot
returns-clause-removed g c = c.remove_at.ensures.others
