use Rattle.scc_owned.proofs.HeldEntries.{pair-is}
use Rattle.scc_owned.proofs.ruled_map.locked.methods.OccupiedEntry+K+V+R+H.remove_entry.Goals as goal

pub remove_at-pair-requires : goal.remove_at-pair-requires
remove_at-pair-requires g c = rw c.deref_mut.ensures.value c.args.self.within

pub returns-clause-pair : goal.returns-clause-pair
returns-clause-pair g c = pair-is c.args.self c.deref_mut.result.now c.remove_at-pair.result c.deref_mut.ensures.value c.remove_at-pair.ensures.step.pair
