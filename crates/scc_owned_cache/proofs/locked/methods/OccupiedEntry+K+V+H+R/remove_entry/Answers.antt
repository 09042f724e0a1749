use Rattle.scc_owned_cache.proofs.Entries.{pair-is}
use Rattle.scc_owned_cache.proofs.locked.methods.OccupiedEntry+K+V+H+R.remove_entry.Goals as goal

pub remove_at-requires : goal.remove_at-requires
remove_at-requires g c = rw c.deref_mut.ensures.value c.args.self.within

pub returns : goal.returns
returns g c = record { pair = pair-is c.args.self c.deref_mut.result.now c.remove_at.result c.deref_mut.ensures.value c.remove_at.ensures.pair; kept = c.remove_at.ensures.kept }
