use Rattle.std.proofs.Common.{refl}
use Rattle.scc_owned_cache.proofs.Entries.{pair-is}
use Rattle.scc_owned_cache.proofs.borrowed.methods.HeldOccupied+mut+Owned+K+V+H+R+N+K+V+H+R.remove_entry.Goals as goal

pub returns-clause-pair : goal.returns-clause-pair
returns-clause-pair g c = pair-is c.args.self c.args.self.guard.now c.remove_at.result refl c.remove_at.ensures.pair
