use Rattle.scc_owned.proofs.Clones.{clones-find}
use Rattle.scc_owned.proofs.index.clone_and_eq.Index+K+V+H.try_clone.Goals as goal

pub returns-in-Ok-clause-finds : goal.returns-in-Ok-clause-finds
returns-in-Ok-clause-finds g c equal = clones-find g.met.K.Eq.laws g.K.Clone.is_clone g.V.Clone.is_clone equal g.H.Clone.is_clone c.args.self.now c.over.result (rw (c.over.ensures.table, ← c.self.view_is) c.in-Ok.ensures.clones) (rw c.over.ensures.table c.in-Ok.ensures.unique)

pub returns-in-Ok-clause-clones : goal.returns-in-Ok-clause-clones
returns-in-Ok-clause-clones g c = rw (c.over.ensures.table, ← c.self.view_is) c.in-Ok.ensures.clones
