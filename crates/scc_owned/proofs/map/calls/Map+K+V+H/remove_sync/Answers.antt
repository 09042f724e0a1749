use Rattle.scc_owned.proofs.MapRemoving.{removed-step, removed-finds, removed-unique, removed-array}
use Rattle.scc_owned.proofs.map.calls.Map+K+V+H.remove_sync.Goals as goal

pub returns-clause-step : goal.returns-clause-step
returns-clause-step g c = rw (← c.self.view_is) (removed-step g.met.K.Eq.laws c.args.k.now c.self.inside.table c.remove.new.self c.remove.ensures.unique c.remove.result c.remove.ensures.step)

pub returns-clause-finds : goal.returns-clause-finds
returns-clause-finds g c = rw (← c.self.view_is) (removed-finds g.met.K.Eq.laws c.args.k.now c.self.inside.table c.remove.new.self c.remove.ensures.unique c.remove.result c.remove.ensures.step)

pub returns-clause-unique : goal.returns-clause-unique
returns-clause-unique g c = removed-unique g.met.K.Eq.laws c.args.k.now c.self.inside.table c.remove.new.self c.remove.ensures.unique c.remove.result c.remove.ensures.step

pub returns-clause-array : goal.returns-clause-array
returns-clause-array g c = rw (← c.self.view_is) (removed-array g.met.K.Eq.laws c.args.k.now c.self.inside.table c.remove.new.self c.remove.ensures.unique c.remove.result c.remove.ensures.step)
