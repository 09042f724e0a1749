use Rattle.std.proofs.Common.{◌∙◌, Some, sym, ap}
use Rattle.scc_owned.proofs.Updating.{updated-step, updated-finds, updated-missing, updated-noted, updated-waiting, updated-unique}
use Rattle.scc_owned.proofs.map.calls.Map+K+V+H.update_sync.Goals as goal

pub update-requires-clause-takes : goal.update-requires-clause-takes
update-requires-clause-takes g c = λ e found allowed a b shows. c.requires a b (rw (← c.self.view_is) (found ∙ ap Some (sym shows)))

pub returns-clause-step : goal.returns-clause-step
returns-clause-step g c = rw (← c.self.view_is) (updated-step g.U.FnOnce c.args.u g.met.K.Eq.laws c.self.inside.table c.update.new.self c.args.k.now c.update.ensures.unique c.update.result c.update.ensures.step)

pub returns-clause-finds : goal.returns-clause-finds
returns-clause-finds g c = rw (← c.self.view_is) (updated-finds g.U.FnOnce c.args.u g.met.K.Eq.laws c.self.inside.table c.update.new.self c.args.k.now c.update.ensures.unique c.update.result c.update.ensures.step)

pub returns-clause-missing : goal.returns-clause-missing
returns-clause-missing g c = rw (← c.self.view_is) (updated-missing g.U.FnOnce c.args.u g.met.K.Eq.laws c.self.inside.table c.update.new.self c.args.k.now c.update.ensures.unique c.update.result c.update.ensures.step)

pub returns-clause-noted : goal.returns-clause-noted
returns-clause-noted g c = rw (← c.self.view_is) (updated-noted g.U.FnOnce c.args.u g.met.K.Eq.laws c.self.inside.table c.update.new.self c.args.k.now c.update.ensures.unique c.update.result c.update.ensures.step)

pub returns-clause-waiting : goal.returns-clause-waiting
returns-clause-waiting g c = rw (← c.self.view_is) (updated-waiting g.U.FnOnce c.args.u g.met.K.Eq.laws c.self.inside.table c.update.new.self c.args.k.now c.update.ensures.unique c.update.result c.update.ensures.step)

pub returns-clause-unique : goal.returns-clause-unique
returns-clause-unique g c = updated-unique g.U.FnOnce c.args.u g.met.K.Eq.laws c.self.inside.table c.update.new.self c.args.k.now c.update.ensures.unique c.update.result c.update.ensures.step
