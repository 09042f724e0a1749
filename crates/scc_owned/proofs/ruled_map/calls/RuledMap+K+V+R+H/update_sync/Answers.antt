use Rattle.scc_common.specs.Contents.{entries}
use Rattle.scc_owned.proofs.RuledPairs.{found-key, under}
use Rattle.scc_owned.proofs.RuledUpdates.{called-at, writes-kept}
use Rattle.scc_owned.proofs.Updating.{updated-step, updated-finds, updated-missing, updated-noted, updated-waiting, updated-unique}
use Rattle.scc_owned.proofs.ruled_map.calls.RuledMap+K+V+R+H.update_sync.Goals as goal

pub update-requires-clause-takes : goal.update-requires-clause-takes
update-requires-clause-takes g c = λ e found allowed a b shows.
    called-at g.K.PartialEq.eq g.R.Rule.holds g.met.R.Rule.alike g.met.K.Eq.laws.symm g.U.FnOnce c.args.u c.args.k.now c.requires.callable e (found-key g.K.PartialEq.eq (entries c.self.inside.table) c.args.k.now e found) allowed a b shows

pub update-requires-clause-keeps : goal.update-requires-clause-keeps
update-requires-clause-keeps g c = λ e r w found allowed gave.
    let equal = found-key g.K.PartialEq.eq (entries c.self.inside.table) c.args.k.now e found in
    g.met.R.Rule.alike c.args.k.now e.0 w equal (c.requires.keeps e r w equal allowed (under g.K.PartialEq.eq g.R.Rule.holds g.met.R.Rule.alike g.met.K.Eq.laws.symm c.args.k.now e.0 e.1 equal allowed) gave)

pub returns-clause-step : goal.returns-clause-step
returns-clause-step g c = rw (← c.self.view_is) (updated-step g.U.FnOnce c.args.u g.met.K.Eq.laws c.self.inside.table c.update.new.self c.args.k.now c.update.ensures.unique c.update.result c.update.ensures.step)

pub returns-clause-finds : goal.returns-clause-finds
returns-clause-finds g c = rw (← c.self.view_is) (updated-finds g.U.FnOnce c.args.u g.met.K.Eq.laws c.self.inside.table c.update.new.self c.args.k.now c.update.ensures.unique c.update.result c.update.ensures.step)

pub returns-clause-missing : goal.returns-clause-missing
returns-clause-missing g c = rw (← c.self.view_is) (updated-missing g.U.FnOnce c.args.u g.met.K.Eq.laws c.self.inside.table c.update.new.self c.args.k.now c.update.ensures.unique c.update.result c.update.ensures.step)

pub returns-clause-noted : goal.returns-clause-noted
returns-clause-noted g c = rw (← c.self.view_is) (updated-noted g.U.FnOnce c.args.u g.met.K.Eq.laws c.self.inside.table c.update.new.self c.args.k.now c.update.ensures.unique c.update.result c.update.ensures.step)

pub returns-clause-waiting : goal.returns-clause-waiting
returns-clause-waiting g c = rw (← c.self.view_is) (updated-waiting g.U.FnOnce c.args.u g.met.K.Eq.laws c.self.inside.table c.update.new.self c.args.k.now c.update.ensures.unique c.update.result c.update.ensures.step)

pub returns-clause-unique : goal.returns-clause-unique
returns-clause-unique g c = updated-unique g.U.FnOnce c.args.u g.met.K.Eq.laws c.self.inside.table c.update.new.self c.args.k.now c.update.ensures.unique c.update.result c.update.ensures.step

pub returns-clause-answer : goal.returns-clause-answer
returns-clause-answer g c = writes-kept g.K.PartialEq.eq g.R.Rule.holds g.met.R.Rule.alike g.met.K.Eq.laws.symm g.U.FnOnce c.args.u c.args.k.now c.self.inside.table c.update.new.self c.update.result c.update.ensures.step c.update.ensures.allowed
