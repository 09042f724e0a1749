use Rattle.std.proofs.Common.{◌≡◌, None, Some, rules}
use Rattle.scc_owned.proofs.MapRemoving.{removed-step, removed-finds, removed-unique, removed-array}
use Rattle.scc_owned.proofs.RuledUpdates.{removed-met}
use Rattle.scc_owned.proofs.ruled_map.calls.RuledMap+K+V+R+H.remove_sync.Goals as goal

pub returns-clause-key : goal.returns-clause-key
returns-clause-key g c =
    let kept = rw c.into_pair.ensures.pair at c.into_pair.ensures.kept in
    rw c.into_pair.ensures.pair (removed-met g.K.PartialEq.eq g.R.Rule.holds g.met.R.Rule.alike g.met.K.Eq.laws.symm c.self.inside.table c.remove.new.self c.args.k.now c.in_ok-entry.entry c.in_ok-entry.ensures.step kept).0

pub returns-clause-kept : goal.returns-clause-kept
returns-clause-kept g c =
    let kept = rw c.into_pair.ensures.pair at c.into_pair.ensures.kept in
    rw c.into_pair.ensures.pair (kept, (removed-met g.K.PartialEq.eq g.R.Rule.holds g.met.R.Rule.alike g.met.K.Eq.laws.symm c.self.inside.table c.remove.new.self c.args.k.now c.in_ok-entry.entry c.in_ok-entry.ensures.step kept).1)

pub returns-clause-step : goal.returns-clause-step
returns-clause-step g c = rw (← c.self.view_is, c.into_pair.ensures.pair) (removed-step g.met.K.Eq.laws c.args.k.now c.self.inside.table c.remove.new.self c.remove.ensures.unique (Some c.in_ok-entry.entry) c.in_ok-entry.ensures.step)

pub returns-clause-finds : goal.returns-clause-finds
returns-clause-finds g c = rw (← c.self.view_is) (removed-finds g.met.K.Eq.laws c.args.k.now c.self.inside.table c.remove.new.self c.remove.ensures.unique (Some c.in_ok-entry.entry) c.in_ok-entry.ensures.step)

pub returns-clause-unique : goal.returns-clause-unique
returns-clause-unique g c = removed-unique g.met.K.Eq.laws c.args.k.now c.self.inside.table c.remove.new.self c.remove.ensures.unique (Some c.in_ok-entry.entry) c.in_ok-entry.ensures.step

pub returns-clause-array : goal.returns-clause-array
returns-clause-array g c = rw (← c.self.view_is) (removed-array g.met.K.Eq.laws c.args.k.now c.self.inside.table c.remove.new.self c.remove.ensures.unique (Some c.in_ok-entry.entry) c.in_ok-entry.ensures.step)

pub returns-in_err-entry-clause-step : goal.returns-in_err-entry-clause-step
returns-in_err-entry-clause-step g c =
    let gone : c.from_residual.result ≡ None = search rules in
    rw (← c.self.view_is, gone) (removed-step g.met.K.Eq.laws c.args.k.now c.self.inside.table c.remove.new.self c.remove.ensures.unique None c.in_err-entry.ensures.step)

pub returns-in_err-entry-clause-unique : goal.returns-in_err-entry-clause-unique
returns-in_err-entry-clause-unique g c = removed-unique g.met.K.Eq.laws c.args.k.now c.self.inside.table c.remove.new.self c.remove.ensures.unique None c.in_err-entry.ensures.step

pub returns-in_err-entry-clause-array : goal.returns-in_err-entry-clause-array
returns-in_err-entry-clause-array g c =
    let gone : c.from_residual.result ≡ None = search rules in
    rw (← c.self.view_is, gone) (removed-array g.met.K.Eq.laws c.args.k.now c.self.inside.table c.remove.new.self c.remove.ensures.unique None c.in_err-entry.ensures.step)
