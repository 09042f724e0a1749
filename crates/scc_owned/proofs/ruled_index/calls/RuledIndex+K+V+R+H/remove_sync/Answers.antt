use Rattle.std.proofs.Common.{rules}
use Rattle.scc_owned.proofs.IndexRemoving.{one-step, one-finds, one-unique, one-array, none-step, none-unique, none-array}
use Rattle.scc_owned.proofs.ruled_index.calls.RuledIndex+K+V+R+H.remove_sync.Goals as goal
use Rattle.scc_owned.proofs.ruled_index.calls.RuledIndex+K+V+R+H.remove_sync.Goals.{in-Some, in-None}

pub returns-clause-step : goal.returns-clause-step
returns-clause-step g c =
    let old = c.self.inside.table in
    let new = c.remove.new.self in
    let laws = g.met.K.Eq.laws in
    rw (← c.self.view_is) (elim c.match-remove.branch [
      | in-Some w ↦ rw w.result-is (one-step laws c.args.k.now old new w.in-Some.ensures.unique _ w.in-Some.ensures.step)
      | in-None w ↦ rw w.result-is (none-step laws c.args.k.now old new w.in-None.ensures.unique w.in-None.ensures.step)
    ])

pub returns-clause-finds : goal.returns-clause-finds
returns-clause-finds g c =
    let old = c.self.inside.table in
    let new = c.remove.new.self in
    let laws = g.met.K.Eq.laws in
    rw (← c.self.view_is) (elim c.match-remove.branch [
      | in-Some w ↦ λ _. one-finds laws c.args.k.now old new w.in-Some.ensures.unique _ w.in-Some.ensures.step
      | in-None w ↦ rw w.result-is (search rules)
    ])

pub returns-clause-unique : goal.returns-clause-unique
returns-clause-unique g c =
    let old = c.self.inside.table in
    let new = c.remove.new.self in
    let laws = g.met.K.Eq.laws in
    elim c.match-remove.branch [
      | in-Some w ↦ one-unique laws c.args.k.now old new w.in-Some.ensures.unique _ w.in-Some.ensures.step
      | in-None w ↦ none-unique laws c.args.k.now old new w.in-None.ensures.unique w.in-None.ensures.step
    ]

pub returns-clause-array : goal.returns-clause-array
returns-clause-array g c =
    let old = c.self.inside.table in
    let new = c.remove.new.self in
    let laws = g.met.K.Eq.laws in
    rw (← c.self.view_is) (elim c.match-remove.branch [
      | in-Some w ↦ rw w.result-is (one-array laws c.args.k.now old new w.in-Some.ensures.unique _ w.in-Some.ensures.step)
      | in-None w ↦ rw w.result-is (none-array laws c.args.k.now old new w.in-None.ensures.unique w.in-None.ensures.step)
    ])
