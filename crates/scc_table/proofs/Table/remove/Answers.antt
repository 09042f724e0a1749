use Rattle.std.proofs.Common.{◌∙◌, sym, ap, arith}
use Rattle.scc_common.specs.Contents.{hash_in, pending_of, waiting_of}
use Rattle.scc_table.proofs.arrays.JoinedLists.{pending-together, waiting-together}
use Rattle.scc_table.proofs.removals.Shrinks.{removed-at}
use Rattle.scc_table.proofs.Table.remove.Goals as goal

pub remove_from_both-requires-clause-pending : goal.remove_from_both-requires-clause-pending
remove_from_both-requires-clause-pending g c =
    let t = c.self.inside in
    let inv = c.self.invariant in
    let hash = λ (e : g.row.E.Denot). hash_in g.H.Hashes.hash_of t.current (g.E.Keyed.key_of e) in
    let counted = ap pending_of (sym c.self.view_is) ∙ pending-together hash t.current t.draining.waiting.items t.draining.array in
    omega (arith, counted, inv.counted, c.if-self-ne0.true)

pub take_from_current-requires-clause-not_waiting : goal.take_from_current-requires-clause-not_waiting
take_from_current-requires-clause-not_waiting g c =
    let t = c.self.inside in
    let hash = λ (e : g.row.E.Denot). hash_in g.H.Hashes.hash_of t.current (g.E.Keyed.key_of e) in
    ap waiting_of (sym c.self.view_is) ∙ waiting-together hash t.current t.draining.waiting.items t.draining.array ∙ c.self.invariant.none (omega (arith, c.if-self-ne0.false))

pub returns-in-Some-clause-step : goal.returns-in-Some-clause-step
returns-in-Some-clause-step g c =
    let shrunk = c.shrink.ensures in
    let took = c.in-Some.ensures in (
      took.0,
      took.1,
      removed-at c.args.self.now c.take_from_current.new.self c.shrink.new.self took.0 c.in-Some.entry took.2 shrunk.resizes shrunk.shrinks shrunk.due shrunk.spreads shrunk.unique,
    )
