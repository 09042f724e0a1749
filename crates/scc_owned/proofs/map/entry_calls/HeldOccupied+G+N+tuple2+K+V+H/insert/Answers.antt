use Rattle.std.proofs.Common.{ap, ◌∙◌}
use Rattle.scc_owned.proofs.MapEntries.{within-after, written-after, waiting-after}
use Rattle.scc_owned.proofs.HeldEntries.{pair-is}
use Rattle.scc_owned.proofs.map.entry_calls.HeldOccupied+G+N+tuple2+K+V+H.insert.Goals as goal

pub invariant_of-self : goal.invariant_of-self
invariant_of-self g c = record { within = within-after c.args.self.now c.lend.result.now c.write_at.new.self c.args.value c.lend.ensures.value c.write_at.ensures.new; unique = rw (g.G.Guard.inner_law c.args.self.now.guard c.write_at.new.self) c.write_at.ensures.unique }

pub returns-clause-old : goal.returns-clause-old
returns-clause-old g c =
    let v = c.write_at.ensures.old in
    v.2 ∙ ap (λ p. p.1) (pair-is c.args.self.now c.lend.result.now v.0 c.lend.ensures.value v.1)

pub returns-clause-written : goal.returns-clause-written
returns-clause-written g c = written-after c.args.self.now c.lend.result.now c.write_at.new.self c.args.value c.lend.ensures.value c.write_at.ensures.new _ _

pub returns-clause-waiting : goal.returns-clause-waiting
returns-clause-waiting g c = waiting-after c.args.self.now c.lend.result.now c.write_at.new.self c.args.value c.lend.ensures.value c.write_at.ensures.new
