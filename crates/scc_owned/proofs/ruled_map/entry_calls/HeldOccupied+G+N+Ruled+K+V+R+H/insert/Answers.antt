use Rattle.std.proofs.Common.{ap, sym, subst, ◌∙◌}
use Rattle.scc_common.specs.Pairs.{IsUnique}
use Rattle.scc_owned.proofs.MapEntries.{within-after, written-after, waiting-after}
use Rattle.scc_owned.proofs.HeldEntries.{pair-is}
use Rattle.scc_owned.proofs.ruled_map.entry_calls.HeldOccupied+G+N+Ruled+K+V+R+H.insert.Goals as goal

pub invariant_of-self : goal.invariant_of-self
invariant_of-self g c = record { within = within-after c.args.self.now c.lend.result.now c.write_at.new.self c.args.value c.lend.ensures.value c.write_at.ensures.new; unique = rw (g.G.Guard.inner_law c.args.self.now.guard c.write_at.new.self) c.write_at.ensures.unique }

pub returns-clause-old : goal.returns-clause-old
returns-clause-old g c =
    let v = c.write_at.ensures.old in
    v.2 ∙ ap (λ p. p.1) (pair-is c.args.self.now c.lend.result.now v.0 c.lend.ensures.value v.1)

pub returns-clause-step : goal.returns-clause-step
returns-clause-step g c = written-after c.args.self.now c.lend.result.now c.write_at.new.self c.args.value c.lend.ensures.value c.write_at.ensures.new _ _

pub returns-clause-kept : goal.returns-clause-kept
returns-clause-kept g c =
    let v = c.write_at.ensures.old in
    subst (λ (q : g.row.K.Denot × g.row.V.Denot). g.R.Rule.holds q.0 c.write_at.result) (pair-is c.args.self.now c.lend.result.now v.0 c.lend.ensures.value v.1) (subst (λ (x : g.row.V.Denot). g.R.Rule.holds v.0.0 x) (sym v.2) v.3)

pub returns-clause-written : goal.returns-clause-written
returns-clause-written g c =
    let unique : IsUnique g.K.PartialEq.eq (g.G.Guard.inner (g.G.Guard.with_inner c.args.self.now.guard c.write_at.new.self)) = rw (g.G.Guard.inner_law c.args.self.now.guard c.write_at.new.self) c.write_at.ensures.unique in
    (written-after c.args.self.now c.lend.result.now c.write_at.new.self c.args.value c.lend.ensures.value c.write_at.ensures.new _ unique).at.here

pub returns-clause-waiting : goal.returns-clause-waiting
returns-clause-waiting g c = waiting-after c.args.self.now c.lend.result.now c.write_at.new.self c.args.value c.lend.ensures.value c.write_at.ensures.new

pub write_at-requires-clause-kept : goal.write_at-requires-clause-kept
write_at-requires-clause-kept g c = λ p got. subst (λ (q : g.row.K.Denot × g.row.V.Denot). g.R.Rule.holds q.0 c.args.value) (sym (pair-is c.args.self.now c.lend.result.now p c.lend.ensures.value got)) c.requires
