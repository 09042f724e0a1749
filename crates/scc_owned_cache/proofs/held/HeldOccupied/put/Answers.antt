use Rattle.std.proofs.Common.{ap, ◌∙◌, sym, subst}
use Rattle.scc_owned_cache.proofs.Entries.{within-after, written-after, pair-is}
use Rattle.scc_owned_cache.proofs.held.HeldOccupied.put.Goals as goal

pub invariant_of-self : goal.invariant_of-self
invariant_of-self g c = record { within = within-after c.args.self.now c.lend.result.now c.write_at.new.self c.args.value c.lend.ensures.value c.write_at.ensures.new }

pub returns-clause-old : goal.returns-clause-old
returns-clause-old g c =
    let v = c.write_at.ensures.old in
    v.2 ∙ ap (λ p. p.1) (pair-is c.args.self.now c.lend.result.now v.0 c.lend.ensures.value v.1)

pub write_at-requires-clause-kept : goal.write_at-requires-clause-kept
write_at-requires-clause-kept g c = λ p got. subst (λ (q : g.row.K.Denot × g.row.V.Denot). g.R.Rule.holds q.0 c.args.value) (sym (pair-is c.args.self.now c.lend.result.now p c.lend.ensures.value got)) c.requires

pub returns-clause-kept : goal.returns-clause-kept
returns-clause-kept g c =
    let v = c.write_at.ensures.old in
    let same = pair-is c.args.self.now c.lend.result.now v.0 c.lend.ensures.value v.1 in
    rw v.2 (subst (λ (q : g.row.K.Denot × g.row.V.Denot). g.R.Rule.holds q.0 v.0.1) same v.3)

pub returns-clause-written : goal.returns-clause-written
returns-clause-written g c = written-after c.args.self.now c.lend.result.now c.write_at.new.self c.args.value c.lend.ensures.value c.write_at.ensures.new _
