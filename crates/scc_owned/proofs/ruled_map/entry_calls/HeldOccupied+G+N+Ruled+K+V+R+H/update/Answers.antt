use Rattle.std.proofs.Common.{sym, subst}
use Rattle.scc_common.specs.Closures.{TakesAt, WritesAt}
use Rattle.scc_common.specs.Rules.{IsKept}
use Rattle.scc_owned.proofs.HeldEntries.{pair-is}
use Rattle.scc_owned.proofs.MapEntries.{within-after, written-after, waiting-after}
use Rattle.scc_owned.proofs.ruled_map.entry_calls.HeldOccupied+G+N+Ruled+K+V+R+H.update.Goals as goal

pub update_at-requires-clause-callable : goal.update_at-requires-clause-callable
update_at-requires-clause-callable g c = λ p got kept.
    let is = pair-is c.args.self.now c.lend.result.now p c.lend.ensures.value got in
    subst (λ (q : g.row.K.Denot × g.row.V.Denot). TakesAt g.F.FnOnce c.args.f q) (sym is) (c.requires.callable (subst (IsKept g.R.Rule.holds) is kept))

pub update_at-requires-clause-keeps : goal.update_at-requires-clause-keeps
update_at-requires-clause-keeps g c = λ p r w got kept gave.
    let is = pair-is c.args.self.now c.lend.result.now p c.lend.ensures.value got in
    subst (λ (q : g.row.K.Denot × g.row.V.Denot). g.R.Rule.holds q.0 w) (sym is) (c.requires.keeps r w (subst (IsKept g.R.Rule.holds) is kept) (subst (λ (q : g.row.K.Denot × g.row.V.Denot). WritesAt g.F.FnOnce c.args.f q r w) is gave))

pub invariant_of-self : goal.invariant_of-self
invariant_of-self g c =
    let x = c.update_at.ensures.step in
    record { within = within-after c.args.self.now c.lend.result.now c.update_at.new.self x.1 c.lend.ensures.value x.5; unique = rw (g.G.Guard.inner_law c.args.self.now.guard c.update_at.new.self) c.update_at.ensures.unique }

pub returns-clause-answer : goal.returns-clause-answer
returns-clause-answer g c =
    let x = c.update_at.ensures.step in
    let is = pair-is c.args.self.now c.lend.result.now x.0 c.lend.ensures.value x.2 in
    let written = written-after c.args.self.now c.lend.result.now c.update_at.new.self x.1 c.lend.ensures.value x.5 _ _ in
    (x.1, subst (λ (q : g.row.K.Denot × g.row.V.Denot). WritesAt g.F.FnOnce c.args.f q c.update_at.result x.1) is x.4, written.at.here, written)

pub returns-clause-kept : goal.returns-clause-kept
returns-clause-kept g c =
    let x = c.update_at.ensures.step in
    subst (IsKept g.R.Rule.holds) (pair-is c.args.self.now c.lend.result.now x.0 c.lend.ensures.value x.2) x.3

pub returns-clause-waiting : goal.returns-clause-waiting
returns-clause-waiting g c =
    let x = c.update_at.ensures.step in
    waiting-after c.args.self.now c.lend.result.now c.update_at.new.self x.1 c.lend.ensures.value x.5
