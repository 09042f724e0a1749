use Rattle.std.proofs.Common.{◌≡◌, ◌∙◌, sym, subst}
use Rattle.scc_owned.specs.Held.{occupied_pair}
use Rattle.scc_owned.proofs.IndexEntries.{within-after, updated-after, waiting-after}
use Rattle.scc_owned.proofs.HeldEntries.{pair-is}
use Rattle.scc_owned.proofs.RuledVersions.{updated-value}
use Rattle.scc_owned.proofs.ruled_index.entry_calls.HeldOccupied+G+N+RuledVersion+K+V+R+H.update.Goals as goal

pub invariant_of-self : goal.invariant_of-self
invariant_of-self g c = record { within = within-after c.args.self.now c.lend.result.now c.replace_at.new.self c.in-Ok.version c.lend.ensures.value c.replace_at.ensures.new; unique = rw (g.G.Guard.inner_law c.args.self.now.guard c.replace_at.new.self) c.replace_at.ensures.unique }

pub returns-in-Ok-clause-updated : goal.returns-in-Ok-clause-updated
returns-in-Ok-clause-updated g c =
    let e = c.in-Ok.version in
    let v = c.in-Ok.ensures.made in
    let pair : v.0 ≡ occupied_pair c.args.self.now = pair-is c.args.self.now c.look.result.now v.0 c.look.ensures v.1 in
    let is : c.look.result.now ≡ c.lend.result.now = c.look.ensures ∙ sym c.lend.ensures.value in
    updated-value g.K.Clone.is_clone g.K.PartialEq.eq c.args.self.now _ e.1 c.args.value v.4 (updated-after g.K.Clone.is_clone g.met.K.Eq.laws c.args.self.now c.lend.result.now c.replace_at.new.self e c.lend.ensures.value c.replace_at.ensures.new (rw (← pair) v.2) (rw (← pair) v.3) (rw (← is) c.in-Ok.ensures.unique) _ _)

pub returns-in-Ok-clause-waiting : goal.returns-in-Ok-clause-waiting
returns-in-Ok-clause-waiting g c = waiting-after c.args.self.now c.lend.result.now c.replace_at.new.self c.in-Ok.version c.lend.ensures.value c.replace_at.ensures.new

pub replace_at-requires-clause-within : goal.replace_at-requires-clause-within
replace_at-requires-clause-within g c = rw c.lend.ensures.value c.args.self.now.within

pub replace_at-requires-clause-kept : goal.replace_at-requires-clause-kept
replace_at-requires-clause-kept g c =
    let e = c.in-Ok.version in
    let v = c.in-Ok.ensures.made in
    let pair : v.0 ≡ occupied_pair c.args.self.now = pair-is c.args.self.now c.look.result.now v.0 c.look.ensures v.1 in
    let kept = subst (λ (q : g.row.K.Denot × g.row.V.Denot). g.R.Rule.holds q.0 c.args.value) (sym pair) c.requires in
    let own = g.met.R.Rule.alike v.0.0 e.0 c.args.value (g.met.K.Eq.laws.symm v.0.0 e.0 ∙ v.3) kept in
    subst (λ (x : g.row.V.Denot). g.R.Rule.holds e.0 x) (sym v.4) own
