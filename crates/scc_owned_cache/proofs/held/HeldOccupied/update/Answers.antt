use Rattle.std.proofs.Common.{◌∙◌, sym, subst}
use Rattle.scc_common.specs.Closures.{WritesAt}
use Rattle.scc_owned_cache.proofs.Entries.{pair-is, within-after, written-after}
use Rattle.scc_owned_cache.proofs.held.HeldOccupied.update.Goals as goal

pub update_at-requires-clause-callable : goal.update_at-requires-clause-callable
update_at-requires-clause-callable g c = λ p got kept a b shows.
    let same = pair-is c.args.self.now c.lend.result.now p c.lend.ensures.value got in
    c.requires.callable a b (shows ∙ same) (subst (λ (q : g.row.K.Denot × g.row.V.Denot). g.R.Rule.holds q.0 q.1) (sym shows) kept)

pub update_at-requires-clause-keeps : goal.update_at-requires-clause-keeps
update_at-requires-clause-keeps g c = λ p r w got kept gives.
    let same = pair-is c.args.self.now c.lend.result.now p c.lend.ensures.value got in
    subst (λ (q : g.row.K.Denot × g.row.V.Denot). g.R.Rule.holds q.0 w) (sym same) (c.requires.keeps r w (subst (λ (q : g.row.K.Denot × g.row.V.Denot). g.R.Rule.holds q.0 q.1) same kept) (subst (λ q. WritesAt g.F.FnOnce c.args.f q r w) same gives))

pub invariant_of-self : goal.invariant_of-self
invariant_of-self g c = let s = c.update_at.ensures.step in record { within = within-after c.args.self.now c.lend.result.now c.update_at.new.self s.1 c.lend.ensures.value s.4 }

pub returns-clause-answer : goal.returns-clause-answer
returns-clause-answer g c =
    let s = c.update_at.ensures.step in
    let same = pair-is c.args.self.now c.lend.result.now s.0 c.lend.ensures.value s.2 in
    (s.1, subst (λ q. WritesAt g.F.FnOnce c.args.f q c.update_at.result s.1) same s.3, written-after c.args.self.now c.lend.result.now c.update_at.new.self s.1 c.lend.ensures.value s.4 _)

pub returns-clause-kept : goal.returns-clause-kept
returns-clause-kept g c =
    let s = c.update_at.ensures.step in
    let same = pair-is c.args.self.now c.lend.result.now s.0 c.lend.ensures.value s.2 in
    subst (λ (q : g.row.K.Denot × g.row.V.Denot). g.R.Rule.holds q.0 q.1) same s.5
