use Rattle.std.proofs.Common.{sym, subst}
use Rattle.std.specs.Fn.{FnOnceReturnsAtMut, FnOnceTakesAtMut}
use Rattle.scc_owned_cache.proofs.Entries.{pair-is, within-after, written-after}
use Rattle.scc_owned_cache.proofs.held.HeldOccupied.modify.Goals as goal

pub modify_at-requires-clause-callable : goal.modify_at-requires-clause-callable
modify_at-requires-clause-callable g c = λ p got kept.
    let same = pair-is c.args.self.now c.lend.result.now p c.lend.ensures.value got in
    subst (λ (q : g.row.K.Denot × g.row.V.Denot). FnOnceTakesAtMut g.F.FnOnce c.args.f q.1) (sym same) (c.requires.callable (subst (λ (q : g.row.K.Denot × g.row.V.Denot). g.R.Rule.holds q.0 q.1) same kept))

pub modify_at-requires-clause-keeps : goal.modify_at-requires-clause-keeps
modify_at-requires-clause-keeps g c = λ p r w got kept gives.
    let same = pair-is c.args.self.now c.lend.result.now p c.lend.ensures.value got in
    subst (λ (q : g.row.K.Denot × g.row.V.Denot). g.R.Rule.holds q.0 w) (sym same) (c.requires.keeps r w (subst (λ (q : g.row.K.Denot × g.row.V.Denot). g.R.Rule.holds q.0 q.1) same kept) (subst (λ (q : g.row.K.Denot × g.row.V.Denot). FnOnceReturnsAtMut g.F.FnOnce c.args.f q.1 r w) same gives))

pub invariant_of-self : goal.invariant_of-self
invariant_of-self g c = let s = c.modify_at.ensures.step in record { within = within-after c.args.self.now c.lend.result.now c.modify_at.new.self s.1 c.lend.ensures.value s.4 }

pub returns : goal.returns
returns g c =
    let s = c.modify_at.ensures.step in
    let same = pair-is c.args.self.now c.lend.result.now s.0 c.lend.ensures.value s.2 in
    record { answer = (s.1, subst (λ (q : g.row.K.Denot × g.row.V.Denot). FnOnceReturnsAtMut g.F.FnOnce c.args.f q.1 c.modify_at.result s.1) same s.3, written-after c.args.self.now c.lend.result.now c.modify_at.new.self s.1 c.lend.ensures.value s.4 _) }
