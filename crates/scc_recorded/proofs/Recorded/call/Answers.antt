use Rattle.std.proofs.Common.{◌≡◌, Some, sym, ◌∙◌}
use Rattle.scc_recorded.proofs.Adding.{when_ok}
use Rattle.scc_recorded.proofs.Recorded.call.Goals as goal

pub returns-clause-refused : goal.returns-clause-refused
returns-clause-refused g c e = c.call_locked.ensures.refused e

pub returns-clause-receipt : goal.returns-clause-receipt
returns-clause-receipt g c = when_ok _ _ c.call_locked.result c.call_locked.ensures.ok (λ r p. (
  p.0,
  λ k e.
      let is : g.C.Calls.key_of c.args.call ≡ Some c.in-Some.key.now = c.in-Some.ensures in
      let found : Some c.in-Some.key.now ≡ Some k = sym is ∙ e in
      let same : c.in-Some.key.now ≡ k = cc in
      rw (c.locked_stripe.ensures, c.route-place.ensures.value, same) at p.1,
))
