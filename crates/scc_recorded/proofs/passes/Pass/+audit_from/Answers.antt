use Rattle.std.proofs.Common.{rules, ◌≡◌, ◌++◌, ap, ◌∙◌, sym, refl, arith, set}
use Rattle.std.proofs.lemmas.List.{get_or-set_same}
use Rattle.scc_recorded.proofs.Same.{pass-same}
use Rattle.scc_recorded.proofs.passes.Pass.+audit_from.Goals as goal

pub returns-clause-passes : goal.returns-clause-passes
returns-clause-passes g t c =
    let was = c.index-front-0.result in
    let is = c.index-front-0.is in
    let parts : c.give-2.new.to.parts ≡ was.ledger.parts = omega (arith, was.part, ap (λ x. x.ledger.parts) is, c.give.ensures.parts_left, c.give-2.ensures.parts_given) in
    let amount : c.give-2.new.to.amount ≡ was.ledger.amount = omega (arith, was.counted, ap (λ x. x.ledger.amount) is, c.give.ensures.amount_left, c.give-2.ensures.amount_given) in
    let ledger : c.give-2.new.to ≡ was.ledger = rw (← parts, ← amount) refl in
    ap (λ z. set c.split_at_mut-front.result.0.now 0 z ++ c.audit_from.new.passes) (pass-same was _ (ap (λ x. x.log) (sym is)) ledger) ∙ search (rules, is, c.audit_from.ensures.passes, c.split_at_mut-front.ensures.value, get_or-set_same)
