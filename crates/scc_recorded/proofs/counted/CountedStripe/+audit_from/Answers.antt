use Rattle.std.proofs.Common.{rules, ◌≡◌, ◌++◌, ap, ◌∙◌, sym, refl, arith, set}
use Rattle.std.proofs.lemmas.List.{set-get_or}
use Rattle.scc_recorded.proofs.Same.{guarded-same}
use Rattle.scc_recorded.proofs.counted.CountedStripe.+audit_from.Goals as goal

pub invariant_of-first : goal.invariant_of-first
invariant_of-first g t c =
    let was = c.index-front-0.result in
    let is = c.index-front-0.is in
    record {
      placed = rw (← is) was.placed;
      part = omega (arith, was.part, ap (λ x. x.ledger.parts) is, c.give.ensures.parts_left, c.give-2.ensures.parts_given);
      counted = rw (← is) (omega (arith, was.counted, ap (λ x. x.ledger.amount) is, c.give.ensures.amount_left, c.give-2.ensures.amount_given));
    }

pub returns-clause-stripes : goal.returns-clause-stripes
returns-clause-stripes g t c =
    let was = c.index-front-0.result in
    let is = c.index-front-0.is in
    let parts : c.give-2.new.to.parts ≡ was.ledger.parts = omega (arith, was.part, ap (λ x. x.ledger.parts) is, c.give.ensures.parts_left, c.give-2.ensures.parts_given) in
    let amount : c.give-2.new.to.amount ≡ was.ledger.amount = omega (arith, was.counted, ap (λ x. x.ledger.amount) is, c.give.ensures.amount_left, c.give-2.ensures.amount_given) in
    let ledger : c.give-2.new.to ≡ was.ledger = rw (← parts, ← amount) refl in
    let front = c.split_at_mut-front.result.0.now in
    let rest = c.audit_from.new.stripes in
    ap (λ z. set front 0 z ++ rest) (guarded-same was _ (ap (λ x. x.stripe) (sym is)) ledger) ∙ ap (λ z. set front 0 z ++ rest) is ∙ ap (λ l. l ++ rest) (set-get_or front 0 was) ∙ search (rules, c.audit_from.ensures.stripes, c.split_at_mut-front.ensures.value)
