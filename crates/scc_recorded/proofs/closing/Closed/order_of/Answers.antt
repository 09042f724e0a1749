use Rattle.std.proofs.Common.{rules, ◌≡◌, map, length, arith}
use Rattle.std.proofs.lemmas.List.{length-map}
use Rattle.scc_history.specs.Orders.{steps_at}
use Rattle.scc_history.specs.Receipts.{calls_of, seen}
use Rattle.scc_history.proofs.Along.{stands}
use Rattle.scc_recorded.proofs.Causes.{same_disagreement, same_place}
use Rattle.scc_recorded.proofs.ComparingLemmas.{match_listed, differs_listed}
use Rattle.scc_recorded.proofs.closing.Closed.order_of.Goals as goal

pub records_by_pass-requires : goal.records_by_pass-requires
records_by_pass-requires g c =
    let hs = map (λ s. s.stripe.history.items) c.args.self.now.stripes.items in
    let order = rw c.as_slice-2.ensures.value at c.in-Ok-stamp_order.ensures in
    rw (c.as_slice-3.ensures.value, c.as_slice-4.ensures.value) (stands hs c.in-Ok-stamp_order.order.items order.0.0)

pub first_disagreement-requires : goal.first_disagreement-requires
first_disagreement-requires g c =
    let all = c.in-Ok.ensures.0 c.if-not-complete.false in
    let n : length c.as_slice-5.result.now ≡ c.args.self.now.passes = omega (arith, c.as_slice-5.ensures.len, c.in-Ok-records_by_pass.ensures.len) in
    rw n all.1

pub returns-clause-complete : goal.returns-clause-complete
returns-clause-complete g c = c.in-Ok.ensures.0 c.if-not-complete.false

pub returns-clause-order : goal.returns-clause-order
returns-clause-order g c = rw c.as_slice-2.ensures.value at c.in-Ok-stamp_order.ensures

pub returns-clause-receipts : goal.returns-clause-receipts
returns-clause-receipts g c =
    let all = c.in-Ok.ensures.0 c.if-not-complete.false in
    let hs = map (λ s. s.stripe.history.items) c.args.self.now.stripes.items in
    let records = rw (c.as_slice-3.ensures.value, c.as_slice-4.ensures.value) at c.in-Ok-records_by_pass.ensures.records in
    match_listed g.C.Call.PartialEq.eq g.C.Reply.PartialEq.eq (λ p. p.log.number) (λ p. p.log.receipts.items) c.args.passes.now (λ v. map seen v.items) c.in-Ok-records_by_pass.records.items (λ n. calls_of n (steps_at hs c.in-Ok-stamp_order.order.items)) c.args.self.now.passes all.1 (omega (arith, c.in-Ok-records_by_pass.ensures.len)) records
    (rw c.as_slice-5.ensures.value at c.in_default-first_disagreement.ensures.none)

pub returns-in-Some-first_disagreement-clause-refused : goal.returns-in-Some-first_disagreement-clause-refused
returns-in-Some-first_disagreement-clause-refused g c =
    let all = c.in-Ok.ensures.0 c.if-not-complete.false in
    let hs = map (λ s. s.stripe.history.items) c.args.self.now.stripes.items in
    let records = rw (c.as_slice-3.ensures.value, c.as_slice-4.ensures.value) at c.in-Ok-records_by_pass.ensures.records in
    let d = differs_listed g.C.Call.PartialEq.eq g.C.Reply.PartialEq.eq (λ p. p.log.number) (λ p. p.log.receipts.items) c.args.passes.now (λ v. map seen v.items) c.in-Ok-records_by_pass.records.items (λ n. calls_of n (steps_at hs c.in-Ok-stamp_order.order.items)) c.args.self.now.passes all.1 (omega (arith, c.in-Ok-records_by_pass.ensures.len)) records c.in-Some-first_disagreement.pass c.in-Some-first_disagreement.receipt
    (rw c.as_slice-5.ensures.value at c.in-Some-first_disagreement.ensures.some) in
    let long : length (map (λ s. s.stripe.history.items) c.args.self.now.stripes.items) ≡ length c.args.self.now.stripes.items = simp length-map in
    record {
      missing = search rules;
      misrouted = search rules;
      disagrees = λ n k e.
          let same = same_disagreement c.in-Some-first_disagreement.pass c.in-Some-first_disagreement.receipt n k e in
          (all, rw long (rw c.as_slice.ensures.value at c.in_default-misrouted.ensures.none), ∣ (c.in-Ok-stamp_order.order.items, rw c.as_slice-2.ensures.value at c.in-Ok-stamp_order.ensures, rw (same.0, same.1) at d) ∣₁);
    }

pub returns-in-Some-clause-refused : goal.returns-in-Some-clause-refused
returns-in-Some-clause-refused g c =
    let long : length (map (λ s. s.stripe.history.items) c.args.self.now.stripes.items) ≡ length c.args.self.now.stripes.items = simp length-map in
    record {
      missing = search rules;
      misrouted = λ i j e.
          let same = same_place c.in-Some.stripe c.in-Some.index i j e in
          (c.in-Ok.ensures.0 c.if-not-complete.false, rw (long, ← same.0, ← same.1) (rw c.as_slice.ensures.value at c.in-Some.ensures.some));
      disagrees = search rules;
    }
