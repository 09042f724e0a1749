use Rattle.std.proofs.Common.{arith, sym, ◌∙◌, inl, inr, refl}
use Rattle.scc_array.proofs.Picking.{ranks-start, ranks-within, ranks-entry, ranks-free, ranks-stay, ranks-kept}
use Rattle.scc_array.proofs.sifting.close_gaps.Goals as goal

pub ranks-init : goal.ranks-init
ranks-init g c = record {
  ranks = λ fs w left k. ranks-start fs c.args.base w c.args.slots.now c.args.row.now left c.args.bits k;
  count = refl;
  wide = refl;
  others = λ q o. refl;
}

pub move_up-requires-clause-order : goal.move_up-requires-clause-order
move_up-requires-clause-order g c =
    let h = c.requires.entry_count in
    (ranks-within h.0 c.args.base h.1 c.args.slots.now c.args.row.now h.2 c.ranks.slots c.ranks.row c.ranks.rest c.ranks.stays (c.ranks.invariant.ranks h.0 h.1 h.2 h.3) c.lowest_bit-p.result c.lowest_bit-p.ensures.set c.lowest_bit-p.ensures.first).1

pub move_up-requires-clause-cells : goal.move_up-requires-clause-cells
move_up-requires-clause-cells g c =
    let h = c.requires.entry_count in
    (ranks-within h.0 c.args.base h.1 c.args.slots.now c.args.row.now h.2 c.ranks.slots c.ranks.row c.ranks.rest c.ranks.stays (c.ranks.invariant.ranks h.0 h.1 h.2 h.3) c.lowest_bit-p.result c.lowest_bit-p.ensures.set c.lowest_bit-p.ensures.first).0

pub move_up-requires-clause-small : goal.move_up-requires-clause-small
move_up-requires-clause-small g c =
    let h = c.requires.entry_count in
    let r = ranks-within h.0 c.args.base h.1 c.args.slots.now c.args.row.now h.2 c.ranks.slots c.ranks.row c.ranks.rest c.ranks.stays (c.ranks.invariant.ranks h.0 h.1 h.2 h.3) c.lowest_bit-p.result c.lowest_bit-p.ensures.set c.lowest_bit-p.ensures.first in
    omega arith

pub move_up-requires-clause-within : goal.move_up-requires-clause-within
move_up-requires-clause-within g c =
    let h = c.requires.entry_count in
    let r = ranks-within h.0 c.args.base h.1 c.args.slots.now c.args.row.now h.2 c.ranks.slots c.ranks.row c.ranks.rest c.ranks.stays (c.ranks.invariant.ranks h.0 h.1 h.2 h.3) c.lowest_bit-p.result c.lowest_bit-p.ensures.set c.lowest_bit-p.ensures.first in
    omega arith

pub move_up-requires-clause-filled : goal.move_up-requires-clause-filled
move_up-requires-clause-filled g c =
    let h = c.requires.entry_count in
    let e = ranks-entry h.0 c.args.base h.1 c.args.slots.now c.args.row.now h.2 c.ranks.slots c.ranks.row c.ranks.rest c.ranks.stays (c.ranks.invariant.ranks h.0 h.1 h.2 h.3) c.lowest_bit-p.result c.lowest_bit-p.ensures.set c.lowest_bit-p.ensures.first in
    (e.0, e.1)

pub move_up-requires-clause-free : goal.move_up-requires-clause-free
move_up-requires-clause-free g c =
    let h = c.requires.entry_count in
    ranks-free h.0 c.args.base h.1 c.args.slots.now c.args.row.now h.2 c.ranks.slots c.ranks.row c.ranks.rest c.ranks.stays (c.ranks.invariant.ranks h.0 h.1 h.2 h.3) c.lowest_bit-p.result c.lowest_bit-p.ensures.set c.lowest_bit-p.ensures.first

pub overflow_add-stays : goal.overflow_add-stays
overflow_add-stays g c =
    let h = c.requires.entry_count in
    let r = ranks-within h.0 c.args.base h.1 c.args.slots.now c.args.row.now h.2 c.ranks.slots c.ranks.row c.ranks.rest c.ranks.stays (c.ranks.invariant.ranks h.0 h.1 h.2 h.3) c.lowest_bit-p.result c.lowest_bit-p.ensures.set c.lowest_bit-p.ensures.first in
    record { fits = omega arith }

pub ranks-preserved : goal.ranks-preserved
ranks-preserved g c =
    let h = c.requires.entry_count in
    let p = c.lowest_bit-p.result in
    let r = ranks-within h.0 c.args.base h.1 c.args.slots.now c.args.row.now h.2 c.ranks.slots c.ranks.row c.ranks.rest c.ranks.stays (c.ranks.invariant.ranks h.0 h.1 h.2 h.3) c.lowest_bit-p.result c.lowest_bit-p.ensures.set c.lowest_bit-p.ensures.first in
    record {
      ranks = λ fs w left k. ranks-stay fs c.args.base w c.args.slots.now c.args.row.now left c.ranks.slots c.ranks.row c.ranks.rest c.ranks.stays (c.ranks.invariant.ranks fs w left k) c.lowest_bit-p.result c.lowest_bit-p.ensures.set c.lowest_bit-p.ensures.first
          c.move_up.new.slots c.move_up.new.row c.move_up.ensures.entries c.move_up.ensures.tags c.without_lowest_bit-rest.result
          (λ k b ne. c.without_lowest_bit-rest.ensures.others k b (λ z. ne (z ∙ sym c.lowest_bit-p.ensures.value))) (λ k b. let o = c.without_lowest_bit-rest.ensures.only k b in (o.0, λ z. o.1 (z ∙ c.lowest_bit-p.ensures.value)));
      count = c.move_up.ensures.entries.count ∙ c.ranks.invariant.count;
      wide = c.move_up.ensures.tags.count ∙ c.ranks.invariant.wide;
      others = λ q o. c.move_up.ensures.entries.others q (λ z. elim o [ inl a ↦ omega arith | inr a ↦ omega arith ]) (λ z. elim o [ inl b ↦ omega arith | inr b ↦ omega arith ]) ∙ c.ranks.invariant.others q o;
    }

pub returns-clause-stays : goal.returns-clause-stays
returns-clause-stays g c = λ fs w left k.
    ranks-kept fs c.args.base w c.args.slots.now c.args.row.now left c.ranks.slots c.ranks.row c.ranks.rest c.ranks.stays (c.ranks.invariant.ranks fs w left k) c.ranks-test.false
