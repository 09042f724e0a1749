use Rattle.std.proofs.Common.{refl, ◌≡◌, ◌+◌, ◌==◌, arith, length, None, ap, sym, ◌∙◌, inl, inr, map, length-set, bit_and}
use Rattle.std.proofs.lemmas.List.{get_or-set_other, length-map}
use Rattle.std.specs.Int.{bit_at, bit_not, w32}
use lib.Lanes.{mask_l}
use Rattle.scc_array.proofs.Picking.{picks-start, picks-within, picks-entry, picks-some, picks-room, picks-out, picks-left, picks-moved, picked-bit, picked-only}
use Rattle.scc_array.proofs.sifting.pick.Goals as goal
use Rattle.scc_array.specs.Sifts.{raised}

pub picked-init : goal.picked-init
picked-init g c = record {
  picks = λ w at.
      let fs = raised c.args.flags.now in
      let many : length fs ≡ 32 = length-map c.args.flags.now (λ x. x == 1) ∙ c.told-flags in
      let both : bit_and (bit_not w32 (mask_l (map (λ x. x == 0) c.args.row.now))) (mask_l fs) ≡ bit_and (bit_not w32 c.tag_mask.result) c.tag_mask-2.result = rw (c.tag_mask.ensures, c.tag_mask-2.ensures) refl in
      picks-start fs c.args.base c.args.target w c.args.into.now c.args.first c.args.slots.now c.args.row.now _ c.requires.first at
      (λ k l e. ap (λ b. bit_at b k) (sym both) ∙ picked-bit c.args.row.now c.told-row fs many c.args.base c.args.slots.now w at k l e)
      (λ k e. picked-only c.args.row.now c.told-row fs many c.args.base c.args.slots.now w at k (ap (λ b. bit_at b k) both ∙ e));
  count = refl;
  wide = refl;
  others = λ q o. refl;
}

pub take-entry-requires : goal.take-entry-requires
take-entry-requires g c =
    let w = c.requires.entry_count.0 in let at = c.requires.entry_count.1 in
    let e = picks-entry (raised c.args.flags.now) c.args.base c.args.target w c.args.into.now c.args.first at.same at.most c.picked.slots c.picked.row c.picked.into c.picked.bits c.picked.next (c.picked.invariant.picks w at) c.lowest_bit-p.result c.lowest_bit-p.ensures.set in
    (e.0, e.1)

pub push_at-requires-clause-room : goal.push_at-requires-clause-room
push_at-requires-clause-room g c =
    let w = c.requires.entry_count.0 in let at = c.requires.entry_count.1 in
    picks-room (raised c.args.flags.now) c.args.base c.args.target w c.args.into.now c.args.first at.same at.most c.picked.slots c.picked.row c.picked.into c.picked.bits c.picked.next (c.picked.invariant.picks w at) c.lowest_bit-p.result c.lowest_bit-p.ensures.set c.requires.entry_count.2

pub push_at-requires-clause-tag : goal.push_at-requires-clause-tag
push_at-requires-clause-tag g c =
    let w = c.requires.entry_count.0 in let at = c.requires.entry_count.1 in
    picks-some (raised c.args.flags.now) c.args.base c.args.target w c.args.into.now c.args.first at.same at.most c.picked.slots c.picked.row c.picked.into c.picked.bits c.picked.next (c.picked.invariant.picks w at) c.lowest_bit-p.result c.lowest_bit-p.ensures.set

pub overflow_add-next : goal.overflow_add-next
overflow_add-next g c =
    let w = c.requires.entry_count.0 in let at = c.requires.entry_count.1 in
    let r = picks-room (raised c.args.flags.now) c.args.base c.args.target w c.args.into.now c.args.first at.same at.most c.picked.slots c.picked.row c.picked.into c.picked.bits c.picked.next (c.picked.invariant.picks w at) c.lowest_bit-p.result c.lowest_bit-p.ensures.set c.requires.entry_count.2 in
    record { fits = omega arith }

pub picked-preserved : goal.picked-preserved
picked-preserved g c =
    let w = c.requires.entry_count.0 in let at = c.requires.entry_count.1 in
    let p = c.lowest_bit-p.result in
    let within = picks-within (raised c.args.flags.now) c.args.base c.args.target w c.args.into.now c.args.first at.same at.most c.picked.slots c.picked.row c.picked.into c.picked.bits c.picked.next (c.picked.invariant.picks w at) c.lowest_bit-p.result c.lowest_bit-p.ensures.set in
    record {
      picks = λ v here.
          let more = picks-out (raised c.args.flags.now) c.args.base c.args.target v c.args.into.now c.args.first here.same here.most c.picked.slots c.picked.row c.picked.into c.picked.bits c.picked.next (c.picked.invariant.picks v here) c.lowest_bit-p.result c.lowest_bit-p.ensures.set c.lowest_bit-p.ensures.first (omega arith) (omega arith) c.requires.target
          c.take-entry.result c.take-entry.ensures.entry c.push_at.new.self c.push_at.ensures c.without_lowest_bit-bits.result
          (λ k b ne. c.without_lowest_bit-bits.ensures.others k b (λ z. ne (z ∙ sym c.lowest_bit-p.ensures.value))) (λ k b. let o = c.without_lowest_bit-bits.ensures.only k b in (o.0, λ z. o.1 (z ∙ c.lowest_bit-p.ensures.value))) in
          rw c.take-entry.ensures.cells more;
      count = rw c.take-entry.ensures.cells (length-set c.picked.slots (c.args.base + p) None ∙ c.picked.invariant.count);
      wide = length-set c.picked.row p 0 ∙ c.picked.invariant.wide;
      others = λ q o. rw c.take-entry.ensures.cells (get_or-set_other c.picked.slots (c.args.base + p) q None None (λ z. elim o [ inl a ↦ omega arith | inr a ↦ omega arith ]) ∙ c.picked.invariant.others q o);
    }

pub returns-clause-left : goal.returns-clause-left
returns-clause-left g c = λ w at.
    picks-left (raised c.args.flags.now) c.args.base c.args.target w c.args.into.now c.args.first at.same at.most c.picked.slots c.picked.row c.picked.into c.picked.bits c.picked.next (c.picked.invariant.picks w at) c.picked-test.false (length-map c.args.flags.now (λ x. x == 1) ∙ c.told-flags)

pub returns-clause-moved : goal.returns-clause-moved
returns-clause-moved g c = λ w at.
    picks-moved (raised c.args.flags.now) c.args.base c.args.target w c.args.into.now c.args.first at.same at.most c.picked.slots c.picked.row c.picked.into c.picked.bits c.picked.next (c.picked.invariant.picks w at) c.picked-test.false
