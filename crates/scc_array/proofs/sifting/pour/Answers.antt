use Rattle.std.proofs.Common.{◌≡◌, ◌+◌, ◌<◌, arith, length, None, Some, true, false, ap, ◌∙◌, inl, inr, length-set}
use Rattle.std.proofs.lemmas.List.{get_or-replicate, get_or-set_other}
use Rattle.std.proofs.lemmas.Option.{slice_get-get_or}
use Rattle.std.specs.List.{slice_get}
use Rattle.scc_array.proofs.Parting.{sifted-entry, sifted-some, sifts-out, sifts-kept, sifts-moved}
use Rattle.scc_array.proofs.sifting.pour.Goals as goal
use Rattle.scc_array.specs.Sifts.{all_raised}

pub take-entry-requires : goal.take-entry-requires
take-entry-requires g c =
    let w = c.requires.entry_count.0 in let at = c.requires.entry_count.1 in let entry_count = c.requires.entry_count.2 in
    let e = sifted-entry all_raised c.args.base c.args.target c.args.first w c.args.into.now c.args.slots.now c.args.row.now at c.loop-p.slots c.loop-p.row c.loop-p.into c.loop-p.p 0 c.loop-p.next (c.loop-p.invariant.sifts w at entry_count) (omega (arith, c.loop-p-test.true)) in
    (e.0, e.1)

pub push_at-requires-clause-tag : goal.push_at-requires-clause-tag
push_at-requires-clause-tag g c =
    let w = c.requires.entry_count.0 in let at = c.requires.entry_count.1 in let entry_count = c.requires.entry_count.2 in
    sifted-some all_raised c.args.base c.args.target c.args.first w c.args.into.now c.args.slots.now c.args.row.now at c.loop-p.slots c.loop-p.row c.loop-p.into c.loop-p.p 0 c.loop-p.next (c.loop-p.invariant.sifts w at entry_count) (omega (arith, c.loop-p-test.true))

pub loop-p-preserved : goal.loop-p-preserved
loop-p-preserved g c =
    let p = c.loop-p.p in
    record {
      sifts = λ v at entry_count.
          let s = c.loop-p.invariant.sifts v at entry_count in
          let l : p < length v.slots = omega (arith, c.loop-p-test.true) in
          let few : p < 32 = let m = at.most in omega arith in
          let up : slice_get all_raised p ≡ Some true = slice_get-get_or all_raised p false few ∙ ap Some (get_or-replicate 32 p true false few) in
          let more = sifts-out all_raised c.args.base c.args.target c.args.first v c.args.into.now c.args.slots.now c.args.row.now at c.loop-p.slots c.loop-p.row c.loop-p.into p 0 c.loop-p.next s l up (omega arith) (omega arith) c.requires.target
          c.take-entry.result c.take-entry.ensures.entry c.push_at.new.self c.push_at.ensures in
          rw c.take-entry.ensures.cells more;
      count = rw c.take-entry.ensures.cells (length-set c.loop-p.slots (c.args.base + p) None ∙ c.loop-p.invariant.count);
      wide = length-set c.loop-p.row p 0 ∙ c.loop-p.invariant.wide;
      others = λ q o. rw c.take-entry.ensures.cells (get_or-set_other c.loop-p.slots (c.args.base + p) q None None (λ z. elim o [ inl a ↦ omega arith | inr a ↦ omega arith ]) ∙ c.loop-p.invariant.others q o);
    }

pub returns-clause-stays : goal.returns-clause-stays
returns-clause-stays g c = λ w at entry_count.
    sifts-kept all_raised c.args.base c.args.target c.args.first w c.args.into.now c.args.slots.now c.args.row.now at c.loop-p.slots c.loop-p.row c.loop-p.into c.loop-p.p 0 c.loop-p.next (c.loop-p.invariant.sifts w at entry_count) (omega (arith, c.loop-p-test.false, entry_count))

pub returns-clause-moved : goal.returns-clause-moved
returns-clause-moved g c = λ w at entry_count.
    sifts-moved all_raised c.args.base c.args.target c.args.first w c.args.into.now c.args.slots.now c.args.row.now at c.loop-p.slots c.loop-p.row c.loop-p.into c.loop-p.p 0 c.loop-p.next (c.loop-p.invariant.sifts w at entry_count) (omega (arith, c.loop-p-test.false, entry_count))
