use Rattle.std.proofs.Common.{◌≡◌, ◌==◌, length, map, refl, subst, ◌∙◌, bit_and}
use Rattle.std.proofs.lemmas.List.{length-map}
use Rattle.std.specs.Int.{bit_not, w32}
use lib.Lanes.{mask_l}
use Rattle.scc_array.proofs.Picking.{kept-bits}
use Rattle.scc_array.proofs.sifting.sift.Goals as goal
use Rattle.scc_array.specs.Sifts.{raised, AreUnflagged}

pub close_gaps-requires-clause-entry_count : goal.close_gaps-requires-clause-entry_count
close_gaps-requires-clause-entry_count g c =
    let w = c.requires.entry_count.0 in let at = c.requires.entry_count.1 in
    let fs = raised c.args.flags.now in
    let many : length fs ≡ 32 = length-map c.args.flags.now (λ x. x == 1) ∙ c.told-flags in
    let both : bit_and (bit_not w32 (mask_l (map (λ x. x == 0) c.args.row.now))) (bit_not w32 (mask_l fs)) ≡ bit_and (bit_not w32 c.tag_mask.result) (bit_not w32 c.tag_mask-2.result) = rw (c.tag_mask.ensures, c.tag_mask-2.ensures) refl in
    (fs, w, c.pick.ensures.left w at, subst (λ b. AreUnflagged fs w b) both (kept-bits c.args.row.now c.told-row fs many c.args.base c.args.slots.now w at))

pub returns-clause-stays : goal.returns-clause-stays
returns-clause-stays g c = λ w at.
    let fs = raised c.args.flags.now in
    let many : length fs ≡ 32 = length-map c.args.flags.now (λ x. x == 1) ∙ c.told-flags in
    let both : bit_and (bit_not w32 (mask_l (map (λ x. x == 0) c.args.row.now))) (bit_not w32 (mask_l fs)) ≡ bit_and (bit_not w32 c.tag_mask.result) (bit_not w32 c.tag_mask-2.result) = rw (c.tag_mask.ensures, c.tag_mask-2.ensures) refl in
    c.close_gaps.ensures.stays fs w (c.pick.ensures.left w at) (subst (λ b. AreUnflagged fs w b) both (kept-bits c.args.row.now c.told-row fs many c.args.base c.args.slots.now w at))
