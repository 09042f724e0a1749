use Rattle.std.proofs.Common.{arith, length, get_or, set, None, ap, ◌∙◌, inl, inr, length-set}
use Rattle.std.proofs.lemmas.List.{get_or-set_same, get_or-set_other}
use Rattle.scc_array.proofs.Drained.{used-filled, unused-free}
use Rattle.scc_array.proofs.Windows.{same_or_not}
use Rattle.scc_array.proofs.columns.drop_cells.Goals as goal
use Rattle.scc_array.proofs.columns.drop_cells.Goals.{then-tags-p-ne0, else-tags-p-ne0}

pub take-requires : goal.take-requires
take-requires g c =
    let inv = c.loop-p.invariant in let p = c.loop-p.p in
    let f = used-filled c.args.tags.now c.args.slots.now c.requires p (omega (arith, c.cells-p-end.ensures.count)) c.if-tags-p-ne0.true in
    (f.0, inv.2 p (omega arith) ∙ f.1)

pub loop-p-preserved : goal.loop-p-preserved
loop-p-preserved g c =
    let inv = c.loop-p.invariant in let p = c.loop-p.p in let n = c.cells-p-end.ensures.count in
    elim c.if-tags-p-ne0.branch [
      | then-tags-p-ne0 w ↦
          let now = w.slots-is ∙ w.take.ensures.cells in (
            ap length now ∙ length-set c.loop-p.slots p None ∙ inv.0,
            (λ q l. ap (λ s. get_or s q None) now ∙ elim (same_or_not q p) [
              | inl e ↦ ap (λ k. get_or (set c.loop-p.slots p None) k None) e ∙ get_or-set_same c.loop-p.slots p None None (omega (arith, inv.0))
              | inr e ↦ get_or-set_other c.loop-p.slots p q None None e ∙ inv.1 q (omega arith)
            ]),
            (λ q l. ap (λ s. get_or s q None) now ∙ get_or-set_other c.loop-p.slots p q None None (λ e. omega arith) ∙ inv.2 q (omega arith)),
          )
      | else-tags-p-ne0 w ↦ (
        ap length w.slots-is ∙ inv.0,
        (λ q l. ap (λ s. get_or s q None) w.slots-is ∙ elim (same_or_not q p) [
          | inl e ↦ ap (λ k. get_or c.loop-p.slots k None) e ∙ inv.2 p (omega arith) ∙ unused-free c.args.tags.now c.args.slots.now c.requires p (omega arith) w.if-tags-p-ne0.false
          | inr e ↦ inv.1 q (omega arith)
        ]),
        (λ q l. ap (λ s. get_or s q None) w.slots-is ∙ inv.2 q (omega arith)),
      )
    ]
