use Rattle.std.proofs.Common.{replicate, None, Some, sym, ap, ◌∙◌, subst}
use Rattle.scc_slots.proofs.Drained.{drained-replicate}
use Rattle.scc_slots.proofs.cells.Cells.destroy_empty.Goals as goal
use Rattle.scc_slots.specs.Blocks.{IsRightTo}
use Rattle.scc_slots.specs.CellWords.{IsDrained}

pub give_back-requires : goal.give_back-requires
give_back-requires g c =
    let fields = c.self.inside in let kept = c.self.invariant in
    let drained : IsDrained fields.row.cells = subst (λ cs. IsDrained cs) (sym c.self.view_is) c.requires in
    let right_to : IsRightTo fields.row (Some c.in-Some.right) fields.count fields.alloc = subst (λ r. IsRightTo fields.row r fields.count fields.alloc) c.in-Some.is kept.right_to in
    (sym kept.begins, drained-replicate fields.row.cells drained ∙ ap (λ n. replicate n None) kept.cells.0, right_to.0 ∙ sym kept.begins, right_to.1, right_to.2)
