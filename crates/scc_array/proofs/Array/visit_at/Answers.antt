use Rattle.std.proofs.Common.{set, ap, ◌∙◌}
use Rattle.scc_array.proofs.WholeWrites.{whole-written}
use Rattle.scc_array.specs.Shelves.{shelf_of}
use Rattle.scc_array.specs.ShelfWrites.{shelf_write_at, put_whole}
use Rattle.scc_array.proofs.Array.visit_at.Goals as goal

pub visit-requires-clause-takes : goal.visit-requires-clause-takes
visit-requires-clause-takes g c = λ allowed. c.requires.takes _ c.entry_mut_at-entry.ensures.entry allowed

pub visit-requires-clause-keeps : goal.visit-requires-clause-keeps
visit-requires-clause-keeps g c = λ r w s allowed written. c.requires.keeps _ r w s c.entry_mut_at-entry.ensures.entry allowed written

pub returns : goal.returns
returns g c =
    let bs = c.args.self.now in let b = c.args.bucket in let i = c.args.slot in
    let e = c.entry_mut_at-entry.result.now in let got = c.entry_mut_at-entry.ensures.entry in
    let w = c.visit.ensures.written in
    (e, w.0, got, w.1, ap (λ x. set bs b (shelf_write_at put_whole (shelf_of bs b) i x)) w.2 ∙ ap (set bs b) (whole-written g.E.Valued.with_value (shelf_of bs b) i e w.0 got), c.visit.ensures.allowed)
