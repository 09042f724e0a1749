use Rattle.std.proofs.Common.{set, ap, ◌∙◌}
use Rattle.scc_array.proofs.WholeWrites.{whole-written}
use Rattle.scc_array.specs.Shelves.{shelf_of}
use Rattle.scc_array.specs.ShelfWrites.{shelf_write_at, put_whole}
use Rattle.scc_array.proofs.Array.write_at.Goals as goal

pub write-requires-clause-takes : goal.write-requires-clause-takes
write-requires-clause-takes g c = λ allowed. c.requires.takes _ c.entry_mut_at-entry.ensures.entry allowed

pub write-requires-clause-keeps : goal.write-requires-clause-keeps
write-requires-clause-keeps g c = λ r w allowed written. c.requires.keeps _ r w c.entry_mut_at-entry.ensures.entry allowed written

pub returns : goal.returns
returns g c =
    let bs = c.args.self.now in let b = c.args.bucket in let i = c.args.slot in
    let e = c.entry_mut_at-entry.result.now in let got = c.entry_mut_at-entry.ensures.entry in
    let w = c.write.ensures.written in
    (e, w.0, got, w.1, ap (λ x. set bs b (shelf_write_at put_whole (shelf_of bs b) i x)) w.2 ∙ ap (set bs b) (whole-written g.E.Valued.with_value (shelf_of bs b) i e w.0 got), c.write.ensures.allowed)
