use Rattle.std.proofs.Common.{set, ap, ◌∙◌}
use Rattle.scc_array.proofs.WholeWrites.{whole-written}
use Rattle.scc_array.specs.Shelves.{shelf_of}
use Rattle.scc_array.specs.ShelfWrites.{shelf_write_at, put_whole}
use Rattle.scc_array.proofs.Array.replace_key_at.Goals as goal

pub replace_key-requires : goal.replace_key-requires
replace_key-requires g c = record { same = c.requires.same _ c.entry_mut_at-entry.ensures.entry }

pub returns-clause-old : goal.returns-clause-old
returns-clause-old g c = (c.entry_mut_at-entry.result.now, c.entry_mut_at-entry.ensures.entry, c.replace_key.ensures.old)

pub returns-clause-new : goal.returns-clause-new
returns-clause-new g c =
    let bs = c.args.self.now in let b = c.args.bucket in let i = c.args.slot in
    let e = c.entry_mut_at-entry.result.now in let got = c.entry_mut_at-entry.ensures.entry in
    ap (λ x. set bs b (shelf_write_at put_whole (shelf_of bs b) i x)) c.replace_key.ensures.new ∙ ap (set bs b) (whole-written g.E.Valued.with_key (shelf_of bs b) i e c.args.key got)
