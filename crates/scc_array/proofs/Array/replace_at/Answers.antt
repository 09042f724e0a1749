use Rattle.std.proofs.Common.{set, Some, sym, ap, ◌∙◌}
use Rattle.scc_array.specs.Shelves.{shelf_of}
use Rattle.scc_array.specs.ShelfWrites.{shelf_write_at, put_whole}
use Rattle.scc_array.proofs.Array.replace_at.Goals as goal

pub returns-clause-old : goal.returns-clause-old
returns-clause-old g c = c.entry_mut_at-there.ensures.entry ∙ ap Some (sym c.replace.ensures.value)

pub returns-clause-new : goal.returns-clause-new
returns-clause-new g c =
    let bs = c.args.self.now in let b = c.args.bucket in
    ap (λ x. set bs b (shelf_write_at put_whole (shelf_of bs b) c.args.slot x)) c.replace.ensures.after
