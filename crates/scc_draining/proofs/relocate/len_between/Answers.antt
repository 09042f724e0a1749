use Rattle.std.proofs.Common.{◌≡◌, ◌<◌, ◌∙◌, ap, arith, length, length-append, take}
use Rattle.std.specs.List.{flat_map}
use Rattle.scc_array.specs.Shelves.{shelf_of}
use Rattle.scc_array.specs.Shelf.{shelf_entries}
use Rattle.scc_draining.proofs.Counted.{part-le}
use Rattle.scc_draining.proofs.Drains.{flat-more}
use Rattle.scc_draining.proofs.relocate.len_between.Goals as goal

pub overflow_add-entry_count : goal.overflow_add-entry_count
overflow_add-entry_count g c =
    let l : c.loop-source.source < length c.args.old.now = omega (arith, c.requires.within) in
    let m = part-le c.args.old.now c.loop-source.source l in
    omega (arith, c.requires.most, c.loop-source.invariant, c.bucket_len-entry_count.ensures)

pub loop-source-preserved : goal.loop-source-preserved
loop-source-preserved g c =
    let olds = c.args.old.now in let j = c.loop-source.source in
    let l : j < length olds = omega (arith, c.requires.within) in
    let more = ap length (flat-more j olds l) ∙ length-append (flat_map shelf_entries (take j olds)) (shelf_entries (shelf_of olds j)) in
    omega (arith, more, c.loop-source.invariant, c.bucket_len-entry_count.ensures)

pub returns : goal.returns
returns g c =
    let upper = c.loop-source.auto.source-end c.requires.order in
    let at : c.loop-source.source ≡ c.args.last = omega arith in
    c.loop-source.invariant ∙ ap (λ m. length (flat_map shelf_entries (take m c.args.old.now))) at
