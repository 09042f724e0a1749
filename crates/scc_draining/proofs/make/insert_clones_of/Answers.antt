use Rattle.std.proofs.Common.{◌<◌, ◌≤◌, length, take, rules, ap, subst, add-one}
use Rattle.std.specs.List.{flat_map}
use Rattle.scc_array.proofs.Totals.{take-whole}
use Rattle.scc_array.specs.Shelves.{shelf_of}
use Rattle.scc_array.specs.Shelf.{shelf_entries}
use Rattle.scc_common.specs.Clones.{AddsClones}
use Rattle.scc_buckets.proofs.Arrays.{flat-next}
use Rattle.scc_buckets.proofs.CloningLemmas.{adds-none, adds-more}
use Rattle.scc_draining.proofs.make.insert_clones_of.Goals as goal

pub loop-bucket-init : goal.loop-bucket-init
loop-bucket-init g c = adds-none g.E.Clone.is_clone c.args.table.now

pub loop-bucket-preserved : goal.loop-bucket-preserved
loop-bucket-preserved g c =
    let bs = c.args.old.now in let j = c.loop-bucket.bucket in
    let l : j < length bs = search rules in
    rw (add-one, flat-next bs j l) (adds-more g.E.Clone.is_clone (flat_map shelf_entries (take j bs)) (shelf_entries (shelf_of bs j)) c.args.table.now c.loop-bucket.table c.insert_clones.new.self c.loop-bucket.invariant c.in_ok-insert_clones.ensures)

pub returns : goal.returns
returns g c =
    let bs = c.args.old.now in
    let far : length bs ≤ c.loop-bucket.bucket = search rules in
    subst (λ z. AddsClones g.E.Clone.is_clone z c.args.table.now c.loop-bucket.table) (ap (flat_map shelf_entries) (take-whole bs c.loop-bucket.bucket far)) c.loop-bucket.invariant
