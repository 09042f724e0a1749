use Rattle.std.proofs.Common.{◌<◌, ◌≤◌, length, rules, subst}
use Rattle.scc_array.specs.Shelves.{shelf_of}
use Rattle.scc_array.specs.Shelf.{shelf_entries}
use Rattle.scc_array.proofs.ListsLemmas.{get-is}
use Rattle.scc_common.specs.Clones.{AddsClones}
use Rattle.scc_array.proofs.Totals.{take-whole}
use Rattle.scc_buckets.proofs.CloningLemmas.{adds-none, adds-next}
use Rattle.scc_buckets.proofs.Buckets.insert_clones.Goals as goal

pub loop-place-init : goal.loop-place-init
loop-place-init g c = adds-none g.E.Clone.is_clone c.args.self.now

pub loop-place-preserved : goal.loop-place-preserved
loop-place-preserved g c =
    let xs = shelf_entries (shelf_of c.args.array.now c.args.bucket) in let x = c.entry_at.result.now in let j = c.loop-place.place in
    let l : j < length xs = search rules in
    adds-next g.E.Clone.is_clone xs j x c.args.self.now c.loop-place.self c.insert_clone.new.self l (get-is xs j x x c.entry_at.ensures) c.loop-place.invariant c.in_ok-insert_clone.ensures

pub returns : goal.returns
returns g c =
    let xs = shelf_entries (shelf_of c.args.array.now c.args.bucket) in
    let far : length xs ≤ c.loop-place.place = search rules in
    subst (λ z. AddsClones g.E.Clone.is_clone z c.args.self.now c.loop-place.self) (take-whole xs c.loop-place.place far) c.loop-place.invariant
