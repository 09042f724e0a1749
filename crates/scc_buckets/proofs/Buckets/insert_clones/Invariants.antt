use Rattle.std.proofs.Common.{take}
use Rattle.scc_array.specs.Shelves.{shelf_of}
use Rattle.scc_array.specs.Shelf.{shelf_entries}
use Rattle.scc_common.specs.Clones.{AddsClones}
use Rattle.scc_buckets.proofs.Buckets.insert_clones.Given as goal

abbrev pub invariant-loop-place : goal.invariant-loop-place
invariant-loop-place g l = AddsClones g.E.Clone.is_clone (take l.place (shelf_entries (shelf_of l.array l.bucket))) l.fn.self l.self
