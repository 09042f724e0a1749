use Rattle.std.proofs.Common.{take}
use Rattle.std.specs.List.{flat_map}
use Rattle.scc_common.specs.Clones.{AddsClones}
use Rattle.scc_array.specs.Shelf.{shelf_entries}
use Rattle.scc_buckets.proofs.Buckets.insert_clones_of.Given as goal

abbrev pub invariant-loop-bucket : goal.invariant-loop-bucket
invariant-loop-bucket g l = AddsClones g.E.Clone.is_clone (flat_map shelf_entries (take l.bucket l.array)) l.fn.self l.self
