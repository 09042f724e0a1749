use Rattle.std.proofs.Common.{◌≡◌, ◌+◌, length, take}
use Rattle.std.specs.List.{flat_map}
use Rattle.scc_array.specs.Shelf.{shelf_entries}
use Rattle.scc_draining.proofs.relocate.len_between.Given as goal

abbrev pub invariant-loop-source : goal.invariant-loop-source
invariant-loop-source g l = length (flat_map shelf_entries (take l.first l.old)) + l.entry_count ≡ length (flat_map shelf_entries (take l.source l.old))
