use Rattle.std.proofs.Common.{◌≡◌, length, take}
use Rattle.scc_array.specs.Shelves.{shelf_of}
use Rattle.scc_array.specs.Shelf.{shelf_entries}
use Rattle.scc_buckets.specs.Pour.{destined_for}
use Rattle.scc_draining.proofs.relocate.Relocation.count_in.Given as goal

abbrev pub invariant-loop-slot : goal.invariant-loop-slot
invariant-loop-slot g l = l.found ≡ length (destined_for (λ e. g.H.Hashes.hash_of l.router.hasher (g.E.Keyed.key_of e)) l.router.skipped l.self.count l.self.target (take l.slot (shelf_entries (shelf_of l.old l.source))))
