use Rattle.std.proofs.Common.{◌≡◌, length, take}
use Rattle.std.specs.List.{flat_map}
use Rattle.scc_array.specs.Shelf.{shelf_entries}
use Rattle.scc_buckets.specs.Pour.{destined_for}
use Rattle.scc_draining.proofs.relocate.Relocation.count_all.Given as goal

abbrev pub invariant-loop-source : goal.invariant-loop-source
invariant-loop-source g l = l.found ≡ length (destined_for (λ e. g.H.Hashes.hash_of l.router.hasher (g.E.Keyed.key_of e)) l.router.skipped l.self.count l.self.target (flat_map shelf_entries (take l.source l.old)))
