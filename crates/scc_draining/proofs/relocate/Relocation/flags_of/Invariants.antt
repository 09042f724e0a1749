use Rattle.std.proofs.Common.{◌≡◌, ◌==◌, ◌<◌, ℕ, Some, length, slice_get}
use Rattle.scc_array.specs.Shelves.{shelf_of}
use Rattle.scc_array.specs.Sifts.{raised}
use Rattle.scc_draining.proofs.relocate.Relocation.flags_of.Given as goal
use Rattle.scc_common.specs.Routing.{bucket_number}

abbrev pub invariant-loop-slot : goal.invariant-loop-slot
invariant-loop-slot g l = (length l.flags ≡ 32) × ((j : ℕ) (e : g.row.E.Denot) → j < l.slot → slice_get (shelf_of l.old l.source).slots j ≡ Some e
    → slice_get (raised l.flags) j ≡ Some (bucket_number l.router.skipped l.self.count (g.H.Hashes.hash_of l.router.hasher (g.E.Keyed.key_of e)) == l.self.target))
