use Rattle.std.proofs.Common.{◌≡◌, set}
use Rattle.scc_array.specs.Shelves.{shelf_of}
use Rattle.scc_draining.proofs.Drains.{DrainsUntil}
use Rattle.scc_draining.proofs.relocate.Relocation.drain.Given as goal

abbrev pub invariant-loop-source : goal.invariant-loop-source
invariant-loop-source g l = DrainsUntil (λ e. g.H.Hashes.hash_of l.router.hasher (g.E.Keyed.key_of e)) l.router.skipped l.self.count l.self.target l.initial.old (shelf_of l.initial.into l.self.target) l.old (shelf_of l.into l.self.target) l.source
    × (l.into ≡ set l.initial.into l.self.target (shelf_of l.into l.self.target))
