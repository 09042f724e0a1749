use Rattle.std.proofs.Common.{◌≡◌, set}
use Rattle.scc_array.specs.Shelves.{shelf_of}
use Rattle.scc_draining.proofs.Pulling.{PullsUntil}
use Rattle.scc_draining.proofs.relocate.Relocation.pull_each.Given as goal

abbrev pub invariant-loop-seen : goal.invariant-loop-seen
invariant-loop-seen g l = PullsUntil (λ e. g.H.Hashes.hash_of l.router.hasher (g.E.Keyed.key_of e)) l.router.skipped l.self.count l.self.target l.source l.initial.old (shelf_of l.initial.into l.self.target) l.old (shelf_of l.into l.self.target) l.seen l.slot
    × (l.into ≡ set l.initial.into l.self.target (shelf_of l.into l.self.target))
