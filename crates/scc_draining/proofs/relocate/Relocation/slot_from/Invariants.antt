use Rattle.std.proofs.Common.{◌≡◌, ◌≤◌}
use Rattle.scc_buckets.specs.Pour.{destined_for}
use Rattle.scc_draining.specs.Stepping.{entries_before}
use Rattle.scc_draining.proofs.relocate.Relocation.slot_from.Given as goal

abbrev pub invariant-loop-place : goal.invariant-loop-place
invariant-loop-place g l = record {
  on : l.slot ≤ l.place;
  none : destined_for (λ e. g.H.Hashes.hash_of l.router.hasher (g.E.Keyed.key_of e)) l.router.skipped l.self.count l.self.target (entries_before l.old l.source l.place)
      ≡ destined_for (λ e. g.H.Hashes.hash_of l.router.hasher (g.E.Keyed.key_of e)) l.router.skipped l.self.count l.self.target (entries_before l.old l.source l.slot);
}
