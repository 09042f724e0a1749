use Rattle.std.proofs.Common.{ℕ, ◌<◌, ◌≤◌, length}
use Rattle.scc_common.specs.Contents.{entries, hash_in, settings_of}
use Rattle.scc_buckets.specs.Pour.{destined_for}
use Rattle.scc_table.proofs.Table.is_short_in.Given as goal

abbrev pub invariant-loop-target : goal.invariant-loop-target
invariant-loop-target g l = (i : ℕ) → i < l.target → length (destined_for (λ e. hash_in g.H.Hashes.hash_of l.self (g.E.Keyed.key_of e)) (settings_of l.self).skipped l.count i (entries l.self)) ≤ 32
