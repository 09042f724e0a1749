use Rattle.std.proofs.Common.{◌≡◌, ◌*◌, ◌≤◌, length}
use Rattle.scc_common.specs.Contents.{hash_in, settings_of}
use Rattle.scc_buckets.specs.Pour.{destined_for}
use Rattle.scc_table.proofs.relocations.ShortLists.{entries_until}
use Rattle.scc_table.proofs.Table.joined_len.Given as goal

abbrev pub invariant-loop-bucket : goal.invariant-loop-bucket
invariant-loop-bucket g l = record {
  total : l.total ≡ length (destined_for (λ e. hash_in g.H.Hashes.hash_of l.self (g.E.Keyed.key_of e)) (settings_of l.self).skipped l.count l.target (entries_until l.self l.bucket));
  few : l.total ≤ 32 * l.bucket;
}
