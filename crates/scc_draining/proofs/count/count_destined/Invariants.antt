use Rattle.std.proofs.Common.{◌≡◌, length, take}
use Rattle.scc_common.specs.Contents.{hash_in, list_of, settings_of}
use Rattle.scc_buckets.specs.Pour.{destined_for}
use Rattle.scc_draining.proofs.count.count_destined.Given as goal

abbrev pub invariant-loop-slot : goal.invariant-loop-slot
invariant-loop-slot g l = l.found ≡ length (destined_for (λ e. hash_in g.H.Hashes.hash_of l.table (g.E.Keyed.key_of e)) (settings_of l.table).skipped l.count l.target (take l.slot (list_of l.table l.bucket)))
