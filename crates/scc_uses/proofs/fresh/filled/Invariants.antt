use Rattle.std.proofs.Common.{◌≡◌, ◌<◌}
use Rattle.scc_common.specs.Contents.{bucket_count, pending_of}
use Rattle.scc_uses.proofs.fresh.filled.Given as goal

abbrev pub invariant-loop-key : goal.invariant-loop-key
invariant-loop-key l = record {
  array : 0 < bucket_count l.map;
  not_waiting : pending_of l.map ≡ 0;
}
