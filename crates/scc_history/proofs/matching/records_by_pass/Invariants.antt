use Rattle.std.proofs.Common.{◌≡◌, ℕ, ◌<◌, map, take, vec_len}
use Rattle.std.specs.Prelude.{slice_index_or}
use Rattle.scc_history.specs.Orders.{steps_at}
use Rattle.scc_history.specs.Receipts.{calls_of, seen}
use Rattle.scc_history.proofs.matching.records_by_pass.Given as goal

abbrev pub invariant-loop-place : goal.invariant-loop-place
invariant-loop-place g l = record {
  len : vec_len l.records ≡ l.passes;
  records : (n : ℕ) (d : _) → n < l.passes → map seen (slice_index_or l.records.items n d).items ≡ calls_of n (steps_at (map g.H.Histories.history l.stripes) (take l.place-index l.order));
}
