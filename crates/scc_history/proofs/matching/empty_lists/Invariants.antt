use Rattle.std.proofs.Common.{◌≡◌, ◌≤◌, ℕ, ◌<◌, [], vec_len}
use Rattle.std.specs.Prelude.{vec_capacity, slice_index_or}
use Rattle.scc_history.proofs.matching.empty_lists.Given as goal

abbrev pub invariant-loop-i : goal.invariant-loop-i
invariant-loop-i g l = record {
  room : (vec_len l.lists ≡ l._i) × (l.count ≤ vec_capacity l.lists);
  empty : (n : ℕ) (d : _) → n < l._i → (slice_index_or l.lists.items n d).items ≡ [];
}
