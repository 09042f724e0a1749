use Rattle.std.proofs.Common.{◌≡◌, ◌+◌, map, vec_len}
use Rattle.std.specs.List.{range_with_len}
use Rattle.scc_recorded.proofs.opening.lock_all.Given as goal

abbrev pub invariant-loop-number : goal.invariant-loop-number
invariant-loop-number g l = record {
  parts : l.rest.parts + l.number ≡ l.stripes;
  none : l.rest.amount ≡ 0;
  len : vec_len l.locks ≡ l.number;
  numbers : map (λ x. x.number) l.locks.items ≡ range_with_len 0 l.number;
}
