use Rattle.std.proofs.Common.{◌≡◌, ◌+◌, ◌≤◌, [], map, vec_len}
use Rattle.std.specs.Prelude.{vec_capacity}
use Rattle.std.specs.List.{AllByRecursion, range_with_len}
use Rattle.scc_recorded.proofs.opening.pass_all.Given as goal

abbrev pub invariant-loop-number : goal.invariant-loop-number
invariant-loop-number g l = record {
  parts : (l.all.parts + l.number ≡ l.passes) × (l.all.amount ≡ 0);
  room : (vec_len l.handed ≡ l.number) × (l.passes ≤ vec_capacity l.handed);
  numbers : map (λ p. p.log.number) l.handed.items ≡ range_with_len 0 l.number;
  new : AllByRecursion (λ p. (p.log.clock ≡ 0) × (p.log.receipts.items ≡ [])) l.handed.items;
}
