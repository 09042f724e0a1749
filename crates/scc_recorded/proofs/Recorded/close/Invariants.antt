use Rattle.std.proofs.Common.{◌≡◌, ◌+◌, ◌≤◌, ◌++◌, map, vec_len}
use Rattle.std.specs.List.{range_with_len}
use Rattle.std.specs.Prelude.{vec_capacity}
use Rattle.scc_recorded.proofs.Recorded.close.Given as goal

abbrev pub invariant-loop-stripes : goal.invariant-loop-stripes
invariant-loop-stripes g l = record {
  all : vec_len l.stripes + vec_len l.locks ≡ l.fn.self.stripes;
  numbers : map (λ s. s.stripe.number) l.stripes.items ++ map (λ k. k.number) l.locks.items ≡ range_with_len 0 l.fn.self.stripes;
  room : l.fn.self.stripes ≤ vec_capacity l.stripes;
}

abbrev pub decreases-loop-stripes : goal.decreases-loop-stripes
decreases-loop-stripes g l = vec_len l.locks
