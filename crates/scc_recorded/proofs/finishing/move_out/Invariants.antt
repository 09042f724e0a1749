use Rattle.std.proofs.Common.{◌≡◌, ◌+◌, ◌≤◌, ◌++◌, map, vec_len}
use Rattle.std.specs.Prelude.{vec_capacity}
use Rattle.scc_recorded.proofs.finishing.move_out.Given as goal

abbrev pub invariant-loop-stripes : goal.invariant-loop-stripes
invariant-loop-stripes g l = record {
  parts : l.parts.items ++ map (λ s. s.stripe.container) l.stripes.items ≡ map (λ s. s.stripe.container) l.fn.stripes.items;
  histories : map (λ h. h.items) l.histories.items ++ map (λ s. s.stripe.history.items) l.stripes.items ≡ map (λ s. s.stripe.history.items) l.fn.stripes.items;
  opened : l.opened.items ++ map (λ s. s.stripe.opened) l.stripes.items ≡ map (λ s. s.stripe.opened) l.fn.stripes.items;
  room : (vec_len l.parts + vec_len l.stripes ≤ vec_capacity l.parts) × (vec_len l.histories + vec_len l.stripes ≤ vec_capacity l.histories) × (vec_len l.opened + vec_len l.stripes ≤ vec_capacity l.opened);
}

abbrev pub decreases-loop-stripes : goal.decreases-loop-stripes
decreases-loop-stripes g l = vec_len l.stripes
