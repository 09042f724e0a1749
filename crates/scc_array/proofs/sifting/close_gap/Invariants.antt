use Rattle.std.proofs.Common.{◌≡◌, ◌+◌, ◌<◌, ◌≤◌, ◌⊎◌, ℕ, None, length, get_or}
use Rattle.scc_array.proofs.sifting.close_gap.Given as goal
use Rattle.scc_array.specs.Shifts.{Closes}

abbrev pub invariant-loop-p : goal.invariant-loop-p
invariant-loop-p g l = record {
  entries : Closes None l.initial.slots (l.base + l.gap) (l.base + l.p) l.slots;
  count : length l.row ≡ length l.initial.row;
  moved : (q : ℕ) → l.gap ≤ q → q < l.p → get_or l.row q 0 ≡ get_or l.initial.row (q + 1) 0;
  others : (q : ℕ) → (q < l.gap) ⊎ (l.p ≤ q) → get_or l.row q 0 ≡ get_or l.initial.row q 0;
}
