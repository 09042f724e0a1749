use Rattle.std.proofs.Common.{◌≡◌, ◌<◌, ◌≤◌, ℕ, length, get_or, None}
use Rattle.scc_array.proofs.columns.drop_cells.Given as goal

-- the cells before p are empty, and the cells from p on are unchanged
abbrev pub invariant-loop-p : goal.invariant-loop-p
invariant-loop-p g l = (length l.slots ≡ length l.initial.slots) × ((q : ℕ) → q < l.p → get_or l.slots q None ≡ None) × ((q : ℕ) → l.p ≤ q → get_or l.slots q None ≡ get_or l.initial.slots q None)
