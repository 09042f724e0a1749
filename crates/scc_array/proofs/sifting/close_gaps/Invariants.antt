use Rattle.std.proofs.Common.{◌≡◌, ◌+◌, ◌<◌, ◌≤◌, ◌⊎◌, ℕ, List, Bool, None, length, get_or}
use Rattle.scc_array.proofs.Picking.{Ranks}
use Rattle.scc_array.proofs.sifting.close_gaps.Given as goal
use Rattle.scc_array.specs.Sifts.{AreUnflagged, AreLeft}
use Rattle.scc_array.specs.Windows.{Window}

abbrev pub invariant-ranks : goal.invariant-ranks
invariant-ranks g l = record {
  ranks : (fs : List Bool) (w : Window g.row.E.Denot) → AreLeft l.initial.slots l.initial.row l.base fs w → AreUnflagged fs w l.bits → Ranks fs l.base w l.initial.slots l.slots l.initial.row l.row l.rest l.stays;
  count : length l.slots ≡ length l.initial.slots;
  wide : length l.row ≡ length l.initial.row;
  others : (q : ℕ) → (q < l.base) ⊎ (l.base + 32 ≤ q) → get_or l.slots q None ≡ get_or l.initial.slots q None;
}

abbrev pub decreases-ranks : goal.decreases-ranks
decreases-ranks g l = l.rest
