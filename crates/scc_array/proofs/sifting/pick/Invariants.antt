use Rattle.std.proofs.Common.{◌≡◌, ◌+◌, ◌<◌, ◌≤◌, ◌⊎◌, ℕ, None, length, get_or}
use Rattle.scc_array.proofs.Picking.{Picks}
use Rattle.scc_array.proofs.sifting.pick.Given as goal
use Rattle.scc_array.specs.Sifts.{raised, AreAt}
use Rattle.scc_array.specs.Windows.{Window}

abbrev pub invariant-picked : goal.invariant-picked
invariant-picked g l = record {
  picks : (w : Window g.row.E.Denot) → AreAt l.initial.slots l.initial.row l.base w → Picks (raised l.flags) l.base l.target l.first w l.initial.into l.slots l.row l.into l.bits l.next;
  count : length l.slots ≡ length l.initial.slots;
  wide : length l.row ≡ length l.initial.row;
  others : (q : ℕ) → (q < l.base) ⊎ (l.base + 32 ≤ q) → get_or l.slots q None ≡ get_or l.initial.slots q None;
}

abbrev pub decreases-picked : goal.decreases-picked
decreases-picked g l = l.bits
