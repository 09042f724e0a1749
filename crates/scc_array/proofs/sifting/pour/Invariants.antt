use Rattle.std.proofs.Common.{◌≡◌, ◌+◌, ◌<◌, ◌≤◌, ◌⊎◌, ℕ, None, length, get_or}
use Rattle.scc_array.proofs.Parting.{Sifts}
use Rattle.scc_array.proofs.sifting.pour.Given as goal
use Rattle.scc_array.specs.Sifts.{all_raised, AreAt}
use Rattle.scc_array.specs.Windows.{Window}

abbrev pub invariant-loop-p : goal.invariant-loop-p
invariant-loop-p g l = record {
  sifts : (w : Window g.row.E.Denot) → AreAt l.initial.slots l.initial.row l.base w → l.entry_count ≡ length w.slots → Sifts all_raised l.base l.target l.first w l.initial.into l.initial.slots l.slots l.initial.row l.row l.into l.p 0 l.next;
  count : length l.slots ≡ length l.initial.slots;
  wide : length l.row ≡ length l.initial.row;
  others : (q : ℕ) → (q < l.base) ⊎ (l.base + 32 ≤ q) → get_or l.slots q None ≡ get_or l.initial.slots q None;
}
