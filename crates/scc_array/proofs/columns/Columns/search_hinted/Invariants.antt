use Rattle.std.proofs.Common.{◌≡◌, ◌<◌, ℕ, length}
use Rattle.std.specs.Int.{bit_at}
use Rattle.scc_array.proofs.Search.{HitsLeft}
use Rattle.scc_array.proofs.columns.Columns.search_hinted.Given as goal
use Rattle.scc_array.specs.Windows.{window_of, IsTagged}

abbrev pub invariant-hits : goal.invariant-hits
invariant-hits g l =
    ((j : ℕ) → bit_at l.bits j ≡ 1 → j < length (window_of l.self l.bucket).slots)
    × (IsTagged (λ e. g.E.Key.PartialEq.eq l.key (g.E.Keyed.key_of e)) l.tag (window_of l.self l.bucket) → HitsLeft (λ e. g.E.Key.PartialEq.eq l.key (g.E.Keyed.key_of e)) (window_of l.self l.bucket).slots l.bits)

abbrev pub decreases-hits : goal.decreases-hits
decreases-hits g l = l.bits
