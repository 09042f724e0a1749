use Rattle.std.proofs.Common.{◌≡◌, ◌<◌, ℕ, length}
use Rattle.std.specs.Int.{bit_at}
use Rattle.scc_array.proofs.columns.Columns.search.Given as goal
use Rattle.scc_array.specs.Windows.{window_of}
use Rattle.scc_array.proofs.Search.{HitsLeft}

abbrev pub invariant-hits : goal.invariant-hits
invariant-hits g l = HitsLeft (λ e. g.E.Key.PartialEq.eq l.key (g.E.Keyed.key_of e)) (window_of l.self l.bucket).slots l.bits × ((j : ℕ) → bit_at l.bits j ≡ 1 → j < length (window_of l.self l.bucket).slots)

abbrev pub decreases-hits : goal.decreases-hits
decreases-hits g l = l.bits
