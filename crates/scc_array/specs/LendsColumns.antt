-- What columns end as, once a `&mut` to one of their entries has ended.
use Rattle.std.specs.Prelude.{ℕ, List, slice_set}
use Rattle.std.specs.Borrow.{Fml, RattleType, MutBor, Lends}
use Rattle.scc_array.specs.Windows.{Window, window_of, written_over}
use Rattle.scc_array.specs.contracts.columns.Columns.{the_row}

-- when the loan r ends, the entry at slot i of bucket b is the last value written through r
abbrev pub lends_cell : (R : RattleType) → MutBor (List (Window R.Denot)) → ℕ → ℕ → MutBor R.Denot → Fml
lends_cell R ws b i r = Lends (the_row R) R ws r (λ x. slice_set ws.now b (written_over (window_of ws.now b) i x))
