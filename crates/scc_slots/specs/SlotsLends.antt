-- What cells end as, once a `&mut` to one of their entries has ended.
use Rattle.std.specs.Prelude.{ℕ, List, slice_set, Option, Some}
use Rattle.std.specs.Borrow.{Fml, RattleType, MutBor, Lends}
use Rattle.scc_slots.specs.contracts.cells.Cells.{the_row}

-- the entry of cell i is lent: when the loan ends, the cell holds what was written
abbrev pub lends_cell : (R : RattleType) → MutBor (List (Option R.Denot)) → ℕ → MutBor R.Denot → Fml
lends_cell R slots i entry = Lends (the_row R) R slots entry (λ w. slice_set slots.now i (Some w))
