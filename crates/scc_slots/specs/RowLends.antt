-- What a row ends as, once a `&mut` to one of its entries has ended.
use Rattle.std.specs.Prelude.{ℕ, List, slice_set, Option, Some}
use Rattle.std.specs.Borrow.{Fml, RattleType, MutBor, Lends}
use Rattle.scc_slots.specs.declared.row.Row.{Row}
use Rattle.scc_slots.specs.contracts.row.Row.{the_row}

-- the row with other cells
abbrev pub with_cells : {X : Type 0} → Row X → List (Option X) → Row X
with_cells row cs = record { of = row.of; start = row.start; cells = cs }

-- the entry of cell i of a row is lent: when the loan ends, the cell holds what was written
abbrev pub lends_place : (R : RattleType) → MutBor (Row R.Denot) → ℕ → MutBor R.Denot → Fml
lends_place R row i entry = Lends (the_row R) R row entry (λ w. with_cells row.now (slice_set row.now.cells i (Some w)))
