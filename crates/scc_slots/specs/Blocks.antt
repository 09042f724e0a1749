-- What holds of the fields of a block of cells.
use Rattle.std.specs.Prelude.{◌≡◌, ℕ, ◌^◌, ◌<◌, [], length, Option, Some, None}
use Rattle.scc_slots.specs.declared.row.Right.{Right}
use Rattle.scc_slots.specs.declared.row.Row.{Row}
use Rattle.scc_slots.specs.declared.row.Start.{Start}

-- the right, if there is one, is to the block of the row; without a right, the row has no cells
abbrev pub IsRightTo : {X A : Type 0} → Row X → Option (Right X A) → ℕ → A → Type 0
IsRightTo row None count alloc = row.cells ≡ []
IsRightTo row (Some right) count alloc = (right.start ≡ row.start) × (right.count ≡ count) × (right.alloc ≡ alloc)

-- the row begins at `start` and has `count` cells, and `right` is the right to its block
pub record IsBlock {X A : Type 0} (start : Start X) (row : Row X) (right : Option (Right X A)) (count : ℕ) (alloc : A) : Type 0 where
  pub begins : start.first ≡ row.start
  pub cells : (length row.cells ≡ count) × (count < 2 ^ 63)
  pub right_to : IsRightTo row right count alloc
