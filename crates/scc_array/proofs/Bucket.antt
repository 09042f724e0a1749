-- Facts about one bucket of columns.
use Rattle.std.proofs.Common.{◌≡◌, ℕ, zero, suc, ◌+◌, ◌*◌, ◌^◌, ◌<◌, ◌≤◌, List, [], ◌∷◌, length, get_or, Option, Some, None, sym, ap, ◌∙◌, subst, arith}
use Rattle.std.specs.List.{slice_get}
use Rattle.scc_array.proofs.Counting.{slot-used}
use Rattle.scc_array.proofs.Windows.{length-windows, window-there}
use Rattle.scc_array.specs.Windows.{Window, window_of, windows, IsPackedWindow, IsColumns}

-- ws are the windows of the columns, and i is the number of a bucket
module _ {E : Type 0} (rows : List (List ℕ)) (cells : List (Option E)) (kept : IsColumns rows cells) (ws : List (Window E)) (view : windows rows cells ≡ ws) (i : ℕ) (within : i < length ws) where
  abbrev slots : List E
  slots = (window_of ws i).slots

  pub row-within : i < length rows
  row-within = let n = length-windows rows cells in let m = ap length view in omega arith

  pub packed-there : IsPackedWindow rows cells i (window_of ws i).slots (window_of ws i).tags
  packed-there = subst (λ (w : Window E). IsPackedWindow rows cells i w.slots w.tags) (sym (window-there rows cells i row-within) ∙ ap (λ v. window_of v i) view) (kept.packed i row-within)

  pub row-wide : length (get_or rows i []) ≡ 32
  row-wide = kept.lanes i row-within

  -- each slot of the bucket has a cell in the column
  pub slot-within : (j : ℕ) → j < 32 → 32 * i + j < length cells
  slot-within j h = let n = kept.sized in let l = row-within in omega arith

  pub number-small : 32 * i + 32 ≤ 2 ^ 63
  number-small = let n = kept.few in let l = row-within in omega arith

  module _ (j : ℕ) (there : j < length slots) where
    pub filled-there : (x : E) × (get_or cells (32 * i + j) None ≡ Some x)
    filled-there = slot-used rows cells i (window_of ws i).slots (window_of ws i).tags packed-there j there

    pub entry-there : (x : E) → get_or cells (32 * i + j) None ≡ Some x → slice_get slots j ≡ Some x
    entry-there x e = let m = packed-there.most in sym (packed-there.cells_are j (omega arith)) ∙ e

-- a row that was read is the row at i
pub row-read : (rows : List (List ℕ)) (i : ℕ) (row : List ℕ) → i < length rows → row ≡ get_or rows i row → get_or rows i [] ≡ row
row-read [] i row h e = absurd (omega arith)
row-read (r ∷ rows) zero row h e = sym e
row-read (r ∷ rows) (suc i) row h e = row-read rows i row (omega arith) e
