-- What a row of cells and the right to its block own, and what a `&` to a row shows.
use Rattle.std.specs.Prelude.{ℕ, ◌+◌, ◌*◌, ◌^◌, List, [], ◌∷◌, length, Option, Some, None}
use Rattle.std.specs.Mem.{type_size}
use base.Fraction.{full_share}
use base.Fml.{Lft, Fml, ftrue, ffalse, fsep, flt, froom}
use mir.Syntax.{Ty, ty_array}
use mir.Raw.{raw}
use denote.RattleType.{RattleType}
use denote.Memory.{lone, part_at, shared_of}
use denote.Sharing.{nothing, said, beside}
use denote.RawPtr.{Ptr, block_ptr, null_ptr}

module _ (R : RattleType) (b : ℕ) where
  -- owns one cell, o bytes into the block: its entry, or its free memory
  abbrev pub cell_owns : ℕ → Option R.Denot → Fml
  cell_owns o None = froom (raw (lone R.mir)) b o
  cell_owns o (Some x) = part_at R full_share x b o

  -- owns each cell of a list, one after another, the first o bytes into the block
  abbrev pub cells_own : ℕ → List (Option R.Denot) → Fml
  cells_own o [] = ftrue
  cells_own o (c ∷ cs) = fsep (cell_owns o c) (cells_own (o + type_size R) cs)

  -- what one cell shows while it is lent to be read
  abbrev pub cell_shows : ℕ → Option R.Denot → Lft → Fml
  cell_shows o None = nothing
  cell_shows o (Some x) = shared_of R x b o

  -- what each cell of a list shows while the cells are lent to be read
  abbrev pub cells_show : ℕ → List (Option R.Denot) → Lft → Fml
  cells_show o [] = nothing
  cells_show o (c ∷ cs) = beside (cell_shows o c) (cells_show (o + type_size R) cs)

module _ (R : RattleType) where
  -- the cells have fewer than 2 ^ 63 bytes
  abbrev pub bounded : List (Option R.Denot) → Fml
  bounded cs = flt (length cs * type_size R) (2 ^ 63)

  -- what a row owns: its cells; at the null pointer there are none
  abbrev pub row_owns : Ptr → List (Option R.Denot) → Fml
  row_owns null_ptr [] = ftrue
  row_owns null_ptr (c ∷ cs) = ffalse
  row_owns (block_ptr b o) cs = fsep (cells_own R b o cs) (bounded cs)

  -- what a row shows while it is lent to be read
  abbrev pub row_shows : Ptr → List (Option R.Denot) → Lft → Fml
  row_shows null_ptr [] = nothing
  row_shows null_ptr (c ∷ cs) = said ffalse
  row_shows (block_ptr b o) cs = beside (cells_show R b o cs) (said (bounded cs))

  -- what the right owns: the token to release the block of n cells
  abbrev pub right_owns : (Ty → Ptr → Fml) → Ptr → ℕ → Fml
  right_owns token null_ptr n = ffalse
  right_owns token (block_ptr b o) n = token (raw (ty_array (lone R.mir) n)) (block_ptr b o)
