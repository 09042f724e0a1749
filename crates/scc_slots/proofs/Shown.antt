-- A `&` to a row shows all that a `&` to each of its entries shows. Assumes `Logic`.
use Prim.Native.Nat.{ℕ, ◌+◌}
use Rattle.std.specs.Prelude.{List, [], ◌∷◌, Option, Some, None}
use Rattle.std.specs.Mem.{type_size}
use seplogic.Ra.Ura.{Ura}
use base.Fml.{Lft, Incl, ftrue, ffalse}
use types.Logic.{Logic}
use denote.RattleType.{RattleType, RowLaws}
use denote.Param.Laws.{Laws}
use denote.RawPtr.{Ptr, block_ptr, null_ptr}
use denote.Sharing.{ShrLaws, said}
use denote.SharingLaws.{beside_shr_laws, nothing_shr_laws, said_shr_laws}
use denote.Shares.{Shares-less}
use denote.Struct.Lending.{Lends, Lends-both, Lends-nothing, Lends-said, Lends-false}
use Rattle.scc_slots.specs.Owned.{cell_owns, cells_own, cell_shows, cells_show, bounded, row_owns, row_shows}

module _ (R : RattleType) (L : RowLaws R) (b : ℕ) where
  cells_show-laws : (o : ℕ) (cs : List (Option R.Denot)) → ShrLaws (cells_show R b o cs)
  cells_show-laws o [] = nothing_shr_laws
  cells_show-laws o (None ∷ cs) = beside_shr_laws _ _ nothing_shr_laws (cells_show-laws (o + type_size R) cs)
  cells_show-laws o (Some x ∷ cs) = beside_shr_laws _ _ (L x b o) (cells_show-laws (o + type_size R) cs)

pub row_shows-laws : (R : RattleType) (L : RowLaws R) (start : Ptr) (cs : List (Option R.Denot)) → ShrLaws (row_shows R start cs)
row_shows-laws R L null_ptr [] = nothing_shr_laws
row_shows-laws R L null_ptr (c ∷ cs) = said_shr_laws ffalse tt
row_shows-laws R L (block_ptr b o) cs = beside_shr_laws _ _ (cells_show-laws R L b o cs) (said_shr_laws (bounded R cs) tt)

module _ {M : Type 1} {𝓤 : Ura M} (𝓛 : Logic 𝓤) (l : Lft) (R : RattleType) (L : Laws R) (outlives : Incl l R.lives) where
  module _ (b : ℕ) where
    cell-lends : (o : ℕ) (c : Option R.Denot) → Lends 𝓛 (cell_owns R b o c) (cell_shows R b o c) l
    cell-lends o None = Lends-nothing 𝓛 (cell_owns R b o None) l
    cell-lends o (Some x) = λ κ ts. Shares-less 𝓛 R R.lives l outlives (L.shares 𝓛) x κ ts b o

    cells-lend : (o : ℕ) (cs : List (Option R.Denot)) → Lends 𝓛 (cells_own R b o cs) (cells_show R b o cs) l
    cells-lend o [] = Lends-nothing 𝓛 ftrue l
    cells-lend o (c ∷ cs) =
        let o' = o + type_size R in
        Lends-both 𝓛 (cell_owns R b o c) (cells_own R b o' cs) (cell_shows R b o c) (cells_show R b o' cs) l (cell-lends o c) (cells-lend o' cs)

  pub row-lends : (start : Ptr) (cs : List (Option R.Denot)) → Lends 𝓛 (row_owns R start cs) (row_shows R start cs) l
  row-lends null_ptr [] = Lends-nothing 𝓛 ftrue l
  row-lends null_ptr (c ∷ cs) = Lends-false 𝓛 (said ffalse) l
  row-lends (block_ptr b o) cs =
      Lends-both 𝓛 (cells_own R b o cs) (bounded R cs) (cells_show R b o cs) (said (bounded R cs)) l (cells-lend b o cs) (Lends-said 𝓛 (bounded R cs) tt l)
