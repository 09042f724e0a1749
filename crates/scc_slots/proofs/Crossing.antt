-- A row may cross threads if its entries may. The right to its block may cross threads if the allocator may.
use Rattle.std.specs.Prelude.{ℕ, ◌+◌, List, [], ◌∷◌, Option, Some, None}
use Rattle.std.specs.Mem.{type_size}
use base.Fraction.{full_share}
use base.Shift.{Keyless}
use denote.RattleType.{RattleType}
use denote.RawPtr.{Ptr, block_ptr, null_ptr}
use denote.Struct.Struct.{exits_of}
use denote.Struct.Owning.{shape, fields, to}
use denote.Param.Send.{IsSend, IsSync, Common, AllSend, part_keyless, owning_send, struct_send, struct_sync, sendable}
use Rattle.core.specs.declared.alloc.Allocator.{Ghosts}
use Rattle.std_alloc.proofs.SendSync.{FreesAnywhere, quiet}
use Rattle.scc_slots.specs.Owned.{cells_own, cells_show, right_owns, row_owns, row_shows}
use Rattle.scc_slots.specs.contracts.row.Right as Right
use Rattle.scc_slots.specs.contracts.row.Row as Row

module _ (R : RattleType) where
  cells-keyless : IsSend R → (b o : ℕ) (cs : List (Option R.Denot)) → Keyless (cells_own R b o cs)
  cells-keyless s b o [] = tt
  cells-keyless s b o (None ∷ cs) = (tt, cells-keyless s b (o + type_size R) cs)
  cells-keyless s b o (Some x ∷ cs) = (part_keyless R s full_share x b o, cells-keyless s b (o + type_size R) cs)

  row-keyless : IsSend R → (start : Ptr) (cs : List (Option R.Denot)) → Keyless (row_owns R start cs)
  row-keyless s null_ptr [] = tt
  row-keyless s null_ptr (c ∷ cs) = tt
  row-keyless s (block_ptr b o) cs = (cells-keyless s b o cs, tt)

  cells-common : IsSync R → (b o : ℕ) (cs : List (Option R.Denot)) → Common (cells_show R b o cs)
  cells-common y b o [] κ = tt
  cells-common y b o (None ∷ cs) κ = (tt, cells-common y b (o + type_size R) cs κ)
  cells-common y b o (Some x ∷ cs) κ = (y.shared x b o κ, cells-common y b (o + type_size R) cs κ)

  row-common : IsSync R → (start : Ptr) (cs : List (Option R.Denot)) → Common (row_shows R start cs)
  row-common y null_ptr [] κ = tt
  row-common y null_ptr (c ∷ cs) κ = tt
  row-common y (block_ptr b o) cs κ = (cells-common y b o cs κ, tt)

  pub row-send : IsSend R → IsSend (Row.the_row R)
  row-send s =
      let T = Row.the_type R in let all : AllSend (fields T) = (search sendable, tt) in
      owning_send T all (λ d. row-keyless s d.start d.cells) (λ k. quiet (to T) (exits_of k (fields T)) ((struct_send (shape T) all).leaving k))

  pub row-sync : IsSync R → IsSync (Row.the_row R)
  row-sync y = let T = Row.the_type R in record { shared = λ d b o κ. ((struct_sync (shape T) (search sendable, tt)).shared (to T d) b o κ, row-common y d.start d.cells κ) }

  module _ (A : RattleType) (g : Ghosts A.Denot) where
    right-keyless : FreesAnywhere A.Denot g → (alloc : A.Denot) (start : Ptr) (n : ℕ) → Keyless (right_owns R (g.dealloc_token alloc) start n)
    right-keyless frees alloc null_ptr n = tt
    right-keyless frees alloc (block_ptr b o) n = frees.frees alloc _ (block_ptr b o)

    pub right-send : FreesAnywhere A.Denot g → IsSend (Right.the_row R A g)
    right-send frees =
        let T = Right.the_type R A g in let all : AllSend (fields T) = (search sendable, tt) in
        owning_send T all (λ d. right-keyless frees d.alloc d.start d.count) (λ k. quiet (to T) (exits_of k (fields T)) ((struct_send (shape T) all).leaving k))

    pub right-sync : IsSync (Right.the_row R A g)
    right-sync = let T = Right.the_type R A g in record { shared = λ d b o κ. ((struct_sync (shape T) (search sendable, tt)).shared (to T d) b o κ, tt) }
