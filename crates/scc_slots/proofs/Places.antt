-- One cell is taken out of a row and put back with any content. The room of a block is a row of free cells. Assumes `Logic`.
use Rattle.std.proofs.Common.{◌≡◌, ℕ, zero, suc, ◌+◌, ◌*◌, ◌<◌, List, [], ◌∷◌, length, replicate, get_or, set, Option, Some, None, refl, subst, arith}
use native.Mathlib.Nat.{zero-mul, suc-mul}
use seplogic.Ra.Ura.{Ura}
use mir.Syntax.{ty_array}
use base.Logic.{ent, sep, via, fst∗, snd∗, id⊢, never}
use base.Fml.{Fml, Lft, ftrue, fsep, froom}
use types.Logic.{Logic, sem}
use base.Fml.{fat}
use base.Fraction.{full_share}
use borrow.Table.OneValue.{part_out}
use denote.Laws.{Is, shows}
use denote.Memory.{part_at}
use denote.Param.{layout, param}
use denote.Param.Laws.{Laws, param_laws}
use denote.RattleType.{RattleType}
use denote.RawPtr.{Ptr, RawPtr, null_ptr, ptr_val}
use denote.Steps.{owned, peeks}
use denote.Struct.Owning.{shape}
use denote.Struct.Declared.{shape as flat_shape}
use denote.Struct.Struct.{Struct, Struct-Makes}
use Rattle.core.proofs.marker.PhantomData.TheLaws as phantom
use Rattle.scc_slots.proofs.row.Start.TheLaws as start_laws
use Rattle.scc_slots.specs.contracts.row.Start as Start
use Rattle.scc_slots.specs.contracts.row.Row as Row
use mir.Val.{Val, vstruct, vcons, vnil}
use Rattle.std_alloc.proofs.RcSteps.{Good, word}
use types.Kit.{Item, Goal, Seq, Step, some, pick, ‵, ◌⊛◌, ◌$◌, ◌∵◌, !, qed, by, move, keep, use1, use2, split, frame, fsplit, fjoin, done}
use Rattle.std.specs.Mem.{type_size}
use Rattle.core.proofs.mem.Param.{El, R, elτ}
use Rattle.scc_slots.specs.Owned.{cell_owns, cells_own, cell_shows, cells_show, row_owns, row_shows}

-- a struct of one field that has no bytes
abbrev pub mark : Val
mark = vstruct (vcons (vstruct vnil) vnil)

module _ (E : El) where
  abbrev pub Cell : Type 0
  Cell = Option E.row.Denot

  -- the one field of a row, which has no bytes
  abbrev pub Field : RattleType
  Field = Struct (shape (Row.the_type (R E)))

  abbrev pub size : ℕ
  size = type_size (R E)

-- the index of a cell that holds an entry is below the number of cells
pub filled-within : {X : Type 0} (cs : List (Option X)) (i : ℕ) (x : X) → get_or cs i None ≡ Some x → i < length cs
filled-within [] i x e = cc
filled-within (c ∷ cs) zero x e = omega arith
filled-within (c ∷ cs) (suc i) x e = let h = filled-within cs i x e in omega arith

-- the i-th cell lies i sizes of an entry after the first cell
first-at : (s o at : ℕ) → at ≡ 0 * s + o → o ≡ at
first-at s o at e = omega (arith, zero-mul s)

later-at : (s i o at : ℕ) → at ≡ suc i * s + o → at ≡ i * s + (o + s)
later-at s i o at e = omega (arith, suc-mul i s)

module _ (E : El) {M : Type 1} {𝓤 : Ura M} (𝓛 : Logic 𝓤) (b : ℕ) where
  open 𝓛 use {H}

  abbrev Here : ℕ → Cell E → Fml
  Here = cell_owns (R E) b

  abbrev All : ℕ → List (Cell E) → Fml
  All = cells_own (R E) b

  -- all cells but the i-th
  abbrev pub others : ℕ → List (Cell E) → ℕ → Fml
  others o [] i = ftrue
  others o (c ∷ cs) zero = All (o + size E) cs
  others o (c ∷ cs) (suc i) = fsep (Here o c) (others (o + size E) cs i)

  pub cell-out : (o at : ℕ) (cs : List (Cell E)) (i : ℕ) → i < length cs → at ≡ i * size E + o
      → ent 𝓤 (sem 𝓛 (All o cs)) (sep 𝓤 (sem 𝓛 (Here at (get_or cs i None))) (sem 𝓛 (others o cs i)))
  cell-out o at [] i h e = absurd (omega arith)
  cell-out o at (c ∷ cs) zero h e =
      subst (λ (k : ℕ). ent 𝓤 (sem 𝓛 (All o (c ∷ cs))) (sep 𝓤 (sem 𝓛 (Here k c)) (sem 𝓛 (All (o + size E) cs)))) (first-at (size E) o at e) (id⊢ 𝓤 _)
  cell-out o at (c ∷ cs) (suc i) h e =
      let rest = others (o + size E) cs i in
      qed 𝓛 (‵ (All o (c ∷ cs)) ∷ []) ∵ fsplit ! $ move ! (1 ∷ []) $
      use1 𝓛 (‵ (Here at (get_or cs i None)) ⊛ ‵ rest) (cell-out (o + size E) at cs i (omega arith) (later-at (size E) i o at e)) $ split ! $
      frame ! $ move ! (1 ∷ 0 ∷ []) $ fjoin ! $ done !

  pub cell-in : (o at : ℕ) (cs : List (Cell E)) (i : ℕ) (c' : Cell E) → i < length cs → at ≡ i * size E + o
      → ent 𝓤 (sep 𝓤 (sem 𝓛 (Here at c')) (sem 𝓛 (others o cs i))) (sem 𝓛 (All o (set cs i c')))
  cell-in o at [] i c' h e = absurd (omega arith)
  cell-in o at (c ∷ cs) zero c' h e =
      subst (λ (k : ℕ). ent 𝓤 (sep 𝓤 (sem 𝓛 (Here k c')) (sem 𝓛 (All (o + size E) cs))) (sem 𝓛 (All o (c' ∷ cs)))) (first-at (size E) o at e) (id⊢ 𝓤 _)
  cell-in o at (c ∷ cs) (suc i) c' h e =
      qed 𝓛 (‵ (Here at c') ∷ ‵ (others o (c ∷ cs) (suc i)) ∷ []) ∵ move ! (1 ∷ []) $ fsplit ! $ move ! (2 ∷ 1 ∷ []) $
      use2 𝓛 (‵ (All (o + size E) (set cs i c'))) (cell-in (o + size E) at cs i c' (omega arith) (later-at (size E) i o at e)) $
      move ! (1 ∷ 0 ∷ []) $ fjoin ! $ done !

  module _ (κ : Lft) where
    abbrev Shown : ℕ → List (Cell E) → Fml
    Shown o cs = cells_show (R E) b o cs κ

    pub cell-shown : (o at : ℕ) (cs : List (Cell E)) (i : ℕ) → i < length cs → at ≡ i * size E + o
        → ent 𝓤 (sem 𝓛 (Shown o cs)) (sem 𝓛 (cell_shows (R E) b at (get_or cs i None) κ))
    cell-shown o at [] i h e = absurd (omega arith)
    cell-shown o at (c ∷ cs) zero h e =
        subst (λ (k : ℕ). ent 𝓤 (sem 𝓛 (Shown o (c ∷ cs))) (sem 𝓛 (cell_shows (R E) b k c κ))) (first-at (size E) o at e) (fst∗ 𝓤 (sem 𝓛 (cell_shows (R E) b o c κ)) (sem 𝓛 (Shown (o + size E) cs)))
    cell-shown o at (c ∷ cs) (suc i) h e =
        via 𝓤 (sem 𝓛 (Shown (o + size E) cs)) (snd∗ 𝓤 (sem 𝓛 (cell_shows (R E) b o c κ)) (sem 𝓛 (Shown (o + size E) cs))) (cell-shown (o + size E) at cs i (omega arith) (later-at (size E) i o at e))

  -- the room for n entries is n free cells
  pub room-cells : (n o : ℕ) → ent 𝓤 (H.room (ty_array (elτ E) n) b o) (sem 𝓛 (All o (replicate n None)))
  room-cells zero o = qed 𝓛 (‵ (froom (ty_array (elτ E) 0) b o) ∷ []) ∵ keep ! [] $ done !
  room-cells (suc n) o = qed 𝓛 (‵ (froom (ty_array (elτ E) (suc n)) b o) ∷ []) ∵
      use1 𝓛 (‵ (froom (elτ E) b o) ⊛ ‵ (froom (ty_array (elτ E) n) b (o + size E))) (𝓛.laws.room_uncons (elτ E) n b o) $ split ! $
      use1 𝓛 (‵ (Here o None)) (𝓛.laws.room-raw (elτ E) b o) $ move ! (1 ∷ []) $
      use1 𝓛 (‵ (All (o + size E) (replicate n None))) (room-cells n (o + size E)) $ move ! (1 ∷ 0 ∷ []) $ fjoin ! $ done !

  -- n free cells are the room for n entries
  pub cells-room : (n o : ℕ) → ent 𝓤 (sem 𝓛 (All o (replicate n None))) (H.room (ty_array (elτ E) n) b o)
  cells-room zero o = 𝓛.laws.room_nil (elτ E) b o
  cells-room (suc n) o = qed 𝓛 (‵ (All o (replicate (suc n) None)) ∷ []) ∵ fsplit ! $
      use1 𝓛 (‵ (froom (elτ E) b o)) (𝓛.laws.raw-room (elτ E) b o) $ move ! (1 ∷ []) $
      use1 𝓛 (‵ (froom (ty_array (elτ E) n) b (o + size E))) (cells-room n (o + size E)) $ move ! (1 ∷ 0 ∷ []) $ by ! (𝓛.laws.room_cons (elτ E) n b o)

-- a row without a block has no cells
pub nowhere-owned : {M : Type 1} {𝓤 : Ura M} (𝓛 : Logic 𝓤) (R : RattleType) (cs : List (Option R.Denot)) (i : ℕ) → i < length cs → ent 𝓤 (sem 𝓛 (row_owns R null_ptr cs)) (never 𝓤)
nowhere-owned 𝓛 R [] i h = absurd (omega arith)
nowhere-owned {𝓤 = 𝓤} 𝓛 R (c ∷ cs) i h = id⊢ 𝓤 (never 𝓤)

pub nowhere-shown : {M : Type 1} {𝓤 : Ura M} (𝓛 : Logic 𝓤) (R : RattleType) (cs : List (Option R.Denot)) (κ : Lft) (i : ℕ) → i < length cs → ent 𝓤 (sem 𝓛 (row_shows R null_ptr cs κ)) (never 𝓤)
nowhere-shown 𝓛 R [] κ i h = absurd (omega arith)
nowhere-shown {𝓤 = 𝓤} 𝓛 R (c ∷ cs) κ i h = id⊢ 𝓤 (never 𝓤)

-- a cell with an entry is a cell with one value, and all that the value owns
pub cell_out : {M : Type 1} {𝓤 : Ura M} {𝓛 : Logic 𝓤} {K : Type 0} {Γ : List (Item 𝓤)} {G : Goal 𝓤 𝓛.H} → K → {X : RattleType} (L : Laws X) (x : X.Denot) (b o : ℕ)
    → ((v : Val) → Good (layout X) v → Seq K 𝓛 (‵ (fat full_share (layout X) b o v) ∷ ‵ (X.own_val x (v ∷ [])) ∷ Γ) G)
    → Seq K 𝓛 (‵ (part_at (param 0 X) full_share x b o) ∷ Γ) G
cell_out {𝓛 = 𝓛} t {X} L x b o k =
    use1 𝓛 (some (λ (v : Val). ‵ (fat full_share (layout X) b o v) ⊛ ‵ (X.own_val x (v ∷ [])))) (part_out 𝓛 (param 0 X) refl full_share x b o) $ pick t (λ v. split t $ move t (1 ∷ []) $
    peeks t (param 0 X) (Is (param 0 X)) (shows 𝓛 (param 0 X)) x (v ∷ []) (λ is. move t (1 ∷ 0 ∷ []) $ k v (((param_laws 0 X L).lawful 𝓛).typed x (v ∷ []) is).0))

-- the field of a row has no bytes, and needs no resource
pub field_made : {M : Type 1} {𝓤 : Ura M} {𝓛 : Logic 𝓤} {K : Type 0} {Γ : List (Item 𝓤)} {G : Goal 𝓤 𝓛.H} → K → (E : El) → Step K 𝓛 (‵ ((Field E).own_val (tt, tt) (mark ∷ [])) ∷ Γ) G Γ G
field_made {𝓛 = 𝓛} t E =
    owned t (Field E) (Is (Field E)) (Struct-Makes 𝓛 (shape (Row.the_type (R E))) (phantom.the_field_plain RawPtr, tt)) (tt, tt) (mark ∷ []) ((vstruct vnil ∷ [], tt), (refl, ((tt, (refl, tt)), tt)))

-- a start owns nothing but its word
pub start_made : {M : Type 1} {𝓤 : Ura M} {𝓛 : Logic 𝓤} {K : Type 0} {Γ : List (Item 𝓤)} {G : Goal 𝓤 𝓛.H} → K → (E : El) (p : Ptr) → Step K 𝓛 (‵ ((Struct (flat_shape (Start.the_type (R E)))).own_val (p, tt) (word p ∷ [])) ∷ Γ) G Γ G
start_made {𝓛 = 𝓛} t E p =
    let S = Struct (flat_shape (Start.the_type (R E))) in
    owned t S (Is S) (Struct-Makes 𝓛 (flat_shape (Start.the_type (R E))) (start_laws.the_plain (R E))) (p, tt) (word p ∷ []) ((ptr_val p ∷ [], tt), (refl, (refl, tt)))
