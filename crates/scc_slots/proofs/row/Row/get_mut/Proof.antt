-- `get_mut` lends one entry of the row. At the end, the row holds the entry's last value. Assumes `Logic`.
use Rattle.std.proofs.Common.{◌≡◌, ℕ, ◌+◌, ◌*◌, ◌^◌, ◌<◌, List, [], ◌∷◌, ◌++◌, length, set, get_or, Some, None, refl, sym, subst, ◌∙◌, arith}
use lib.ListN.{length-set}
use base.Fml.{Fml, GName, fsep, ftrue, flft, fat}
use base.Fraction.{full_share}
use base.Logic.{SProp, ent, sep, emp, id⊢}
use mir.MapTy.{inst_fn}
use mir.Syntax.{Fn, named, w64}
use mir.Val.{Val, vptr, vint}
use prog.Wp.{WpFn}
use contract.BorrowLft.{◌⊑◌}
use contract.Monad.{fact, fact_i}
use contract.Running.{tables}
use denote.Follow.{follows, Part, lends_Part}
use seplogic.Ra.Ura.{Ura}
use types.Logic.{Logic, sem}
use Rattle.scc_slots.specs.RowLends.{with_cells}
use types.Kit.{by, use0, fpack, group, later, some, await, pick, ‵, raw, ◌⊛◌, prop, at_ret, ◌$◌, ◌∵◌, !, qed, move, keep, use1, use2, split, join, rewrite, regoal, fsplit, fsplit3, fjoin, fjoin3, feq_l, flt_l, flt_i, done}
use types.Part.{whole, sub}
use types.Run.{addr, stop, fld, of_opd, bin, size_lit, first, blocks, exec, returns, enter}
use types.ByLocal.{alloc_all, pass_all, free_all, look_at, get, get_in, through, sets, sets_last, take_at, give_at, env}
use denote.Builtin.{usize}
use denote.Exit.{yes, no}
use denote.Memory.{mem, cell_at, part_of}
use denote.Param.{layout}
use denote.Param.Laws.{param_laws}
use denote.RattleType.{RattleType, owns}
use denote.RawPtr.{Ptr, block_ptr, in_a_block}
use denote.Ref.{MutBor, MutRef}
use denote.Signature.{mut_ref_to, plain, types_at}
use denote.Steps.{nothing, opens, heard}
use denote.Triple.Clauses.{Ended}
use denote.Triple.Walked.{Stays, walk_of, stay_dropped, Goes-dropped, Goes-spent_ref}
use Rattle.core.proofs.mem.Param.{El, R, args}
use Rattle.core.proofs.ptr.Rows.{times_below, one_below}
use Rattle.std.proofs.raw_atomic.Walks.{proved_at, leaves}
use Rattle.std_alloc.proofs.RcSteps.{word, word-Good}
use Rattle.std_alloc.proofs.VecSteps.Shapes.{after}
use Rattle.scc_slots.proofs.Places.{nowhere-owned, Field, Cell, size, others, filled-within, cell-out, cell-in}
use Rattle.scc_slots.proofs.row.Row.get_mut.Code as code
use Rattle.scc_slots.proofs.row.Row.get_mut.Statement.{statement}
use Rattle.scc_slots.proofs.row.Start.TheLaws as start_laws
use Rattle.scc_slots.specs.Owned.{cell_owns, cells_own, row_owns}
use Rattle.scc_slots.specs.CellWords.{IsFilled}
use Rattle.scc_slots.specs.contracts.row.Row as Row
use Rattle.scc_slots.specs.contracts.row.Start as Start
use Rattle.scc_slots.specs.contracts.row.Row.get_mut as f
use Rattle.scc_slots.specs.contracts.row.Row.get_mut.Key.{name as #get_mut}

module _ (E : El) {M : Type 1} {𝓤 : Ura M} (𝓛 : Logic 𝓤) (d : (Row.the_row (R E)).Denot) (cell rb ro b o : ℕ) (us : List Val) where
  abbrev W : RattleType
  W = Row.the_row (R E)

  abbrev at : ℕ
  at = cell * size E + o

  -- the row, if the entry in the cell is w
  abbrev new : E.row.Denot → W.Denot
  new w = with_cells d (set d.cells cell (Some w))

  -- all that the row owns, except the entry
  abbrev rest : Fml
  rest = fsep (others E 𝓛 b o d.cells cell) (fsep ((Field E).own_val (tt, tt) us) (cell_at full_share W.mir us rb ro))

  whole_again : d.start ≡ block_ptr b o → cell < length d.cells → length d.cells * size E < 2 ^ 63
      → (w : E.row.Denot) → ent 𝓤 (sep 𝓤 (sem 𝓛 ((mem (R E)).own_at w b at)) (sem 𝓛 rest)) (sem 𝓛 ((mem W).own_at (new w) rb ro))
  unfolding part_of
  whole_again e within small w =
      qed 𝓛 (‵ (cell_owns (R E) b at (Some w)) ∷ ‵ rest ∷ []) ∵ move ! (1 ∷ []) $ fsplit3 ! $ move ! (3 ∷ 0 ∷ []) $
      use2 𝓛 (‵ (cells_own (R E) b o (new w).cells)) (cell-in E 𝓛 b o at d.cells cell (Some w) within refl) $
      flt_i ! (length (new w).cells * size E) (2 ^ 63) (subst (λ k. k * size E < 2 ^ 63) (sym (length-set d.cells cell (Some w))) small) $ move ! (1 ∷ 0 ∷ []) $ fjoin ! $
      rewrite ! 0 (λ (p : Ptr). ‵ (row_owns (R E) p (new w).cells)) (sym e) refl $ move ! (1 ∷ 0 ∷ []) $ fjoin ! $ move ! (1 ∷ 0 ∷ []) $ fjoin ! $
      fpack ! (List Val) (λ vs. fsep (cell_at full_share W.mir vs rb ro) (W.own_val (new w) vs)) us $ done !

pub get_mut_spec : {M : Type 1} → statement M
get_mut_spec 𝓤 𝓛 𝓜 𝓡 wired X L =
    let E : El = record { row = X; laws = L } in
    let T : Ended = f.ended X in
    let W : RattleType = Row.the_row (R E) in
    let S : RattleType = Start.the_row (R E) in
    let fn : Fn = inst_fn (args E) code.function in
    let hs : Stays T.signature.params T.kept = (stay_dropped (mut_ref_to (0 ∷ []) tt (plain (λ _. W))) no, (stay_dropped (plain (λ _. S)) no, (stay_dropped (plain (λ _. usize)) yes, tt))) in
    let c = f.clauses X 𝓛 𝓜.mem 𝓡.returns in
    let C = (tables 𝓤 𝓛.H 𝓜 𝓡 𝓡.env).C in let Λ = (tables 𝓤 𝓛.H 𝓜 𝓡 𝓡.env).Λ in
    proved_at 𝓛 T hs c 𝓜 𝓡
    (Goes-spent_ref 𝓛 2 (0 ∷ []) tt (plain (λ _. W)), (Goes-dropped 𝓛 2 (plain (λ _. S)) no (λ κs x v. refl), (Goes-dropped 𝓛 2 (plain (λ _. usize)) yes (λ κs x v. refl), tt)))
    (#get_mut (args E)) fn (code.unfolded 𝓤 𝓛.H 𝓜 𝓡 wired (X, tt)) (λ y are.
    let κ = y.0.0.0 in let κ' = y.0.0.1.0 in let q = y.0.1.0 in let q' = y.0.1.1.0 in
    let a = y.0.3 in let vss = y.0.4 in
    let Post : Val → SProp 𝓤 = (walk_of 𝓛 T hs c).post y in
    let rb = a.0.ref_ptr.0 in let ro = a.0.ref_ptr.1 in let d = a.0.now in let start = a.1.0 in let cell = a.1.1.0 in
    let e1 = (start_laws.lowers (R E) (param_laws 0 X L)).val_is start vss.1.0 are.1.0 in
    let fits : cell < 2 ^ 64 = are.1.1.0.1 in
    qed 𝓛 (((‵ (flft κ q) ⊛ ‵ (flft κ' q') ⊛ ‵ ftrue) ⊛ ‵ (owns (types_at T.signature.params y.0.0) a vss)) ∷ (raw (fact 𝓤 (κ' ⊑ X.lives)) ⊛ raw (fact 𝓤 ((start.first ≡ d.start) × IsFilled d.cells cell))) ∷ []) ∵
    move ! (1 ∷ []) $ split ! $ heard ! _ (λ short. heard ! _ (λ asks.
    let x = asks.1.0 in let within = filled-within d.cells cell x asks.1.1 in
    split ! $ split ! $ move ! (2 ∷ []) $ fsplit ! $ fsplit3 ! $ feq_l ! (λ e0. move ! (0 ∷ 1 ∷ 3 ∷ 4 ∷ []) $
    -- [the facts about the row; its borrow; the token; the other tokens]
    regoal ! (λ (ws : List Val). prop (WpFn 𝓤 𝓛.H C Λ fn ws Post)) (λ i. e0 i ++ (e1 i ++ (are.1.1.0.0 i ++ []))) refl $
    enter ! C Λ fn (vptr rb ro ∷ word start.first ∷ vint w64 cell ∷ []) Post $
    alloc_all ! (λ l. pass_all ! refl ((tt, tt), (word-Good [] start.first, ((tt, record { fits = fits }), tt))) $
    let En = env fn.locals l in
    opens ! tt W {h = d} rb ro (λ us. move ! (1 ∷ []) $ fsplit ! $ move ! (1 ∷ []) $
    in_a_block ! d.start (λ p. row_owns (R E) p d.cells) (nowhere-owned 𝓛 (R E) d.cells cell within) (λ b o e. fsplit ! $ move ! (1 ∷ []) $ flt_l ! (λ small.
    let s = size E in let at = cell * s + o in
    let whole_size : s < 2 ^ 64 = omega (arith, one_below (length d.cells) s (2 ^ 63) (omega arith) small) in
    let far : cell * s < 2 ^ 64 = omega (arith, times_below cell (length d.cells) s (2 ^ 63) (omega arith) small) in
    -- [the cells; the field; its cell; the open borrow, in three entries; the other tokens]
    take_at ! 2 $ rewrite ! 0 (λ (p : Ptr). ‵ (fat full_share (layout S) (l 2) 0 (word p))) (asks.0 ∙ e) refl $ give_at ! 2 $
    first ! $ blocks ! $
    sets ! (bin ! (get ! refl) (size_lit ! (record { fits = whole_size })) (record { fits = far })) refl (tt, record { fits = far }) $
    sets ! (bin ! (get_in ! (fld ! refl (stop !)) (sub ! 0 refl (whole !))) (get ! refl) tt) refl (tt, tt) $
    use1 𝓛 (‵ (cell_owns (R E) b at (get_or d.cells cell None)) ⊛ ‵ (others E 𝓛 b o d.cells cell)) (cell-out E 𝓛 b o at d.cells cell within refl) $ split ! $
    rewrite ! 0 (λ (x : Cell E). ‵ (cell_owns (R E) b at x)) asks.1.1 refl $
    sets_last ! (addr ! (through ! refl (stop !))) refl (tt, tt) $
    exec ! C Λ En (after 1 fn.body) (at_ret En Post) $ sets ! (of_opd ! (get ! refl)) refl (tt, tt) $
    -- [the entry; the other cells; the field; its cell; the open borrow, in three entries; the other tokens]
    move ! (1 ∷ 2 ∷ 3 ∷ []) $ fjoin3 ! $ move ! (2 ∷ 3 ∷ 4 ∷ 1 ∷ 0 ∷ []) $ group ! 5 $
    let others_own = rest E 𝓛 d cell rb ro b o us in let back = whole_again E 𝓛 d cell rb ro b o us e within small in let with_entry = new E 𝓛 d cell rb ro b o us in
    use1 𝓛 (later (some (λ (δ : GName). raw (Part 𝓛 W (R E) with_entry (named 0) κ q rb ro b at a.0.ghost_name (sem 𝓛 others_own) back x δ))))
    (lends_Part 𝓛 W (R E) with_entry (named 0) κ q rb ro b at a.0.ghost_name (sem 𝓛 others_own) back (W.coded.code d) (W.coded.code d) x) $ await ! tt $ pick ! (λ δ.
    let r : MutBor E.row.Denot = record { ref_ptr = (b, at); ghost_name = δ; now = x } in
    -- [the lent entry; the other tokens]
    returns ! (look_at ! 0 refl) $ free_all ! refl $ keep ! (0 ∷ 1 ∷ []) $
    use1 𝓛 (‵ ((MutRef (named 0) κ (R E)).own_val r (vptr b at ∷ [])) ⊛ ‵ (flft κ q) ⊛ ‵ (follows W (R E) a.0.ghost_name δ with_entry)) (id⊢ 𝓤 _) $ split ! $ move ! (1 ∷ []) $ split ! $
    use0 𝓛 (raw (fact 𝓤 (get_or d.cells cell None ≡ Some x))) (fact_i 𝓤 _ (emp 𝓤) asks.1.1) $ move ! (2 ∷ 0 ∷ []) $ join ! $ move ! (1 ∷ 3 ∷ []) $ join ! $
    nothing ! $ nothing ! $ fjoin ! $ nothing ! $ fjoin ! $ nothing ! $ fjoin ! $
    -- [the rest of the parameters; the tokens; the facts of the clauses; the `&mut`]
    move ! (1 ∷ 0 ∷ 3 ∷ 2 ∷ []) $ by ! (leaves 𝓛 T hs c y (vptr b at) r (tt, (tt, (tt, tt))) (tt, (tt, (tt, tt)))))))))))))
