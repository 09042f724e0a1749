-- `take_over` reads the entries of two cells, which may be one, and writes the second one into the first cell. Assumes
-- `Logic`.
use Rattle.std.proofs.Common.{◌≡◌, ℕ, ◌+◌, ◌*◌, ◌^◌, ◌<◌, List, [], ◌∷◌, ◌++◌, length, set, get_or, Some, None, inl, inr, refl, sym, ap, subst, ◌∙◌, arith}
use Rattle.std.proofs.lemmas.List.{get_or-set_same, get_or-set_other}
use borrow.Table.OneValue.{part_in}
use lib.ListN.{length-set}
use base.Fml.{froom, ftrue, flft, fat}
use base.Fraction.{full_share}
use base.Logic.{SProp, emp}
use mir.MapTy.{inst_fn}
use mir.Syntax.{Fn, w64}
use mir.Val.{Val, vptr, vint}
use prog.Wp.{WpFn}
use contract.BorrowLft.{◌⊑◌}
use contract.Monad.{fact, fact_i}
use contract.Running.{tables}
use types.Kit.{by, use0, ‵, raw, ◌⊛◌, prop, at_ret, ◌$◌, ◌∵◌, !, qed, move, keep, use1, use2, split, join, rewrite, regoal, fsplit, fsplit3, fjoin, fjoin3, feq_i, feq_l, flt_l, flt_i}
use types.Part.{whole, sub}
use types.Run.{init, load, look, stop, fld, of_opd, bin, size_lit, assigns, first, blocks, exec, returns, enter}
use types.ByLocal.{alloc_all, pass_all, free_all, look_at, get, get_in, through, sets, sets_last, take_at, give_at, env}
use denote.Builtin.{usize}
use denote.Exit.{yes, no}
use denote.Param.{layout}
use denote.Param.Laws.{param_laws}
use denote.RattleType.{RattleType, owns}
use denote.RawPtr.{Ptr, in_a_block}
use denote.Signature.{plain, types_at}
use denote.Steps.{nothing, opens, closes, heard}
use denote.Triple.Clauses.{Ended}
use denote.Triple.Walked.{Stays, walk_of, stay_dropped, stay_ref, Goes-dropped, Goes-ref}
use Rattle.core.proofs.mem.Param.{El, R, args, elτ}
use Rattle.core.proofs.ptr.Rows.{times_below, one_below}
use Rattle.std.proofs.raw_atomic.Walks.{proved_at, leaves}
use Rattle.std_alloc.proofs.RawLayout.{as_raw, as_written}
use Rattle.std_alloc.proofs.RcSteps.{word, word-Good}
use Rattle.std_alloc.proofs.VecSteps.Shapes.{after}
use Rattle.scc_slots.proofs.Places.{nowhere-owned, Cell, size, others, filled-within, cell_out, cell-out, cell-in}
use Rattle.scc_slots.proofs.Moved.{same_or_not, moved-over, moved-onto}
use Rattle.scc_slots.proofs.row.Row.take_over.Code as code
use Rattle.scc_slots.proofs.row.Row.take_over.Statement.{statement}
use Rattle.scc_slots.proofs.row.Start.TheLaws as start_laws
use Rattle.scc_slots.specs.Owned.{cell_owns, cells_own, row_owns}
use Rattle.scc_slots.specs.CellWords.{IsFilled}
use Rattle.scc_slots.specs.contracts.row.Row as Row
use Rattle.scc_slots.specs.contracts.row.Start as Start
use Rattle.scc_slots.specs.contracts.row.Row.take_over as f
use Rattle.scc_slots.specs.contracts.row.Row.take_over.Key.{name as #take_over}

pub take_over_spec : {M : Type 1} → statement M
take_over_spec 𝓤 𝓛 𝓜 𝓡 wired X L =
    let E : El = record { row = X; laws = L } in
    let T : Ended = f.ended X in
    let W : RattleType = Row.the_row (R E) in
    let S : RattleType = Start.the_row (R E) in
    let fn : Fn = inst_fn (args E) code.function in
    let hs : Stays T.signature.params T.kept = (stay_ref (0 ∷ []) tt (plain (λ _. W)), (stay_dropped (plain (λ _. S)) no, (stay_dropped (plain (λ _. usize)) yes, (stay_dropped (plain (λ _. usize)) yes, tt)))) in
    let c = f.clauses X 𝓛 𝓜.mem 𝓡.returns in
    let C = (tables 𝓤 𝓛.H 𝓜 𝓡 𝓡.env).C in let Λ = (tables 𝓤 𝓛.H 𝓜 𝓡 𝓡.env).Λ in
    proved_at 𝓛 T hs c 𝓜 𝓡
    (Goes-ref 𝓛 2 0 tt (plain (λ _. W)), (Goes-dropped 𝓛 2 (plain (λ _. S)) no (λ κs x v. refl), (Goes-dropped 𝓛 2 (plain (λ _. usize)) yes (λ κs x v. refl), (Goes-dropped 𝓛 2 (plain (λ _. usize)) yes (λ κs x v. refl), tt))))
    (#take_over (args E)) fn (code.unfolded 𝓤 𝓛.H 𝓜 𝓡 wired (X, tt)) (λ y are.
    let κ = y.0.0.0 in let κ' = y.0.0.1.0 in let q = y.0.1.0 in let q' = y.0.1.1.0 in
    let a = y.0.3 in let vss = y.0.4 in
    let Post : Val → SProp 𝓤 = (walk_of 𝓛 T hs c).post y in
    let rb = a.0.ref_ptr.0 in let ro = a.0.ref_ptr.1 in let d = a.0.now in let start = a.1.0 in let cell = a.1.1.0 in let from = a.1.1.1.0 in
    let e1 = (start_laws.lowers (R E) (param_laws 0 X L)).val_is start vss.1.0 are.1.0 in
    let fits : cell < 2 ^ 64 = are.1.1.0.1 in let fits_from : from < 2 ^ 64 = are.1.1.1.0.1 in
    let new : W.Denot = record { of = d.of; start = d.start; cells = set (set d.cells cell (get_or d.cells from None)) from None } in
    qed 𝓛 (((‵ (flft κ q) ⊛ ‵ (flft κ' q') ⊛ ‵ ftrue) ⊛ ‵ (owns (types_at T.signature.params y.0.0) a vss)) ∷ (raw (fact 𝓤 (κ' ⊑ X.lives)) ⊛ raw (fact 𝓤 ((start.first ≡ d.start) × IsFilled d.cells cell × IsFilled d.cells from))) ∷ []) ∵
    move ! (1 ∷ []) $ split ! $ heard ! _ (λ short. heard ! _ (λ asks.
    let x = asks.1.0 in let within = filled-within d.cells cell x asks.1.1 in
    let z = asks.2.0 in let within_from = filled-within d.cells from z asks.2.1 in
    split ! $ split ! $ move ! (2 ∷ []) $ fsplit ! $ fsplit3 ! $ feq_l ! (λ e0. move ! (0 ∷ 1 ∷ 3 ∷ 4 ∷ []) $
    -- [the facts about the row; its borrow; the token; the other tokens]
    regoal ! (λ (ws : List Val). prop (WpFn 𝓤 𝓛.H C Λ fn ws Post)) (λ i. e0 i ++ (e1 i ++ (are.1.1.0.0 i ++ (are.1.1.1.0.0 i ++ [])))) refl $
    enter ! C Λ fn (vptr rb ro ∷ word start.first ∷ vint w64 cell ∷ vint w64 from ∷ []) Post $
    alloc_all ! (λ l. pass_all ! refl ((tt, tt), (word-Good [] start.first, ((tt, record { fits = fits }), ((tt, record { fits = fits_from }), tt)))) $
    let En = env fn.locals l in
    opens ! tt W {h = d} rb ro (λ us. move ! (1 ∷ []) $ fsplit ! $ move ! (1 ∷ []) $
    in_a_block ! d.start (λ p. row_owns (R E) p d.cells) (nowhere-owned 𝓛 (R E) d.cells cell within) (λ b o e. fsplit ! $ move ! (1 ∷ []) $ flt_l ! (λ small.
    let s = size E in let at = cell * s + o in
    let whole_size : s < 2 ^ 64 = omega (arith, one_below (length d.cells) s (2 ^ 63) (omega arith) small) in
    let far : cell * s < 2 ^ 64 = omega (arith, times_below cell (length d.cells) s (2 ^ 63) (omega arith) small) in
    let far_from : from * s < 2 ^ 64 = omega (arith, times_below from (length d.cells) s (2 ^ 63) (omega arith) small) in let at_from = from * s + o in
    -- [the cells; the field; its cell; the open borrow, in three entries; the other tokens]
    take_at ! 2 $ rewrite ! 0 (λ (p : Ptr). ‵ (fat full_share (layout S) (l 2) 0 (word p))) (asks.0 ∙ e) refl $ give_at ! 2 $
    first ! $ blocks ! $
    sets ! (bin ! (get ! refl) (size_lit ! (record { fits = whole_size })) (record { fits = far })) refl (tt, record { fits = far }) $
    sets ! (bin ! (get_in ! (fld ! refl (stop !)) (sub ! 0 refl (whole !))) (get ! refl) tt) refl (tt, tt) $
    use1 𝓛 (‵ (cell_owns (R E) b at (get_or d.cells cell None)) ⊛ ‵ (others E 𝓛 b o d.cells cell)) (cell-out E 𝓛 b o at d.cells cell within refl) $ split ! $
    rewrite ! 0 (λ (x : Cell E). ‵ (cell_owns (R E) b at x)) asks.1.1 refl $
    cell_out ! L x b at (λ v good.
    sets ! (of_opd ! (load ! (through ! refl (stop !)) (look ! 0 refl))) refl good $
    let one = set d.cells cell None in let two = set one from None in
    let in_one : from < length one = omega (arith, within_from, length-set d.cells cell None) in
    let in_two : cell < length two = omega (arith, within, length-set d.cells cell None, length-set one from None) in
    elim (same_or_not cell from) [
      | inl p ↦
          rewrite ! 0 (λ (k : ℕ). ‵ (fat full_share (layout X) b k v)) (ap (λ k. k * s + o) p) refl $
          sets ! (bin ! (get ! refl) (size_lit ! (record { fits = whole_size })) (record { fits = far_from })) refl (tt, record { fits = far_from }) $
          sets ! (bin ! (get_in ! (fld ! refl (stop !)) (sub ! 0 refl (whole !))) (get ! refl) tt) refl (tt, tt) $
          sets ! (of_opd ! (load ! (through ! refl (stop !)) (look ! 0 refl))) refl good $
          rewrite ! 0 (λ (k : ℕ). ‵ (fat full_share (layout X) b k v)) (sym (ap (λ k. k * s + o) p)) refl $
          use1 𝓛 (‵ (froom (elτ E) b at)) (𝓛.laws.at_room (elτ E) b at v) $
          sets ! (bin ! (get ! refl) (size_lit ! (record { fits = whole_size })) (record { fits = far })) refl (tt, record { fits = far }) $
          sets ! (bin ! (get_in ! (fld ! refl (stop !)) (sub ! 0 refl (whole !))) (get ! refl) tt) refl (tt, tt) $
          sets ! (of_opd ! (get ! refl)) refl good $
          assigns ! (of_opd ! (get ! refl)) (through ! refl (stop !)) (init ! 0 refl good) $
          sets_last ! (of_opd ! (get ! refl)) refl good $
          exec ! C Λ En (after 1 fn.body) (at_ret En Post) $ sets ! (of_opd ! (get ! refl)) refl good $
          -- [the cell; the entry; the other cells; ..]
          use1 𝓛 (‵ (froom (elτ E) b at)) (𝓛.laws.at_room (elτ E) b at v) $ as_raw ! (elτ E) b at $ move ! (0 ∷ 2 ∷ []) $
          use2 𝓛 (‵ (cells_own (R E) b o (set d.cells cell None))) (cell-in E 𝓛 b o at d.cells cell None within refl) $
          rewrite ! 0 (λ (cs : List (Cell E)). ‵ (cells_own (R E) b o cs)) (moved-onto d.cells cell from p) refl $
          flt_i ! (length new.cells * s) (2 ^ 63) (subst (λ k. k * s < 2 ^ 63) (sym (length-set (set d.cells cell (get_or d.cells from None)) from None ∙ length-set d.cells cell (get_or d.cells from None))) small) $ move ! (1 ∷ 0 ∷ []) $ fjoin ! $
          rewrite ! 0 (λ (p : Ptr). ‵ (row_owns (R E) p new.cells)) (sym e) refl $ move ! (2 ∷ 0 ∷ []) $ fjoin ! $ move ! (2 ∷ 0 ∷ 3 ∷ 4 ∷ 5 ∷ []) $ closes ! tt W new us rb ro $
          -- [the facts about the row; its borrow; the token; the entry; the other tokens]
          returns ! (look_at ! 0 refl) $ free_all ! refl $ keep ! (0 ∷ 1 ∷ 2 ∷ 3 ∷ 4 ∷ []) $
          use0 𝓛 (raw (fact 𝓤 ((new.start ≡ d.start) × (new.cells ≡ set (set d.cells cell (get_or d.cells from None)) from None)))) (fact_i 𝓤 _ (emp 𝓤) (refl, refl)) $
          use0 𝓛 (raw (fact 𝓤 (get_or d.cells cell None ≡ Some x))) (fact_i 𝓤 _ (emp 𝓤) asks.1.1) $ join ! $
          move ! (3 ∷ 5 ∷ []) $ join ! $ move ! (2 ∷ 3 ∷ []) $ feq_i ! (List Val) vss.0 (vptr rb ro ∷ []) e0 $ fjoin3 ! $
          nothing ! $ nothing ! $ fjoin ! $ nothing ! $ fjoin ! $ nothing ! $ fjoin ! $ move ! (1 ∷ 0 ∷ []) $ fjoin ! $
          -- [the rest of the parameters; the tokens; the facts of the clauses; the entry]
          move ! (1 ∷ 0 ∷ 3 ∷ 2 ∷ []) $ by ! (leaves 𝓛 T hs c y v x (new, (tt, (tt, (tt, tt)))) (tt, (tt, (tt, (tt, tt)))))
      | inr n ↦
          use1 𝓛 (‵ (froom (elτ E) b at)) (𝓛.laws.at_room (elτ E) b at v) $ as_raw ! (elτ E) b at $ move ! (0 ∷ 2 ∷ []) $
          use2 𝓛 (‵ (cells_own (R E) b o one)) (cell-in E 𝓛 b o at d.cells cell None within refl) $
          sets ! (bin ! (get ! refl) (size_lit ! (record { fits = whole_size })) (record { fits = far_from })) refl (tt, record { fits = far_from }) $
          sets ! (bin ! (get_in ! (fld ! refl (stop !)) (sub ! 0 refl (whole !))) (get ! refl) tt) refl (tt, tt) $
          use1 𝓛 (‵ (cell_owns (R E) b at_from (get_or one from None)) ⊛ ‵ (others E 𝓛 b o one from)) (cell-out E 𝓛 b o at_from one from in_one refl) $ split ! $
          rewrite ! 0 (λ (k : Cell E). ‵ (cell_owns (R E) b at_from k)) (get_or-set_other d.cells cell from None None (λ e. n (sym e)) ∙ asks.2.1) refl $
          cell_out ! L z b at_from (λ w fine.
          sets ! (of_opd ! (load ! (through ! refl (stop !)) (look ! 0 refl))) refl fine $
          use1 𝓛 (‵ (froom (elτ E) b at_from)) (𝓛.laws.at_room (elτ E) b at_from w) $ as_raw ! (elτ E) b at_from $ move ! (0 ∷ 2 ∷ []) $
          use2 𝓛 (‵ (cells_own (R E) b o two)) (cell-in E 𝓛 b o at_from one from None in_one refl) $
          sets ! (bin ! (get ! refl) (size_lit ! (record { fits = whole_size })) (record { fits = far })) refl (tt, record { fits = far }) $
          sets ! (bin ! (get_in ! (fld ! refl (stop !)) (sub ! 0 refl (whole !))) (get ! refl) tt) refl (tt, tt) $
          use1 𝓛 (‵ (cell_owns (R E) b at (get_or two cell None)) ⊛ ‵ (others E 𝓛 b o two cell)) (cell-out E 𝓛 b o at two cell in_two refl) $ split ! $
          rewrite ! 0 (λ (k : Cell E). ‵ (cell_owns (R E) b at k)) (get_or-set_other one from cell None None n ∙ get_or-set_same d.cells cell None None within) refl $ as_written ! (elτ E) b at $
          sets ! (of_opd ! (get ! refl)) refl fine $
          assigns ! (of_opd ! (get ! refl)) (through ! refl (stop !)) (init ! 0 refl fine) $
          sets_last ! (of_opd ! (get ! refl)) refl good $
          exec ! C Λ En (after 1 fn.body) (at_ret En Post) $ sets ! (of_opd ! (get ! refl)) refl good $
          -- [the cell; the other cells; its new entry; the entry; ..]
          move ! (0 ∷ 2 ∷ []) $ use2 𝓛 (‵ (cell_owns (R E) b at (Some z))) (part_in 𝓛 (R E) refl full_share z b at w) $
          use2 𝓛 (‵ (cells_own (R E) b o (set two cell (Some z)))) (cell-in E 𝓛 b o at two cell (Some z) in_two refl) $
          rewrite ! 0 (λ (cs : List (Cell E)). ‵ (cells_own (R E) b o cs)) (moved-over d.cells cell from z n asks.2.1) refl $
          flt_i ! (length new.cells * s) (2 ^ 63) (subst (λ k. k * s < 2 ^ 63) (sym (length-set (set d.cells cell (get_or d.cells from None)) from None ∙ length-set d.cells cell (get_or d.cells from None))) small) $ move ! (1 ∷ 0 ∷ []) $ fjoin ! $
          rewrite ! 0 (λ (p : Ptr). ‵ (row_owns (R E) p new.cells)) (sym e) refl $ move ! (2 ∷ 0 ∷ []) $ fjoin ! $ move ! (2 ∷ 0 ∷ 3 ∷ 4 ∷ 5 ∷ []) $ closes ! tt W new us rb ro $
          -- [the facts about the row; its borrow; the token; the entry; the other tokens]
          returns ! (look_at ! 0 refl) $ free_all ! refl $ keep ! (0 ∷ 1 ∷ 2 ∷ 3 ∷ 4 ∷ []) $
          use0 𝓛 (raw (fact 𝓤 ((new.start ≡ d.start) × (new.cells ≡ set (set d.cells cell (get_or d.cells from None)) from None)))) (fact_i 𝓤 _ (emp 𝓤) (refl, refl)) $
          use0 𝓛 (raw (fact 𝓤 (get_or d.cells cell None ≡ Some x))) (fact_i 𝓤 _ (emp 𝓤) asks.1.1) $ join ! $
          move ! (3 ∷ 5 ∷ []) $ join ! $ move ! (2 ∷ 3 ∷ []) $ feq_i ! (List Val) vss.0 (vptr rb ro ∷ []) e0 $ fjoin3 ! $
          nothing ! $ nothing ! $ fjoin ! $ nothing ! $ fjoin ! $ nothing ! $ fjoin ! $ move ! (1 ∷ 0 ∷ []) $ fjoin ! $
          -- [the rest of the parameters; the tokens; the facts of the clauses; the entry]
          move ! (1 ∷ 0 ∷ 3 ∷ 2 ∷ []) $ by ! (leaves 𝓛 T hs c y v x (new, (tt, (tt, (tt, tt)))) (tt, (tt, (tt, (tt, tt))))))
    ])))))))))
