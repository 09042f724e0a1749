-- `put` writes into the room of a free cell. Assumes `Logic`.
use Rattle.std.proofs.Common.{◌≡◌, ◌+◌, ◌*◌, ◌^◌, ◌<◌, List, [], ◌∷◌, ◌++◌, length, set, get_or, Some, None, refl, sym, subst, ◌∙◌, arith}
use lib.ListN.{length-set}
use base.Fml.{ftrue, flft, fat}
use base.Fraction.{full_share}
use base.Logic.{SProp}
use mir.MapTy.{inst_fn}
use mir.Syntax.{Fn, w64}
use mir.Val.{Val, vptr, vint, vunit}
use prog.Wp.{WpFn}
use contract.BorrowLft.{◌⊑◌}
use contract.Monad.{fact}
use contract.Running.{tables}
use types.Kit.{‵, raw, ◌⊛◌, prop, at_ret, ◌$◌, ◌∵◌, !, qed, move, keep, drop as skip, use1, use2, split, join, rewrite, regoal, suffices, fsplit, fsplit3, fjoin, fjoin3, feq_i, feq_l, flt_l, flt_i, frame, done}
use types.Part.{whole, sub}
use types.Run.{init, stop, fld, unit_lit, of_opd, bin, size_lit, assigns_last, first, blocks, exec, returns, enter}
use types.ByLocal.{alloc_all, pass_all, free_all, look_at, get, get_in, through, sets, take_at, give_at, env}
use denote.Builtin.{usize}
use denote.Exit.{yes, no}
use denote.Param.{layout}
use denote.Param.Laws.{param_laws}
use borrow.Table.OneValue.{part_in}
use denote.RattleType.{RattleType, owns}
use denote.RawPtr.{Ptr, in_a_block}
use denote.Signature.{plain, types_at}
use denote.Steps.{nothing, opens, closes, heard}
use denote.Triple.Clauses.{Ended}
use denote.Triple.Walked.{Stays, walk_of, says, stay_dropped, stay_ref, Goes-dropped, Goes-ref, ends_at}
use Rattle.core.proofs.mem.Param.{El, R, args, elτ, one, lawful}
use Rattle.core.proofs.ptr.Rows.{times_below, one_below}
use Rattle.std.proofs.raw_atomic.Walks.{proved_at}
use Rattle.std_alloc.proofs.RawLayout.{as_written}
use Rattle.std_alloc.proofs.RcSteps.{word, word-Good}
use Rattle.std_alloc.proofs.VecSteps.Shapes.{after}
use Rattle.scc_slots.proofs.Places.{nowhere-owned, Cell, size, others, cell-out, cell-in}
use Rattle.scc_slots.proofs.row.Row.put.Code as code
use Rattle.scc_slots.proofs.row.Row.put.Statement.{statement}
use Rattle.scc_slots.proofs.row.Start.TheLaws as start_laws
use Rattle.scc_slots.specs.Owned.{cell_owns, cells_own, row_owns}
use Rattle.scc_slots.specs.CellWords.{IsEmptyCell}
use Rattle.scc_slots.specs.contracts.row.Row as Row
use Rattle.scc_slots.specs.contracts.row.Start as Start
use Rattle.scc_slots.specs.contracts.row.Row.put as f
use Rattle.scc_slots.specs.contracts.row.Row.put.Key.{name as #put}

pub put_spec : {M : Type 1} → statement M
put_spec 𝓤 𝓛 𝓜 𝓡 wired X L =
    let E : El = record { row = X; laws = L } in
    let T : Ended = f.ended X in
    let W : RattleType = Row.the_row (R E) in
    let S : RattleType = Start.the_row (R E) in
    let fn : Fn = inst_fn (args E) code.function in
    let hs : Stays T.signature.params T.kept = (stay_ref (0 ∷ []) tt (plain (λ _. W)), (stay_dropped (plain (λ _. S)) no, (stay_dropped (plain (λ _. usize)) yes, (stay_dropped (plain (λ _. R E)) no, tt)))) in
    let c = f.clauses X 𝓛 𝓜.mem 𝓡.returns in
    let C = (tables 𝓤 𝓛.H 𝓜 𝓡 𝓡.env).C in let Λ = (tables 𝓤 𝓛.H 𝓜 𝓡 𝓡.env).Λ in
    proved_at 𝓛 T hs c 𝓜 𝓡
    (Goes-ref 𝓛 2 0 tt (plain (λ _. W)), (Goes-dropped 𝓛 2 (plain (λ _. S)) no (λ κs x v. refl), (Goes-dropped 𝓛 2 (plain (λ _. usize)) yes (λ κs x v. refl), (Goes-dropped 𝓛 2 (plain (λ _. R E)) no (λ κs x v. refl), tt))))
    (#put (args E)) fn (code.unfolded 𝓤 𝓛.H 𝓜 𝓡 wired (X, tt)) (λ y are.
    let κ = y.0.0.0 in let κ' = y.0.0.1.0 in let q = y.0.1.0 in let q' = y.0.1.1.0 in
    let a = y.0.3 in let vss = y.0.4 in
    let Post : Val → SProp 𝓤 = (walk_of 𝓛 T hs c).post y in
    let rb = a.0.ref_ptr.0 in let ro = a.0.ref_ptr.1 in let d = a.0.now in let start = a.1.0 in let cell = a.1.1.0 in let entry = a.1.1.1.0 in
    let got = one E vss.1.1.1.0 ((lawful E 𝓛).typed entry vss.1.1.1.0 are.1.1.1.0) in
    let v : Val = got.0 in let good = got.2 in
    let e1 = (start_laws.lowers (R E) (param_laws 0 X L)).val_is start vss.1.0 are.1.0 in
    let fits : cell < 2 ^ 64 = are.1.1.0.1 in
    let new : W.Denot = record { of = d.of; start = d.start; cells = set d.cells cell (Some entry) } in
    qed 𝓛 (((‵ (flft κ q) ⊛ ‵ (flft κ' q') ⊛ ‵ ftrue) ⊛ ‵ (owns (types_at T.signature.params y.0.0) a vss)) ∷ (raw (fact 𝓤 (κ' ⊑ X.lives)) ⊛ raw (fact 𝓤 ((start.first ≡ d.start) × IsEmptyCell d.cells cell))) ∷ []) ∵
    move ! (1 ∷ []) $ split ! $ heard ! _ (λ short. heard ! _ (λ asks.
    split ! $ split ! $ move ! (2 ∷ []) $ fsplit ! $ fsplit3 ! $ feq_l ! (λ e0.
    move ! (2 ∷ []) $ fsplit ! $ skip ! $ fsplit ! $ skip ! $ fsplit ! $ rewrite ! 0 (λ (us : List Val). ‵ ((R E).own_val entry us)) got.1 refl $
    move ! (2 ∷ 3 ∷ 4 ∷ 0 ∷ 5 ∷ []) $
    -- [the facts about the row; its borrow; the token; the entry; the other tokens]
    regoal ! (λ (ws : List Val). prop (WpFn 𝓤 𝓛.H C Λ fn ws Post)) (λ i. e0 i ++ (e1 i ++ (are.1.1.0.0 i ++ (got.1 i ++ [])))) refl $
    enter ! C Λ fn (vptr rb ro ∷ word start.first ∷ vint w64 cell ∷ v ∷ []) Post $
    alloc_all ! (λ l. pass_all ! refl ((tt, tt), (word-Good [] start.first, ((tt, record { fits = fits }), (good, tt)))) $
    let En = env fn.locals l in
    opens ! tt W {h = d} rb ro (λ us. move ! (1 ∷ []) $ fsplit ! $ move ! (1 ∷ []) $
    in_a_block ! d.start (λ p. row_owns (R E) p d.cells) (nowhere-owned 𝓛 (R E) d.cells cell asks.1.0) (λ b o e. fsplit ! $ move ! (1 ∷ []) $ flt_l ! (λ small.
    let s = size E in let within = asks.1.0 in let at = cell * s + o in
    let whole_size : s < 2 ^ 64 = omega (arith, one_below (length d.cells) s (2 ^ 63) (omega arith) small) in
    let far : cell * s < 2 ^ 64 = omega (arith, times_below cell (length d.cells) s (2 ^ 63) (omega arith) small) in
    -- [the cells; the field; its cell; the open borrow, in three entries; the entry; the other tokens]
    take_at ! 2 $ rewrite ! 0 (λ (p : Ptr). ‵ (fat full_share (layout S) (l 2) 0 (word p))) (asks.0 ∙ e) refl $ give_at ! 2 $
    first ! $ blocks ! $
    sets ! (bin ! (get ! refl) (size_lit ! (record { fits = whole_size })) (record { fits = far })) refl (tt, record { fits = far }) $
    sets ! (bin ! (get_in ! (fld ! refl (stop !)) (sub ! 0 refl (whole !))) (get ! refl) tt) refl (tt, tt) $
    use1 𝓛 (‵ (cell_owns (R E) b at (get_or d.cells cell None)) ⊛ ‵ (others E 𝓛 b o d.cells cell)) (cell-out E 𝓛 b o at d.cells cell within refl) $ split ! $
    rewrite ! 0 (λ (x : Cell E). ‵ (cell_owns (R E) b at x)) asks.1.1 refl $ as_written ! (elτ E) b at $
    sets ! (of_opd ! (get ! refl)) refl good $
    assigns_last ! (of_opd ! (get ! refl)) (through ! refl (stop !)) (init ! 0 refl good) $
    exec ! C Λ En (after 1 fn.body) (at_ret En Post) $ sets ! (of_opd ! (unit_lit !)) refl (tt, tt) $
    move ! (0 ∷ 7 ∷ []) $ use2 𝓛 (‵ (cell_owns (R E) b at (Some entry))) (part_in 𝓛 (R E) refl full_share entry b at v) $
    use2 𝓛 (‵ (cells_own (R E) b o new.cells)) (cell-in E 𝓛 b o at d.cells cell (Some entry) within refl) $
    flt_i ! (length new.cells * s) (2 ^ 63) (subst (λ k. k * s < 2 ^ 63) (sym (length-set d.cells cell (Some entry))) small) $ move ! (1 ∷ 0 ∷ []) $ fjoin ! $
    rewrite ! 0 (λ (p : Ptr). ‵ (row_owns (R E) p new.cells)) (sym e) refl $ move ! (1 ∷ 0 ∷ []) $ fjoin ! $ move ! (1 ∷ 0 ∷ []) $ closes ! tt W new us rb ro $
    -- [the facts about the row; its borrow; the token; the other tokens]
    returns ! (look_at ! 0 refl) $ free_all ! refl $ keep ! (0 ∷ 1 ∷ 2 ∷ 3 ∷ []) $
    suffices ! _ (ends_at 𝓛 T hs c y vunit tt (new, (tt, (tt, (tt, tt)))) (tt, (tt, (tt, (tt, tt))))) $ says ! (refl, refl) $
    move ! (2 ∷ 3 ∷ []) $ join ! $ frame ! $ feq_i ! (List Val) vss.0 (vptr rb ro ∷ []) e0 $ fjoin3 ! $
    nothing ! $ nothing ! $ fjoin ! $ nothing ! $ fjoin ! $ nothing ! $ fjoin ! $ move ! (1 ∷ 0 ∷ []) $ fjoin ! $ frame ! $
    feq_i ! (List Val) (vunit ∷ []) (vunit ∷ []) refl $ done !))))))))
