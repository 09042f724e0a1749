-- `give_back` joins free cells to the room of one block. The right lets the block go back. Assumes `Logic`.
use Rattle.std.proofs.Common.{◌≡◌, ℕ, ◌*◌, ◌^◌, ◌<◌, List, [], ◌∷◌, ◌++◌, replicate, None, refl, sym, ap, subst, ◌∙◌, arith}
use Rattle.std.proofs.lemmas.List.{length-replicate}
use base.Fml.{ftrue, flft, froom, Incl-trans}
use base.Logic.{SProp, id⊢, never}
use contract.BorrowLft.{◌⊑◌}
use contract.Monad.{fact}
use contract.Running.{tables}
use denote.Builtin.{usize, RefOf}
use denote.Exit.{yes, no}
use denote.Param.Laws.{param_laws}
use denote.RattleType.{RattleType, owns}
use denote.RawPtr.{Ptr, block_ptr, in_a_block}
use denote.Signature.{plain, types_at}
use denote.Steps.{nothing, heard}
use denote.Triple.Call.{calls_at_last}
use denote.Triple.Clauses.{Ended}
use denote.Triple.Table.{framed}
use denote.Triple.Walked.{Stays, walk_of, stay_dropped, Goes-dropped}
use lib.Dec.{T as Holds}
use mir.MapTy.{inst_fn}
use mir.Syntax.{Fn, ty_array, ty_unit, w64}
use mir.Val.{Val, vptr, vint, vunit, has_ty, WT}
use prog.Capped.{capped_fits}
use prog.Memory.{align, capped}
use prog.Wp.{WpFn}
use types.ByLocal.{alloc_all, pass_all, free_all, look_at, get, get_in, sets, lands_last, is, env}
use types.Kit.{by, later, given, await, learn, group, ‵, raw, ◌⊛◌, prop, at_ret, ◌$◌, ◌∵◌, !, qed, move, keep, drop as skip, use1, split, join, rewrite, regoal, fsplit, fjoin, feq_i, feq_l, flt_l}
use types.Part.{whole, sub}
use types.Run.{stop, fld, unit_lit, of_opd, bin, size_word, align_word, no_more, and_then, first, blocks, exec, returns, enter}
use Rattle.core.proofs.alloc.Calls.{Al, token, Gives, at_gives, Gives-goes, Gives-Gives, Goes-blank}
use Rattle.core.proofs.mem.Param.{El, R, elτ}
use Rattle.core.proofs.slots.Leases.{uncapped, block_ty, block_size, block_align, args, P}
use Rattle.std.proofs.raw_atomic.Walks.{proved_at, leaves}
use Rattle.std_alloc.proofs.RawLayout.{as_raw}
use Rattle.std_alloc.proofs.RcSteps.{word, word-Good}
use Rattle.std_alloc.proofs.VecSteps.Shapes.{after}
use Rattle.scc_slots.proofs.Places.{Cell, mark, size, cells-room}
use Rattle.scc_slots.proofs.row.give_back.Code as code
use Rattle.scc_slots.proofs.row.give_back.Statement.{statement}
use Rattle.scc_slots.proofs.row.Right.TheLaws as right_laws
use Rattle.scc_slots.proofs.row.Row.TheLaws as row_laws
use Rattle.scc_slots.proofs.row.Start.TheLaws as start_laws
use Rattle.scc_slots.specs.Owned.{row_owns, right_owns}
use Rattle.scc_slots.specs.contracts.row.Right as Right
use Rattle.scc_slots.specs.contracts.row.Row as Row
use Rattle.scc_slots.specs.contracts.row.Start as Start
use Rattle.scc_slots.specs.contracts.row.give_back as f
use Rattle.scc_slots.specs.contracts.row.give_back.Key.{name as #give_back}

pub give_back_spec : {M : Type 1} → statement M
give_back_spec 𝓤 𝓛 𝓜 𝓡 wired X Y L LY g d dd met md =
    let E : El = record { row = X; laws = L } in
    let Z : Al = record { row = Y; laws = LY; g = g; d = d; drops = dd } in
    let T : Ended = f.ended X Y g d dd in
    let W : RattleType = Row.the_row (R E) in
    let S : RattleType = Start.the_row (R E) in
    let D : RattleType = Right.the_row (R E) (P E Z) g in
    let fn : Fn = inst_fn (args E Z) code.function in
    let hs : Stays T.signature.params T.kept = (stay_dropped (RefOf (0 ∷ []) tt (plain (λ _. P E Z)) (λ _. tt)) yes, (stay_dropped (plain (λ _. S)) no, (stay_dropped (plain (λ _. usize)) yes, (stay_dropped (plain (λ _. W)) no, (stay_dropped (plain (λ _. D)) no, tt))))) in
    let c = f.clauses X Y g d dd 𝓛 𝓜.mem 𝓡.returns in
    let 𝓣 = tables 𝓤 𝓛.H 𝓜 𝓡 𝓡.env in let C = 𝓣.C in let Λ = 𝓣.Λ in
    proved_at 𝓛 T hs c 𝓜 𝓡
    (Goes-dropped 𝓛 3 (RefOf (0 ∷ []) tt (plain (λ _. P E Z)) (λ _. tt)) yes (λ κs x v. refl), (Goes-dropped 𝓛 3 (plain (λ _. S)) no (λ κs x v. refl), (Goes-dropped 𝓛 3 (plain (λ _. usize)) yes (λ κs x v. refl), (Goes-blank 𝓛 3 (plain (λ _. W)) no (λ κs x v. tt), (Goes-blank 𝓛 3 (plain (λ _. D)) no (λ κs x v. tt), tt)))))
    (#give_back (args E Z)) fn (code.unfolded 𝓤 𝓛.H 𝓜 𝓡 wired (X, (Y, tt)) d dd) (λ y are.
    let κ = y.0.0.0 in let κ₁ = y.0.0.1.0 in let κ₂ = y.0.0.1.1.0 in let q = y.0.1.0 in let q₁ = y.0.1.1.0 in let q₂ = y.0.1.1.1.0 in
    let a = y.0.3 in let vss = y.0.4 in
    let Post : Val → SProp 𝓤 = (walk_of 𝓛 T hs c).post y in
    let rb = a.0.ref_ptr.0 in let ro = a.0.ref_ptr.1 in let alloc = a.0.now in let start = a.1.0 in let count = a.1.1.0 in let row = a.1.1.1.0 in let right = a.1.1.1.1.0 in
    let e1 = (start_laws.lowers (R E) (param_laws 0 X L)).val_is start vss.1.0 are.1.0 in
    let e3 = (row_laws.lowers (R E) (param_laws 0 X L)).val_is row vss.1.1.1.0 are.1.1.1.0 in
    let e4 = (right_laws.lowers (R E) (P E Z) g (param_laws 0 X L) (param_laws 1 Y LY)).val_is right vss.1.1.1.1.0 are.1.1.1.1.0 in
    let fits : count < 2 ^ 64 = are.1.1.0.1 in
    qed 𝓛 (((‵ (flft κ q) ⊛ ‵ (flft κ₁ q₁) ⊛ ‵ (flft κ₂ q₂) ⊛ ‵ ftrue) ⊛ ‵ (owns (types_at T.signature.params y.0.0) a vss)) ∷ (raw (fact 𝓤 (κ₁ ⊑ X.lives)) ⊛ raw (fact 𝓤 (κ₂ ⊑ Y.lives)) ⊛
    raw (fact 𝓤 ((row.start ≡ start.first) × (row.cells ≡ replicate count None) × (right.start ≡ start.first) × (right.count ≡ count) × (right.alloc ≡ alloc)))) ∷ []) ∵
    move ! (1 ∷ []) $ split ! $ heard ! _ (λ lives. split ! $ heard ! _ (λ within. heard ! _ (λ asks.
    split ! $ split ! $ move ! (2 ∷ []) $ fsplit ! $ fsplit ! $ feq_l ! (λ e0. move ! (1 ∷ []) $ fsplit ! $ skip ! $ fsplit ! $ skip ! $
    fsplit ! $ fsplit ! $ skip ! $ move ! (1 ∷ []) $ fsplit ! $ fsplit ! $ skip ! $ move ! (2 ∷ 0 ∷ 3 ∷ 4 ∷ 5 ∷ []) $
    -- [the cells; the right; the handle; its token; the other tokens]
    rewrite ! 0 (λ (r : Ptr × List (Cell E)). ‵ (row_owns (R E) r.0 r.1)) (λ i. (asks.0 i, asks.1 i)) refl $
    move ! (1 ∷ []) $ rewrite ! 0 (λ (r : Y.Denot × Ptr × ℕ). ‵ (right_owns (R E) (token Z r.0) r.1 r.2)) (λ i. (asks.4 i, asks.2 i, asks.3 i)) refl $
    in_a_block ! start.first (λ p. right_owns (R E) (token Z alloc) p count) (id⊢ 𝓤 (never 𝓤)) (λ b o e. rewrite ! 1 (λ (p : Ptr). ‵ (row_owns (R E) p (replicate count None))) e refl $ move ! (1 ∷ []) $ fsplit ! $ move ! (1 ∷ []) $ flt_l ! (λ fit.
    let s = size E in let al : ℕ = capped (align (elτ E)) in
    let small : count * s < 2 ^ 63 = subst (λ k. k * s < 2 ^ 63) (length-replicate count None) fit in let bytes : count * s < 2 ^ 64 = omega arith in
    use1 𝓛 (‵ (froom (ty_array (elτ E) count) b o)) (cells-room E 𝓛 b count o) $ as_raw ! (ty_array (elτ E) count) b o $
    regoal ! (λ (ws : List Val). prop (WpFn 𝓤 𝓛.H C Λ fn ws Post)) (λ i. e0 i ++ ((e1 ∙ ap (λ p. word p ∷ []) e) i ++ (are.1.1.0.0 i ++ (e3 i ++ (e4 i ++ []))))) refl $
    enter ! C Λ fn (vptr rb ro ∷ word (block_ptr b o) ∷ vint w64 count ∷ mark ∷ mark ∷ []) Post $
    alloc_all ! (λ l. pass_all ! refl ((tt, tt), (word-Good [] (block_ptr b o), ((tt, record { fits = fits }), ((tt, (tt, tt)), ((tt, (tt, tt)), tt))))) $
    let En = env fn.locals l in
    let z = at_gives Z 𝓛 𝓜.mem 𝓡.returns κ q (rb, ro) alloc b o (count * s) al (block_ty E count) in
    first ! $ blocks ! $
    sets ! (of_opd ! (get_in ! (fld ! refl (stop !)) (sub ! 0 refl (whole !)))) refl (tt, tt) $
    sets ! (is ! (bin ! (get ! refl) (size_word !) (record { fits = subst (λ (k : ℕ). k < 2 ^ 64) (sym (uncapped count s bytes)) bytes })) (ap (vint w64) (uncapped count s bytes))) refl (tt, record { fits = bytes }) $
    group ! 4 $ use1 𝓛 (raw ((Gives Z 𝓛 𝓜.mem 𝓡.returns).pre z))
    (Gives-goes Z 𝓛 𝓜.mem 𝓡.returns κ q (rb, ro) alloc (Incl-trans y.0.2.0 within) b o (count * s) al (block_ty E count) (block_size E count bytes) (block_align E count) bytes (capped_fits (align (elτ E)))) $
    calls_at_last ! (framed 𝓤 𝓛.H 𝓜 𝓣) (Gives Z 𝓛 𝓜.mem 𝓡.returns) (met.deallocate dd) z (and_then ! (get ! refl) (and_then ! (get ! refl) (and_then ! (get ! refl) (and_then ! (align_word !) (no_more !))))) (λ v.
    use1 𝓛 (later (given (v ≡ vunit) (‵ (flft κ q)))) (Gives-Gives Z 𝓛 𝓜.mem 𝓡.returns κ q (rb, ro) alloc b o (count * s) al (block_ty E count) v) $ await ! tt $ learn ! (λ is_unit.
    lands_last ! refl (subst (λ (z : Val). Holds (has_ty ty_unit z) × WT z) (sym is_unit) (tt, tt)) $ exec ! C Λ En (after 1 fn.body) (at_ret En Post) $
    sets ! (of_opd ! (unit_lit !)) refl (tt, tt) $ returns ! (look_at ! 0 refl) $ free_all ! refl $ keep ! (0 ∷ 1 ∷ []) $ join ! $
    -- [the tokens]
    nothing ! $ nothing ! $ fjoin ! $ nothing ! $ fjoin ! $ nothing ! $ fjoin ! $ nothing ! $ fjoin ! $ nothing ! $ fjoin ! $
    feq_i ! (List Val) (vunit ∷ []) (vunit ∷ []) refl $ nothing ! $
    move ! (3 ∷ 2 ∷ 1 ∷ 0 ∷ []) $ by ! (leaves 𝓛 T hs c y vunit tt (tt, (tt, (tt, (tt, (tt, tt))))) (tt, (tt, (tt, (tt, (tt, tt))))))))))))))))
