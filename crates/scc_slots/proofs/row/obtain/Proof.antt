-- `obtain` cuts the room of a new block into free cells, and keeps the right to give it back. Assumes `Logic`.
use Rattle.std.proofs.Common.{◌≡◌, ℕ, ◌*◌, ◌^◌, ◌<◌, List, [], ◌∷◌, ◌++◌, length, replicate, None, Ok, Err, refl, sym, ap, subst, arith}
use Rattle.std.proofs.lemmas.List.{length-replicate}
use base.Fml.{ftrue, flft, Incl-trans}
use base.Logic.{SProp, emp}
use contract.BorrowLft.{◌⊑◌}
use contract.Monad.{fact, fact_i}
use contract.Running.{tables}
use denote.Builtin.{usize, RefOf}
use denote.Exit.{yes}
use denote.Param.{layout}
use denote.RattleType.{RattleType, owns}
use denote.RawPtr.{Ptr, block_ptr}
use denote.Signature.{plain, types_at}
use denote.Laws.{Is}
use denote.Steps.{nothing, heard, owned}
use denote.Struct.Declared as Declared
use denote.Struct.Struct.{Struct, Struct-Makes}
use denote.Struct.Tuple.{Tuple}
use mathlib.Core.Bool.{true, false}
use Rattle.core.specs.contracts.alloc.AllocError as AE
use Rattle.core.specs.contracts.result.Result as RS
use Rattle.std.specs.Prelude.{IfOk}
use Rattle.std.specs.Vec.Ownership.{FitsInBlock}
use denote.Triple.Call.{calls_at}
use denote.Triple.Clauses.{Ended}
use denote.Triple.Table.{framed}
use denote.Triple.Walked.{Stays, walk_of, stay_dropped, Goes-dropped}
use lib.Dec.{lit<}
use mir.MapTy.{inst_fn}
use mir.Syntax.{Body, Fn, ty_array, w64}
use mir.Val.{Val, vptr, vint, vstruct, vcons, vnil}
use prog.Capped.{capped_fits}
use prog.Memory.{align, capped}
use prog.Wp.{Wp, WpFn, after_seq, at_return}
use types.ByLocal.{alloc_all, pass_all, free_all, look_at, get, get_in, get_tag, sets, sets_last, lands_as, is, env}
use types.Match.{live, vrt, in_variant}
use types.Kit.{Post as After, any_q, use0, use2, flt_i, by, later, await, ‵, raw, ◌⊛◌, prop, at_ret, ◌$◌, ◌∵◌, !, qed, move, keep, use1, split, join, regoal, fsplit, fjoin, feq_l}
use types.Part.{whole, agg}
use types.Run.{switches_on, stop, fld, lit, of_opd, bin, size_word, align_word, no_more, and_then, first, exec, returns, enter}
use Rattle.core.proofs.alloc.Calls.{Al, Answer-typed, Answered, Takes, at_takes, Takes-goes, Takes-gives, answers}
use Rattle.core.proofs.mem.Param.{El, R, elτ}
use Rattle.core.proofs.slots.Leases.{uncapped, block_ty, block_size, block_align, args, P}
use Rattle.std.proofs.raw_atomic.Walks.{proved_at, leaves}
use Rattle.std_alloc.proofs.RawLayout.{as_written}
use Rattle.std_alloc.proofs.RcSteps.{Good, first_Good, word, word-Good}
use Rattle.std_alloc.proofs.VecSteps.Shapes.{after, head, arm_body}
use Rattle.std_alloc.proofs.Pairs.{pair_of, pair_val}
use Rattle.std_alloc.proofs.ResultValues.{ok_of, err_of}
use Rattle.scc_slots.proofs.Places.{mark, size, field_made, start_made, room-cells}
use Rattle.scc_slots.proofs.row.obtain.Code as code
use Rattle.scc_slots.proofs.row.obtain.Statement.{statement}
use Rattle.scc_slots.specs.Owned.{cells_own}
use Rattle.scc_slots.specs.contracts.row.Right as Right
use Rattle.scc_slots.specs.contracts.row.Row as Row
use Rattle.scc_slots.specs.contracts.row.Start as Start
use Rattle.scc_slots.specs.contracts.row.obtain as f
use Rattle.scc_slots.specs.contracts.row.obtain.Key.{name as #obtain}

pub obtain_spec : {M : Type 1} → statement M
obtain_spec 𝓤 𝓛 𝓜 𝓡 wired X Y L LY g d dd met md =
    let E : El = record { row = X; laws = L } in
    let Z : Al = record { row = Y; laws = LY; g = g; d = d; drops = dd } in
    let T : Ended = f.ended X Y g d dd in
    let W : RattleType = Row.the_row (R E) in
    let S : RattleType = Start.the_row (R E) in
    let D : RattleType = Right.the_row (R E) (P E Z) g in
    let Two : RattleType = Tuple (W ∷ D ∷ []) in
    let Made : RattleType = Tuple (S ∷ Two ∷ []) in
    let Out : RattleType = RS.the_row Made AE.the_row in
    let fn : Fn = inst_fn (args E Z) code.function in
    let hs : Stays T.signature.params T.kept = (stay_dropped (RefOf (0 ∷ []) tt (plain (λ _. P E Z)) (λ _. tt)) yes, (stay_dropped (plain (λ _. usize)) yes, tt)) in
    let c = f.clauses X Y g d dd 𝓛 𝓜.mem 𝓡.returns in
    let 𝓣 = tables 𝓤 𝓛.H 𝓜 𝓡 𝓡.env in let C = 𝓣.C in let Λ = 𝓣.Λ in
    proved_at 𝓛 T hs c 𝓜 𝓡
    (Goes-dropped 𝓛 3 (RefOf (0 ∷ []) tt (plain (λ _. P E Z)) (λ _. tt)) yes (λ κs x v. refl), (Goes-dropped 𝓛 3 (plain (λ _. usize)) yes (λ κs x v. refl), tt))
    (#obtain (args E Z)) fn (code.unfolded 𝓤 𝓛.H 𝓜 𝓡 wired (X, (Y, tt)) d dd) (λ y are.
    let κ = y.0.0.0 in let κ₁ = y.0.0.1.0 in let κ₂ = y.0.0.1.1.0 in let q = y.0.1.0 in let q₁ = y.0.1.1.0 in let q₂ = y.0.1.1.1.0 in
    let a = y.0.3 in let vss = y.0.4 in
    let Post : Val → SProp 𝓤 = (walk_of 𝓛 T hs c).post y in
    let rb = a.0.ref_ptr.0 in let ro = a.0.ref_ptr.1 in let alloc = a.0.now in let count = a.1.0 in
    let fits : count < 2 ^ 64 = are.1.0.1 in
    let Says : Out.Denot → Type 0 = λ r. IfOk r (λ made. (made.1.0.start ≡ made.0.first) × (made.1.0.cells ≡ replicate count None) × (made.1.1.start ≡ made.0.first) × (made.1.1.count ≡ count) × (made.1.1.alloc ≡ alloc)) in
    qed 𝓛 (((‵ (flft κ q) ⊛ ‵ (flft κ₁ q₁) ⊛ ‵ (flft κ₂ q₂) ⊛ ‵ ftrue) ⊛ ‵ (owns (types_at T.signature.params y.0.0) a vss)) ∷ (raw (fact 𝓤 (κ₁ ⊑ X.lives)) ⊛ raw (fact 𝓤 (κ₂ ⊑ Y.lives)) ⊛ raw (fact 𝓤 (FitsInBlock (R E) count))) ∷ []) ∵
    move ! (1 ∷ []) $ split ! $ heard ! _ (λ lives. split ! $ heard ! _ (λ within. heard ! _ (λ asks.
    let s = size E in let al : ℕ = capped (align (elτ E)) in let small : count * s < 2 ^ 63 = asks.0 in let bytes : count * s < 2 ^ 64 = omega arith in
    split ! $ split ! $ move ! (2 ∷ []) $ fsplit ! $ fsplit ! $ feq_l ! (λ e0. move ! (0 ∷ 2 ∷ 3 ∷ []) $
    -- [the handle; its token; the other tokens]
    regoal ! (λ (ws : List Val). prop (WpFn 𝓤 𝓛.H C Λ fn ws Post)) (λ i. e0 i ++ (are.1.0.0 i ++ [])) refl $
    enter ! C Λ fn (vptr rb ro ∷ vint w64 count ∷ []) Post $ alloc_all ! (λ l. pass_all ! refl ((tt, tt), ((tt, record { fits = fits }), tt)) $
    let En = env fn.locals l in
    let arms : Body = head (after 2 fn.body) in
    let Then : After 𝓤 𝓛.H = any_q (after_seq 𝓤 𝓛.H (Wp 𝓤 𝓛.H C Λ En (after 3 fn.body) (at_return 𝓤 𝓛.H En Post)) (at_return 𝓤 𝓛.H En Post)) in
    let z = at_takes Z 𝓛 𝓜.mem 𝓡.returns κ q (rb, ro) alloc (count * s) al (block_ty E count) in
    sets ! (is ! (bin ! (get ! refl) (size_word !) (record { fits = subst (λ (k : ℕ). k < 2 ^ 64) (sym (uncapped count s bytes)) bytes })) (ap (vint w64) (uncapped count s bytes))) refl (tt, record { fits = bytes }) $
    use2 𝓛 (raw ((Takes Z 𝓛 𝓜.mem 𝓡.returns).pre z))
    (Takes-goes Z 𝓛 𝓜.mem 𝓡.returns κ q (rb, ro) alloc (Incl-trans y.0.2.0 within) (count * s) al (block_ty E count) (block_size E count bytes) (block_align E count) bytes (capped_fits (align (elτ E)))) $
    calls_at ! (framed 𝓤 𝓛.H 𝓜 𝓣) (Takes Z 𝓛 𝓜.mem 𝓡.returns) (met.allocate dd) z (and_then ! (get ! refl) (and_then ! (get ! refl) (and_then ! (align_word !) (no_more !)))) (λ v.
    use1 𝓛 (later (raw (Answered Z 𝓛 𝓜.mem 𝓡.returns alloc (block_ty E count) v) ⊛ ‵ (flft κ q))) (Takes-gives Z 𝓛 𝓜.mem 𝓡.returns κ q (rb, ro) alloc (count * s) al (block_ty E count) v) $ await ! tt $ split ! $
    answers Z ! 𝓜.mem 𝓡.returns alloc (block_ty E count) v
    (λ b o e.
    let p : Ptr = block_ptr b o in
    let row : W.Denot = record { of = record {}; start = p; cells = replicate count None } in
    let right : D.Denot = record { of = record {}; start = p; count = count; alloc = alloc } in
    let start : S.Denot = record { first = p } in
    let pair : Val = pair_val mark mark in let made : Val = pair_val (word p) pair in
    let pair-good : Good (layout Two) pair = (tt, ((tt, tt), ((tt, tt), tt))) in
    let made-good : Good (layout Made) made = (tt, ((tt, tt), (((tt, tt), ((tt, tt), tt)), tt))) in
    let ok = first_Good (layout Made) made made-good in
    lands_as ! e refl (Answer-typed true b o) $ first ! $ switches_on ! (get_tag ! (vrt ! refl (fld ! refl (stop !))) (whole !)) $ exec ! C Λ En (arm_body 1 arms) Then $
    -- [the room; the right to give it back; the token; the other tokens]
    sets ! (of_opd ! (get_in ! (vrt ! refl (fld ! refl (stop !))) (in_variant ! 0 0 refl refl (whole !)))) refl (tt, tt) $ sets ! (of_opd ! (get ! refl)) refl (tt, tt) $
    sets ! (agg ! (and_then ! (get ! refl) (no_more !))) refl (word-Good [] p) $
    sets ! (agg ! (no_more !)) refl (tt, tt) $ sets ! (agg ! (and_then ! (get ! refl) (no_more !))) refl (tt, (tt, tt)) $
    sets ! (agg ! (no_more !)) refl (tt, tt) $ sets ! (agg ! (and_then ! (get ! refl) (no_more !))) refl (tt, (tt, tt)) $
    sets ! (agg ! (and_then ! (get ! refl) (and_then ! (get ! refl) (no_more !)))) refl pair-good $
    sets ! (agg ! (and_then ! (get ! refl) (and_then ! (get ! refl) (no_more !)))) refl made-good $
    sets_last ! (agg ! (and_then ! (lit ! tt) (and_then ! (get ! refl) (no_more !)))) refl ok $
    exec ! C Λ En (after 3 fn.body) (at_ret En Post) $ sets ! (of_opd ! (get ! refl)) refl ok $
    move ! (1 ∷ []) $ field_made ! E $ fjoin ! $ move ! (1 ∷ []) $ as_written ! (ty_array (elτ E) count) b o $
    use1 𝓛 (‵ (cells_own (R E) b o row.cells)) (room-cells E 𝓛 b count o) $
    flt_i ! (length row.cells * s) (2 ^ 63) (subst (λ k. k * s < 2 ^ 63) (sym (length-replicate count None)) small) $ move ! (1 ∷ 0 ∷ []) $ fjoin ! $ field_made ! E $ fjoin ! $
    use2 𝓛 (‵ (Two.own_val (row, right) (pair ∷ []))) (pair_of 𝓛 W D row right mark mark) $
    start_made ! E p $ use2 𝓛 (‵ (Made.own_val (start, (row, right)) (made ∷ []))) (pair_of 𝓛 S Two start (row, right) (word p) pair) $
    use1 𝓛 (‵ (Out.own_val (Ok (start, (row, right))) (live 0 (vcons made vnil) ∷ []))) (ok_of 𝓛 Made AE.the_row (start, (row, right)) made) $
    returns ! (look_at ! 0 refl) $ free_all ! refl $ keep ! (0 ∷ 1 ∷ 2 ∷ []) $
    use0 𝓛 (raw (fact 𝓤 (Says (Ok (start, (row, right)))))) (fact_i 𝓤 _ (emp 𝓤) (refl, refl, refl, refl, refl)) $ move ! (2 ∷ 3 ∷ []) $ join ! $
    nothing ! $ nothing ! $ fjoin ! $ nothing ! $ fjoin ! $
    -- [the rest of the parameters; the tokens; the fact of the clause; the result]
    move ! (1 ∷ 0 ∷ 3 ∷ 2 ∷ []) $ by ! (leaves 𝓛 T hs c y (live 0 (vcons made vnil)) (Ok (start, (row, right))) (tt, (tt, tt)) (tt, (tt, tt))))
    (λ e.
    let Refusal : RattleType = Struct (Declared.shape AE.the_type) in
    let none : Val = live 1 (vcons (vstruct vnil) vnil) in
    lands_as ! e refl (Answer-typed false 0 0) $ first ! $ switches_on ! (get_tag ! (vrt ! refl (fld ! refl (stop !))) (whole !)) $ exec ! C Λ En (arm_body 0 arms) Then $
    sets ! (of_opd ! (get_in ! (vrt ! refl (fld ! refl (stop !))) (in_variant ! 1 0 refl refl (whole !)))) refl (tt, tt) $
    sets_last ! (agg ! (and_then ! (lit ! tt) (and_then ! (get ! refl) (no_more !)))) refl (tt, (record { fits = lit< tt }, (tt, tt))) $
    exec ! C Λ En (after 3 fn.body) (at_ret En Post) $ sets ! (of_opd ! (get ! refl)) refl (tt, (record { fits = lit< tt }, (tt, tt))) $
    owned ! Refusal (Is Refusal) (Struct-Makes 𝓛 (Declared.shape AE.the_type) tt) tt (vstruct vnil ∷ []) (tt, (refl, tt)) $
    use1 𝓛 (‵ (Out.own_val (Err (record {})) (none ∷ []))) (err_of 𝓛 Made AE.the_row (record {}) (vstruct vnil)) $
    returns ! (look_at ! 0 refl) $ free_all ! refl $ keep ! (0 ∷ 1 ∷ 2 ∷ []) $
    use0 𝓛 (raw (fact 𝓤 (Says (Err (record {}))))) (fact_i 𝓤 _ (emp 𝓤) tt) $ move ! (2 ∷ 3 ∷ []) $ join ! $
    nothing ! $ nothing ! $ fjoin ! $ nothing ! $ fjoin ! $
    -- [the rest of the parameters; the tokens; the fact of the clause; the result]
    move ! (1 ∷ 0 ∷ 3 ∷ 2 ∷ []) $ by ! (leaves 𝓛 T hs c y none (Err (record {})) (tt, (tt, tt)) (tt, (tt, tt)))))))))))
