-- `get` returns a `&` to one entry of a row that is behind a `&`. Assumes `Logic`.
use Rattle.std.proofs.Common.{◌≡◌, ◌+◌, ◌*◌, ◌^◌, ◌<◌, List, [], ◌∷◌, ◌++◌, length, get_or, Some, None, refl, ◌∙◌, arith}
use base.Fml.{fat}
use base.Fraction.{full_share}
use base.Logic.{SProp, emp}
use mir.MapTy.{inst_fn}
use mir.Syntax.{Fn, w64}
use mir.Val.{Val, vptr, vint}
use prog.Wp.{WpFn}
use contract.BorrowLft.{◌⊑◌}
use contract.Monad.{fact, fact_i}
use contract.Running.{tables}
use types.Kit.{by, use0, ‵, raw, ◌⊛◌, prop, at_ret, ◌$◌, ◌∵◌, !, qed, move, keep, drop as skip, use1, split, rewrite, regoal, fsplit, fjoin, feq_i, feq_l, flt_l}
use types.Part.{whole, sub}
use types.Run.{addr, stop, fld, of_opd, bin, size_lit, first, blocks, exec, returns, enter}
use types.ByLocal.{alloc_all, pass_all, free_all, look_at, get, get_in, through, sets, sets_last, take_at, give_at, env}
use denote.Builtin.{usize, RefOf}
use denote.Exit.{yes, no}
use denote.Param.{layout}
use denote.Param.Laws.{param_laws}
use denote.RattleType.{RattleType, owns}
use denote.RawPtr.{Ptr, in_a_block}
use denote.Signature.{plain, types_at}
use denote.Opens.{hide, unhide}
use denote.Triple.Entry.{alive}
use denote.Steps.{nothing, heard}
use denote.Triple.Clauses.{Ended}
use denote.Triple.Walked.{Stays, walk_of, stay_dropped, Goes-dropped}
use Rattle.core.proofs.mem.Param.{El, R, args}
use Rattle.core.proofs.ptr.Rows.{times_below, one_below}
use Rattle.std.proofs.raw_atomic.Walks.{proved_at, leaves}
use Rattle.std_alloc.proofs.RcSteps.{word, word-Good}
use Rattle.std_alloc.proofs.VecSteps.Shapes.{after}
use Rattle.scc_slots.proofs.Places.{nowhere-shown, Cell, size, filled-within, cell-shown}
use Rattle.scc_slots.proofs.row.Row.get.Code as code
use Rattle.scc_slots.proofs.row.Row.get.Statement.{statement}
use Rattle.scc_slots.proofs.row.Start.TheLaws as start_laws
use Rattle.scc_slots.specs.Owned.{cell_shows, row_shows}
use Rattle.scc_slots.specs.CellWords.{IsFilled}
use Rattle.scc_slots.specs.contracts.row.Row as Row
use Rattle.scc_slots.specs.contracts.row.Start as Start
use Rattle.scc_slots.specs.contracts.row.Row.get as f
use Rattle.scc_slots.specs.contracts.row.Row.get.Key.{name as #get}

pub get_spec : {M : Type 1} → statement M
get_spec 𝓤 𝓛 𝓜 𝓡 wired X L =
    let E : El = record { row = X; laws = L } in
    let T : Ended = f.ended X in
    let W : RattleType = Row.the_row (R E) in
    let S : RattleType = Start.the_row (R E) in
    let fn : Fn = inst_fn (args E) code.function in
    let hs : Stays T.signature.params T.kept = (stay_dropped (RefOf (0 ∷ []) tt (plain (λ _. W)) (λ _. tt)) yes, (stay_dropped (plain (λ _. S)) no, (stay_dropped (plain (λ _. usize)) yes, tt))) in
    let c = f.clauses X 𝓛 𝓜.mem 𝓡.returns in
    let C = (tables 𝓤 𝓛.H 𝓜 𝓡 𝓡.env).C in let Λ = (tables 𝓤 𝓛.H 𝓜 𝓡 𝓡.env).Λ in
    proved_at 𝓛 T hs c 𝓜 𝓡
    (Goes-dropped 𝓛 2 (RefOf (0 ∷ []) tt (plain (λ _. W)) (λ _. tt)) yes (λ κs x v. refl), (Goes-dropped 𝓛 2 (plain (λ _. S)) no (λ κs x v. refl), (Goes-dropped 𝓛 2 (plain (λ _. usize)) yes (λ κs x v. refl), tt)))
    (#get (args E)) fn (code.unfolded 𝓤 𝓛.H 𝓜 𝓡 wired (X, tt)) (λ y are.
    let κ = y.0.0.0 in let κ' = y.0.0.1.0 in
    let a = y.0.3 in let vss = y.0.4 in
    let Post : Val → SProp 𝓤 = (walk_of 𝓛 T hs c).post y in
    let rb = a.0.ref_ptr.0 in let ro = a.0.ref_ptr.1 in let d = a.0.now in let start = a.1.0 in let cell = a.1.1.0 in
    let e1 = (start_laws.lowers (R E) (param_laws 0 X L)).val_is start vss.1.0 are.1.0 in
    let fits : cell < 2 ^ 64 = are.1.1.0.1 in
    qed 𝓛 ((raw (alive 𝓛 T.signature y.0.0 y.0.1) ⊛ ‵ (owns (types_at T.signature.params y.0.0) a vss)) ∷ (raw (fact 𝓤 (κ' ⊑ X.lives)) ⊛ raw (fact 𝓤 ((start.first ≡ d.start) × IsFilled d.cells cell))) ∷ []) ∵
    move ! (1 ∷ []) $ split ! $ heard ! _ (λ short. heard ! _ (λ asks.
    let x = asks.1.0 in let within = filled-within d.cells cell x asks.1.1 in
    split ! $ move ! (1 ∷ []) $ fsplit ! $ fsplit ! $ feq_l ! (λ e0. move ! (0 ∷ 2 ∷ []) $
    -- [the shown row; the tokens]
    regoal ! (λ (ws : List Val). prop (WpFn 𝓤 𝓛.H C Λ fn ws Post)) (λ i. e0 i ++ (e1 i ++ (are.1.1.0.0 i ++ []))) refl $
    enter ! C Λ fn (vptr rb ro ∷ word start.first ∷ vint w64 cell ∷ []) Post $
    alloc_all ! (λ l. pass_all ! refl ((tt, tt), (word-Good [] start.first, ((tt, record { fits = fits }), tt))) $
    let En = env fn.locals l in
    unhide ! $ fsplit ! $ skip ! $
    in_a_block ! d.start (λ p. row_shows (R E) p d.cells κ) (nowhere-shown 𝓛 (R E) d.cells κ cell within) (λ b o e. fsplit ! $ move ! (1 ∷ []) $ flt_l ! (λ small.
    let s = size E in let at = cell * s + o in
    let whole_size : s < 2 ^ 64 = omega (arith, one_below (length d.cells) s (2 ^ 63) (omega arith) small) in
    let far : cell * s < 2 ^ 64 = omega (arith, times_below cell (length d.cells) s (2 ^ 63) (omega arith) small) in
    -- [the shown cells; the tokens]
    take_at ! 2 $ rewrite ! 0 (λ (p : Ptr). ‵ (fat full_share (layout S) (l 2) 0 (word p))) (asks.0 ∙ e) refl $ give_at ! 2 $
    first ! $ blocks ! $
    sets ! (bin ! (get ! refl) (size_lit ! (record { fits = whole_size })) (record { fits = far })) refl (tt, record { fits = far }) $
    sets ! (bin ! (get_in ! (fld ! refl (stop !)) (sub ! 0 refl (whole !))) (get ! refl) tt) refl (tt, tt) $
    sets_last ! (addr ! (through ! refl (stop !))) refl (tt, tt) $
    exec ! C Λ En (after 1 fn.body) (at_ret En Post) $ sets ! (of_opd ! (get ! refl)) refl (tt, tt) $
    use1 𝓛 (‵ (cell_shows (R E) b at (get_or d.cells cell None) κ)) (cell-shown E 𝓛 b κ o at d.cells cell within refl) $
    rewrite ! 0 (λ (x : Cell E). ‵ (cell_shows (R E) b at x κ)) asks.1.1 refl $ hide ! $
    feq_i ! (List Val) (vptr b at ∷ []) (vptr b at ∷ []) refl $ fjoin ! $
    -- [the `&` to the entry; the tokens]
    returns ! (look_at ! 0 refl) $ free_all ! refl $ keep ! (0 ∷ 1 ∷ []) $
    use0 𝓛 (raw (fact 𝓤 (get_or d.cells cell None ≡ Some x))) (fact_i 𝓤 _ (emp 𝓤) asks.1.1) $
    nothing ! $ nothing ! $ fjoin ! $ nothing ! $ fjoin ! $ nothing ! $ fjoin ! $
    -- [the rest of the parameters; the fact of the clause; the `&`; the tokens]
    move ! (3 ∷ 0 ∷ 2 ∷ 1 ∷ []) $ by ! (leaves 𝓛 T hs c y (vptr b at) (record { ref_ptr = (b, at); now = x }) (tt, (tt, (tt, tt))) (tt, (tt, (tt, tt)))))))))))
