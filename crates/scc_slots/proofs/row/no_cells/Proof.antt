-- A row of no cells owns nothing, so it needs no resource. Assumes `Logic`.
use Rattle.std.proofs.Common.{◌≡◌, [], ◌∷◌, refl}
use base.Fml.{ftrue, flft}
use base.Logic.{SProp, emp}
use contract.Monad.{fact, fact_i}
use contract.Running.{tables}
use denote.RattleType.{RattleType, owns}
use denote.RawPtr.{null_ptr}
use denote.Signature.{types_at}
use denote.Steps.{nothing}
use denote.Triple.Clauses.{Ended}
use denote.Triple.Walked.{Stays, walk_of}
use mir.MapTy.{inst_fn}
use mir.Syntax.{Fn}
use mir.Val.{Val}
use types.ByLocal.{alloc_all, pass_all, free_all, look_at, get, sets, env}
use types.Kit.{by, use0, ‵, raw, ◌⊛◌, ◌$◌, ◌∵◌, !, qed, move, keep, split, join, fjoin}
use types.Part.{agg}
use types.Run.{no_more, and_then, returns, enter}
use Rattle.core.proofs.mem.Param.{El, R, args}
use Rattle.std.proofs.raw_atomic.Walks.{proved_at, leaves}
use Rattle.scc_slots.proofs.Places.{mark, field_made}
use Rattle.scc_slots.proofs.row.no_cells.Code as code
use Rattle.scc_slots.proofs.row.no_cells.Statement.{statement}
use Rattle.scc_slots.specs.contracts.row.Row as Row
use Rattle.scc_slots.specs.contracts.row.no_cells as f
use Rattle.scc_slots.specs.contracts.row.no_cells.Key.{name as #no_cells}

pub no_cells_spec : {M : Type 1} → statement M
no_cells_spec 𝓤 𝓛 𝓜 𝓡 wired X L =
    let E : El = record { row = X; laws = L } in
    let T : Ended = f.ended X in
    let W : RattleType = Row.the_row (R E) in
    let fn : Fn = inst_fn (args E) code.function in
    let hs : Stays T.signature.params T.kept = tt in
    let c = f.clauses X 𝓛 𝓜.mem 𝓡.returns in
    let C = (tables 𝓤 𝓛.H 𝓜 𝓡 𝓡.env).C in let Λ = (tables 𝓤 𝓛.H 𝓜 𝓡 𝓡.env).Λ in
    proved_at 𝓛 T hs c 𝓜 𝓡 tt (#no_cells (args E)) fn (code.unfolded 𝓤 𝓛.H 𝓜 𝓡 wired (X, tt)) (λ y are.
    let κ = y.0.0.0 in let q = y.0.1.0 in
    let Post : Val → SProp 𝓤 = (walk_of 𝓛 T hs c).post y in
    let row : W.Denot = record { of = record {}; start = null_ptr; cells = [] } in
    qed 𝓛 (((‵ (flft κ q) ⊛ ‵ ftrue) ⊛ ‵ (owns (types_at T.signature.params y.0.0) y.0.3 y.0.4)) ∷ raw ((c y.0.0 y.0.3).requires y.1) ∷ []) ∵
    split ! $ keep ! (0 ∷ []) $ split ! $
    -- [the tokens]
    enter ! C Λ fn [] Post $ alloc_all ! (λ l. pass_all ! refl tt $
    let En = env fn.locals l in
    sets ! (agg ! (no_more !)) refl (tt, tt) $ sets ! (agg ! (and_then ! (get ! refl) (no_more !))) refl (tt, (tt, tt)) $
    nothing ! $ field_made ! E $ fjoin ! $
    returns ! (look_at ! 0 refl) $ free_all ! refl $ keep ! (0 ∷ 1 ∷ 2 ∷ []) $
    use0 𝓛 (raw (fact 𝓤 ((row.start ≡ null_ptr) × (row.cells ≡ [])))) (fact_i 𝓤 _ (emp 𝓤) (refl, refl)) $ move ! (2 ∷ 3 ∷ []) $ join ! $
    nothing ! $
    -- [the rest of the parameters; the tokens; the fact of the clause; the row]
    move ! (1 ∷ 0 ∷ 3 ∷ 2 ∷ []) $ by ! (leaves 𝓛 T hs c y mark row tt tt)))
