-- Walks over the keys of a set: on which keys a closure was called in turn, and what became of each key.
use Rattle.std.specs.Prelude.{Bool, true, false, List, [], ◌∷◌, Result, Ok, Err}
use Rattle.std.specs.Borrow.{Bor}
use Rattle.std.specs.Fn.{Mut, CalledAt, TakesAt}
use Rattle.scc_common.specs.Walks.{HoldsInTurn}
use Rattle.scc_common.specs.declared.errors.WalkError.{WalkError}
use Rattle.scc_common.specs.declared.verdict.Verdict.{Verdict}
use Rattle.scc_common.specs.declared.verdict.Verdict.TheVariants.{Keep, Take, KeepStop, TakeStop}
pub use Rattle.scc_common.specs.PairWalks.{GoesOn}

-- f may be called on the keys in turn, for as long as On holds of each result
abbrev pub CallableWhile : {F K R : Type 0} → Mut F (Bor K × Unit {0}) R → (R → Type 0) → F → List K → Type 0
CallableWhile {R = R} g On = HoldsInTurn (λ s q t. (r : R) × On r × CalledAt g s q r t) (TakesAt g)

module _ {F K : Type 0} (T : F → K → Bool → F → Type 0) where
  -- the closure was called on the keys in turn, up to its first false; the last argument is the closure after its last
  -- call
  pub data Walks : F → List K → Bool → F → Type 0 where
    walked : {f : F} → Walks f [] true f
    stopped : {f f' : F} {q : K} {ks : List K} → T f q false f' → Walks f (q ∷ ks) false f'
    went_on : {f f' f'' : F} {q : K} {ks : List K} {b : Bool} → T f q true f' → Walks f' ks b f'' → Walks f (q ∷ ks) b f''

  -- the closure was called on the keys in turn and returned false on each
  pub data Declines : F → List K → F → Type 0 where
    declined_none : {f : F} → Declines f [] f
    declined : {f f' f'' : F} {q : K} {ks : List K} → T f q false f' → Declines f' ks f'' → Declines f (q ∷ ks) f''

  -- the closure returned false on all keys
  pub record PassesNone (f : F) (ks : List K) : Type 0 where
    pub last : F
    pub declines : Declines f ks last

  -- the closure returned false on the keys in turn, and then true on q
  pub record PassesAt (f : F) (ks : List K) (q : K) : Type 0 where
    pub before : F
    pub last : F
    pub declines : Declines f ks before
    pub passes : T before q true last

  -- the closure was called on all keys in turn; the second list has the keys on which it returned true
  pub data Retains : F → List K → List K → F → Type 0 where
    retained : {f : F} → Retains f [] [] f
    stayed : {f f' f'' : F} {q : K} {ks stay : List K} → T f q true f' → Retains f' ks stay f'' → Retains f (q ∷ ks) (q ∷ stay) f''
    went : {f f' f'' : F} {q : K} {ks stay : List K} → T f q false f' → Retains f' ks stay f'' → Retains f (q ∷ ks) stay f''

-- the closure was called on the keys in turn, up to a stop, or to the key before which memory for room was refused;
-- the lists after the first are the keys that stay and the keys that were taken
pub data Takes {F K : Type 0} (T : F → K → Verdict → F → Type 0) : F → List K → List K → List K → Result Bool WalkError → F → Type 0 where
  ended : {f : F} → Takes T f [] [] [] (Ok true) f
  refused : {f : F} {q : K} {ks : List K} {e : WalkError} → Takes T f (q ∷ ks) (q ∷ ks) [] (Err e) f
  kept : {f f' f'' : F} {q : K} {ks stay taken : List K} {r : Result Bool WalkError} → T f q Keep f' → Takes T f' ks stay taken r f'' → Takes T f (q ∷ ks) (q ∷ stay) taken r f''
  took : {f f' f'' : F} {q : K} {ks stay taken : List K} {r : Result Bool WalkError} → T f q Take f' → Takes T f' ks stay taken r f'' → Takes T f (q ∷ ks) stay (q ∷ taken) r f''
  kept_last : {f f' : F} {q : K} {ks : List K} → T f q KeepStop f' → Takes T f (q ∷ ks) (q ∷ ks) [] (Ok false) f'
  took_last : {f f' : F} {q : K} {ks : List K} → T f q TakeStop f' → Takes T f (q ∷ ks) ks (q ∷ []) (Ok false) f'
