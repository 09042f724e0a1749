-- Walks over pairs: what a closure was called with in turn, and what became of each pair.
use Rattle.std.specs.Prelude.{◌≡◌, ℕ, Bool, true, false, List, [], ◌∷◌, take, Result, Ok, Err, Some, slice_get, ⊤}
use Rattle.std.specs.Borrow.{Bor, MutBor}
use Rattle.std.specs.Fn.{Mut, Called}
use Rattle.scc_common.specs.Walks.{HoldsInTurn}
use Rattle.scc_common.specs.declared.errors.WalkError.{WalkError}
use Rattle.scc_common.specs.declared.verdict.Verdict.{Verdict}
use Rattle.scc_common.specs.declared.verdict.Verdict.TheVariants.{Keep, Take, KeepStop, TakeStop}

module _ {F K V : Type 0} (T : F → K × V → Bool → F → Type 0) where
  -- the closure is called on the pairs in turn, and returns false on each; the last argument is the state that it is
  -- left in
  pub data Declines : F → List (K × V) → F → Type 0 where
    ended : {f : F} → Declines f [] f
    went_on : {f f' f'' : F} {p : K × V} {es : List (K × V)} → T f p false f' → Declines f' es f'' → Declines f (p ∷ es) f''

  -- the closure returns false on all pairs
  pub record PassesNone (f : F) (es : List (K × V)) : Type 0 where
    pub last : F
    pub declines : Declines f es last

  -- the closure returns false on the pairs in turn, and then true on p
  pub record PassesAt (f : F) (es : List (K × V)) (p : K × V) : Type 0 where
    pub before : F
    pub last : F
    pub declines : Declines f es before
    pub passes : T before p true last

  -- the pair at position i is the first on which the closure returns true
  pub record PassesFirst (f : F) (es : List (K × V)) (i : ℕ) : Type 0 where
    pub pair : K × V
    pub here : slice_get es i ≡ Some pair
    pub first : PassesAt f (take i es) pair

-- a call of f with a & to the key and a &mut to the value of p may return r, leave the value w, and leave f'
pub record CalledToWrite {F K V R : Type 0} (g : Mut F (Bor K × (MutBor V × Unit {0})) (R × (MutBor V × Unit {0}))) (f : F) (p : K × V) (r : R) (w : V) (f' : F) : Type 0 where
  pub key : Bor K
  pub value : MutBor V
  pub shows : (key.now, value.now) ≡ p
  pub left : MutBor V
  pub called : Called g f (key, (value, tt)) (r, (left, tt)) f'
  pub leaves : left.now ≡ w

-- f may be called with a & to the key and a &mut to the value of p
abbrev pub TakesToWrite : {F K V R : Type 0} → Mut F (Bor K × (MutBor V × Unit {0})) (R × (MutBor V × Unit {0})) → F → K × V → Type 0
TakesToWrite {F} {K} {V} g f p = (key : Bor K) (value : MutBor V) → (key.now, value.now) ≡ p → g.pre f (key, (value, tt))

-- f may be called on the pairs in turn, each with its value to write to, as long as On holds of each result
abbrev pub CallableToWrite : {F K V R : Type 0} → Mut F (Bor K × (MutBor V × Unit {0})) (R × (MutBor V × Unit {0})) → (R → Type 0) → F → List (K × V) → Type 0
CallableToWrite {F} {K} {V} {R} g On = HoldsInTurn (λ s p t. (r : R) × (w : V) × On r × CalledToWrite g s p r w t) (TakesToWrite g)

-- the verdicts after which a walk goes on
abbrev pub GoesOn : Verdict → Type 0
GoesOn Keep = ⊤
GoesOn Take = ⊤
GoesOn KeepStop = ⊥
GoesOn TakeStop = ⊥

-- the closure is called on all pairs in turn; the second list is the pairs that stay, with the values that it left
pub data Retains {F K V : Type 0} (T : F → K × V → Bool → V → F → Type 0) : F → List (K × V) → List (K × V) → F → Type 0 where
  ended : {f : F} → Retains T f [] [] f
  kept : {f f' f'' : F} {p : K × V} {w : V} {es stay : List (K × V)} → T f p true w f' → Retains T f' es stay f'' → Retains T f (p ∷ es) ((p.0, w) ∷ stay) f''
  removed : {f f' f'' : F} {p : K × V} {w : V} {es stay : List (K × V)} → T f p false w f' → Retains T f' es stay f'' → Retains T f (p ∷ es) stay f''

-- the closure is called on the pairs in turn, up to a stop, or to a pair for which room is refused; the second and
-- third list are the pairs that stay and those that are taken, with the values that it left
pub data Takes {F K V : Type 0} (T : F → K × V → Verdict → V → F → Type 0) : F → List (K × V) → List (K × V) → List (K × V) → Result Bool WalkError → F → Type 0 where
  ended : {f : F} → Takes T f [] [] [] (Ok true) f
  refused : {f : F} {p : K × V} {es : List (K × V)} {e : WalkError} → Takes T f (p ∷ es) (p ∷ es) [] (Err e) f
  kept : {f f' f'' : F} {p : K × V} {w : V} {es stay taken : List (K × V)} {r : Result Bool WalkError} → T f p Keep w f' → Takes T f' es stay taken r f'' → Takes T f (p ∷ es) ((p.0, w) ∷ stay) taken r f''
  took : {f f' f'' : F} {p : K × V} {w : V} {es stay taken : List (K × V)} {r : Result Bool WalkError} → T f p Take w f' → Takes T f' es stay taken r f'' → Takes T f (p ∷ es) stay ((p.0, w) ∷ taken) r f''
  kept_last : {f f' : F} {p : K × V} {w : V} {es : List (K × V)} → T f p KeepStop w f' → Takes T f (p ∷ es) ((p.0, w) ∷ es) [] (Ok false) f'
  took_last : {f f' : F} {p : K × V} {w : V} {es : List (K × V)} → T f p TakeStop w f' → Takes T f (p ∷ es) es ((p.0, w) ∷ []) (Ok false) f'
