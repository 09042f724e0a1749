-- A walk over pairs that keep a rule, by a closure that takes and keeps them.
use Rattle.std.proofs.Common.{◌≡◌, Bool, List, [], ◌∷◌, ◌++◌, Result, refl, sym, ap, subst}
use Rattle.std.specs.Borrow.{Bor, MutBor}
use Rattle.std.specs.Fn.{Mut}
use Rattle.scc_common.specs.PairWalks.{CallableToWrite, CalledToWrite, Retains, Takes}
use Rattle.scc_common.specs.PairWalks as pairs
use Rattle.scc_common.specs.Walks.{CallableWhile, CalledOn, Walks}
use Rattle.scc_common.specs.Walks as walks
use Rattle.scc_common.specs.declared.errors.WalkError.{WalkError}
use Rattle.scc_common.specs.declared.verdict.Verdict.{Verdict}
use Rattle.scc_common.specs.Rules.{AllKeep}
use Rattle.scc_common.specs.RuleWalks.{CallableOnKept, CallableToWriteKept, CalledOnKept, CalledToWriteKept, TakesEach, TakesEachToWrite, TakesKept}
use Rattle.scc_common.proofs.Lists.{all-middle}

-- a closure that takes each pair that keeps the rule may be called on such pairs in turn
module _ {F K V : Type 0} (holds : K → V → Type 0) where
  pub callable-kept : (g : Mut F (Bor K × (Bor V × Unit {0})) Bool) (on : Bool) → TakesEach holds g → (f : F) → TakesKept holds g on f
  callable-kept g on takes f es h = record {
    at = λ before after p f' e folds key value shows.
        let own : holds p.0 p.1 = all-middle (λ (p : K × V). holds p.0 p.1) before after p (subst (AllKeep holds) e h) in
        takes f' key value (subst (λ (p : K × V). holds p.0 p.1) (sym shows) own);
  }

-- walks that say of each pair on which the closure is called that it keeps the rule
module _ {F K V : Type 0} (holds : K → V → Type 0) where
  module _ (g : Mut F (Bor K × (Bor V × Unit {0})) Bool) where
    -- a closure that may be called on pairs in turn may be called on those that keep the rule
    pub callable-some : (on : Bool) (f : F) (es : List (K × V)) → CallableWhile g on f es → CallableOnKept holds g on f es
    callable-some on f es h = record { at = λ before after p f' e folds kept. h.at before after p f' e folds }

    -- a closure that takes each pair that keeps the rule may be called on such pairs in turn
    pub callable-each : (on : Bool) (f : F) (es : List (K × V)) → TakesEach holds g → CallableOnKept holds g on f es
    callable-each on f es takes = record { at = λ before after p f' e folds kept key value shows. takes f' key value (subst (λ (q : K × V). holds q.0 q.1) (sym shows) kept) }

    pub walk-of-kept : {f last : F} {es : List (K × V)} {b : Bool} → Walks (CalledOnKept holds g) f es b last → Walks (CalledOn g) f es b last
    walk-of-kept walks.ended = walks.ended
    walk-of-kept (walks.stopped t) = walks.stopped t.0
    walk-of-kept (walks.went_on t w) = walks.went_on t.0 (walk-of-kept w)

    -- the pairs on which the closure was called: they come first, keep the rule, and are all if the walk went to its end
    pub record Met (f : F) (es : List (K × V)) (b : Bool) (last : F) : Type 0 where
      pub met : List (K × V)
      pub rest : List (K × V)
      pub first : es ≡ met ++ rest
      pub kept : AllKeep holds met
      pub walk : Walks (CalledOn g) f met b last

    pub walk-met : {f last : F} {es : List (K × V)} {b : Bool} → Walks (CalledOnKept holds g) f es b last → Met f es b last
    walk-met walks.ended = record { met = []; rest = []; first = refl; kept = tt; walk = walks.ended }
    walk-met (walks.stopped {p = p} {es = es} t) = record { met = p ∷ []; rest = es; first = refl; kept = (t.1, tt); walk = walks.stopped t.0 }
    walk-met (walks.went_on {p = p} t w) = let m = walk-met w in record { met = p ∷ m.met; rest = m.rest; first = ap (λ z. p ∷ z) m.first; kept = (t.1, m.kept); walk = walks.went_on t.0 m.walk }

  module _ (g : Mut F (Bor K × (MutBor V × Unit {0})) (Bool × (MutBor V × Unit {0}))) where
    pub retains-of-kept : {f last : F} {es stay : List (K × V)} → Retains (CalledToWriteKept holds g) f es stay last → Retains (CalledToWrite g) f es stay last
    retains-of-kept pairs.ended = pairs.ended
    retains-of-kept (pairs.kept t x) = pairs.kept t.0 (retains-of-kept x)
    retains-of-kept (pairs.removed t x) = pairs.removed t.0 (retains-of-kept x)

    -- all pairs keep the rule, and so do those that stay
    pub retains-keep : {f last : F} {es stay : List (K × V)} → Retains (CalledToWriteKept holds g) f es stay last → AllKeep holds es × AllKeep holds stay
    retains-keep pairs.ended = (tt, tt)
    retains-keep (pairs.kept t x) = let r = retains-keep x in ((t.1, r.0), (t.2, r.1))
    retains-keep (pairs.removed t x) = let r = retains-keep x in ((t.1, r.0), r.1)

  module _ (g : Mut F (Bor K × (MutBor V × Unit {0})) (Verdict × (MutBor V × Unit {0}))) where
    pub takes-of-kept : {f last : F} {es stay more : List (K × V)} {r : Result Bool WalkError} → Takes (CalledToWriteKept holds g) f es stay more r last → Takes (CalledToWrite g) f es stay more r last
    takes-of-kept pairs.ended = pairs.ended
    takes-of-kept pairs.refused = pairs.refused
    takes-of-kept (pairs.kept t x) = pairs.kept t.0 (takes-of-kept x)
    takes-of-kept (pairs.took t x) = pairs.took t.0 (takes-of-kept x)
    takes-of-kept (pairs.kept_last t) = pairs.kept_last t.0
    takes-of-kept (pairs.took_last t) = pairs.took_last t.0

    -- the pairs that are taken keep the rule
    pub takes-keep : {f last : F} {es stay more : List (K × V)} {r : Result Bool WalkError} → Takes (CalledToWriteKept holds g) f es stay more r last → AllKeep holds more
    takes-keep pairs.ended = tt
    takes-keep pairs.refused = tt
    takes-keep (pairs.kept t x) = takes-keep x
    takes-keep (pairs.took t x) = (t.2, takes-keep x)
    takes-keep (pairs.kept_last t) = tt
    takes-keep (pairs.took_last t) = (t.2, tt)

  module _ {A : Type 0} (g : Mut F (Bor K × (MutBor V × Unit {0})) (A × (MutBor V × Unit {0}))) (On : A → Type 0) (f : F) (es : List (K × V)) where
    pub callable-some_to_write : CallableToWrite g On f es → CallableToWriteKept holds g On f es
    callable-some_to_write h = record { at = λ before after p f' e folds kept. h.at before after p f' e folds }

    pub callable-each_to_write : TakesEachToWrite holds g → CallableToWriteKept holds g On f es
    callable-each_to_write takes = record { at = λ before after p f' e folds kept key value shows. takes f' key value (subst (λ (q : K × V). holds q.0 q.1) (sym shows) kept) }
