-- What a closure must take and keep that a walk over a container under a rule calls on each pair.
use Rattle.std.specs.Prelude.{List}
use Rattle.std.specs.Borrow.{Bor, MutBor}
use Rattle.std.specs.Fn.{Mut}
use Rattle.scc_common.specs.PairWalks.{CalledToWrite, TakesToWrite}
use Rattle.scc_common.specs.Walks.{CallableWhile, CalledOn, HoldsInTurn, TakesOn}
use Rattle.scc_common.specs.Rules.{AllKeep}

module _ {F K V A : Type 0} (holds : K → V → Type 0) where
  -- f may be called in turn on any pairs that keep the rule, as long as each call returns `on`
  abbrev pub TakesKept : Mut F (Bor K × (Bor V × Unit {0})) A → A → F → Type 0
  TakesKept g on f = (es : List (K × V)) → AllKeep holds es → CallableWhile g on f es

  -- f, whatever calls did to it, may be called on each pair that keeps the rule
  abbrev pub TakesEach : Mut F (Bor K × (Bor V × Unit {0})) A → Type 0
  TakesEach g = (s : F) (a : Bor K) (b : Bor V) → holds a.now b.now → g.pre s (a, (b, tt))

  module _ (g : Mut F (Bor K × (MutBor V × Unit {0})) (A × (MutBor V × Unit {0}))) where
    -- f, whatever calls did to it, may be called on each pair that keeps the rule, with its value to write to
    abbrev pub TakesEachToWrite : Type 0
    TakesEachToWrite = (s : F) (a : Bor K) (b : MutBor V) → holds a.now b.now → g.pre s (a, (b, tt))

    -- whatever f returns at a pair that keeps the rule, what it leaves keeps the rule
    abbrev pub KeepsEachAlways : Type 0
    KeepsEachAlways = (s s' : F) (p : K × V) (r : A) (w : V) → holds p.0 p.1 → CalledToWrite g s p r w s' → holds p.0 w

module _ {F K V A : Type 0} (holds : K → V → Type 0) where
  module _ (g : Mut F (Bor K × (Bor V × Unit {0})) A) where
    -- a call of f on p, which keeps the rule, may return r, and leave f'
    abbrev pub CalledOnKept : F → K × V → A → F → Type 0
    CalledOnKept f p r f' = CalledOn g f p r f' × holds p.0 p.1

    -- f may be called in turn on those of the pairs that keep the rule, as long as each call returns `on`
    abbrev pub CallableOnKept : A → F → List (K × V) → Type 0
    CallableOnKept on = HoldsInTurn (λ s p t. CalledOn g s p on t) (λ s p. holds p.0 p.1 → TakesOn g s p)

  module _ (g : Mut F (Bor K × (MutBor V × Unit {0})) (A × (MutBor V × Unit {0}))) where
    -- a call of f on p, which keeps the rule, may return r, leave the value w, which keeps the rule too, and leave f'
    abbrev pub CalledToWriteKept : F → K × V → A → V → F → Type 0
    CalledToWriteKept f p r w f' = CalledToWrite g f p r w f' × holds p.0 p.1 × holds p.0 w

    -- f may be called in turn on those of the pairs that keep the rule, each with its value to write to, as long as On
    -- holds of each result
    abbrev pub CallableToWriteKept : (A → Type 0) → F → List (K × V) → Type 0
    CallableToWriteKept On = HoldsInTurn (λ s p t. (r : A) × (w : V) × On r × CalledToWrite g s p r w t) (λ s p. holds p.0 p.1 → TakesToWrite g s p)
