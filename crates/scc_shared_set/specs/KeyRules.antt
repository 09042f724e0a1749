-- What a set under a rule of its keys holds, and what a closure must take that a call runs on its keys.
pub use Rattle.scc_common.specs.declared.errors.KeyError.TheVariants.{Exists, Memory}
use Rattle.std.specs.Prelude.{◌≡◌, Bool, true, List}
use Rattle.std.specs.Borrow.{Bor}
use Rattle.std.specs.Fn.{Mut, Once, FnOnceReturnsAt, FnOnceTakesAt, TakesAt}
use Rattle.std.specs.List.{AllByRecursion}

module _ {K : Type 0} (holds : K → Unit {0} → Type 0) where
  -- each key of the list keeps the rule
  abbrev pub AllKeep : List K → Type 0
  AllKeep ks = AllByRecursion (λ k. holds k tt) ks

  -- f, whatever calls did to it, may be called on each key that keeps the rule
  abbrev pub TakesEach : {F A : Type 0} → Mut F (Bor K × Unit {0}) A → Type 0
  TakesEach {F = F} g = (s : F) (k : K) → holds k tt → TakesAt g s k

  -- a clone of a key that keeps the rule keeps it
  abbrev pub ClonesKeep : (K → K → Type 0) → Type 0
  ClonesKeep copies = (k l : K) → holds k tt → copies k l → holds l tt

module _ {K : Type 0} (eq : K → K → Bool) (holds : K → Unit {0} → Type 0) where
  -- q equals k and keeps the rule
  abbrev pub IsKeptKey : K → K → Type 0
  IsKeptKey k q = (eq k q ≡ true) × holds q tt

  module _ {F A : Type 0} (g : Once F (Bor K × Unit {0}) A) (f : F) (k : K) where
    -- f may be called on a key that equals k and keeps the rule
    abbrev pub IsCalledOn : Type 0
    IsCalledOn = (q : K) → eq k q ≡ true → holds q tt → FnOnceTakesAt g f q

    -- f may return r at a key that equals k and keeps the rule
    abbrev pub ReadsKept : A → Type 0
    ReadsKept r = (q : K) × (eq k q ≡ true) × holds q tt × FnOnceReturnsAt g f q r
