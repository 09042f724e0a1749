-- What a container under a rule holds, and what a call on one key must keep.
use Rattle.std.specs.Prelude.{◌≡◌, Bool, true, false, List}
use Rattle.std.specs.Borrow.{Bor, MutBor}
use Rattle.std.specs.Fn.{Once, FnOnceReturnsAtMut, FnOnceTakesAtMut}
use Rattle.std.specs.List.{AllByRecursion}
use Rattle.scc_common.specs.Closures.{AnswersAt, WritesAt}

module _ {K V : Type 0} (holds : K → V → Type 0) where
  -- the pair keeps the rule
  abbrev pub IsKept : K × V → Type 0
  IsKept p = holds p.0 p.1

  -- each pair of the list keeps the rule
  abbrev pub AllKeep : List (K × V) → Type 0
  AllKeep es = AllByRecursion (λ p. holds p.0 p.1) es

  module _ {F : Type 0} (g : Once F (MutBor V × Unit {0}) (Bool × (MutBor V × Unit {0}))) (f : F) (k : K) where
    -- f may be called on a value that may stand under k
    abbrev pub IsTested : Type 0
    IsTested = (v : V) → holds k v → FnOnceTakesAtMut g f v

    -- whatever f returns, what it leaves may stand under k
    abbrev pub KeepsTested : Type 0
    KeepsTested = (v w : V) (b : Bool) → holds k v → FnOnceReturnsAtMut g f v b w → holds k w

    -- f may return true at a value that may stand under k, and leave the value of p
    abbrev pub RemovesKept : K × V → Type 0
    RemovesKept p = (v : V) × holds k v × FnOnceReturnsAtMut g f v true p.1

module _ {K V : Type 0} (eq : K → K → Bool) (holds : K → V → Type 0) where
  -- p has a key that equals k, keeps the rule, and its value may stand under k
  abbrev pub IsKeptAt : K → K × V → Type 0
  IsKeptAt k p = (eq k p.0 ≡ true) × holds p.0 p.1 × holds k p.1

  module _ {F A : Type 0} (g : Once F (Bor K × (Bor V × Unit {0})) A) (f : F) (k : K) where
    -- f may be called on a pair whose key equals k and which keeps the rule
    abbrev pub IsCalledOn : Type 0
    IsCalledOn = (a : Bor K) (b : Bor V) → eq k a.now ≡ true → holds a.now b.now → holds k b.now → g.pre f (a, (b, tt))

    -- f may return r at a pair whose key equals k and which keeps the rule
    abbrev pub ReadsKept : A → Type 0
    ReadsKept r = (p : K × V) × (eq k p.0 ≡ true) × holds p.0 p.1 × holds k p.1 × AnswersAt g f p r

  module _ {F A : Type 0} (g : Once F (Bor K × (MutBor V × Unit {0})) (A × (MutBor V × Unit {0}))) (f : F) (k : K) where
    -- f may be called on a pair whose key equals k and which keeps the rule, with its value to write to
    abbrev pub IsCalledToWrite : Type 0
    IsCalledToWrite = (a : Bor K) (b : MutBor V) → eq k a.now ≡ true → holds a.now b.now → holds k b.now → g.pre f (a, (b, tt))

    -- what f leaves at such a pair may stand under k
    abbrev pub Keeps : Type 0
    Keeps = (p : K × V) (r : A) (w : V) → eq k p.0 ≡ true → holds p.0 p.1 → holds k p.1 → WritesAt g f p r w → holds k w

    -- f may return r at such a pair
    abbrev pub WritesKept : A → Type 0
    WritesKept r = (p : K × V) × (w : V) × (eq k p.0 ≡ true) × holds p.0 p.1 × holds k p.1 × WritesAt g f p r w

-- a clone of a pair that keeps the rule keeps it
abbrev pub ClonesKeep : {K V : Type 0} → (K → V → Type 0) → (K → K → Type 0) → (V → V → Type 0) → Type 0
ClonesKeep {K} {V} holds copies_key copies_value = (k l : K) (v w : V) → holds k v → copies_key k l → copies_value v w → holds l w
