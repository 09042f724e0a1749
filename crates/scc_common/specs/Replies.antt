-- What the arguments of a call decide of its result, whatever the stripe held.
use Rattle.std.specs.Prelude.{◌≡◌, Bool, true}
use Rattle.std.specs.Borrow.{Bor, MutBor}
use Rattle.std.specs.Fn.{Once, FnOnceReturnsAtMut}
use Rattle.scc_common.specs.Closures.{AnswersAt, WritesAt}

module _ {K V : Type 0} (eq : K → K → Bool) where
  -- the key of p equals k
  abbrev pub HasKey : K → K × V → Type 0
  HasKey k p = eq k p.0 ≡ true

  -- f may return r at a pair whose key equals k
  abbrev pub ReadsEqual : {F R : Type 0} → Once F (Bor K × (Bor V × Unit {0})) R → F → K → R → Type 0
  ReadsEqual g f k r = (p : K × V) × (eq k p.0 ≡ true) × AnswersAt g f p r

  -- f may return r at a pair whose key equals k, with its value to write to
  abbrev pub WritesEqual : {F R : Type 0} → Once F (Bor K × (MutBor V × Unit {0})) (R × (MutBor V × Unit {0})) → F → K → R → Type 0
  WritesEqual g f k r = (p : K × V) × (w : V) × (eq k p.0 ≡ true) × WritesAt g f p r w

-- f may return true at some value and leave the value of p
abbrev pub PassesWith : {F K V : Type 0} → Once F (MutBor V × Unit {0}) (Bool × (MutBor V × Unit {0})) → F → K × V → Type 0
PassesWith {V = V} g f p = (v : V) × FnOnceReturnsAtMut g f v true p.1
