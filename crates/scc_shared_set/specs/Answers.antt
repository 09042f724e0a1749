-- What the arguments of a call decide of its result, whatever the stripe held.
pub use Rattle.scc_common.specs.declared.errors.KeyError.TheVariants.{Exists, Memory}
use Rattle.std.specs.Prelude.{◌≡◌, Bool, true}
use Rattle.std.specs.Borrow.{Bor}
use Rattle.std.specs.Fn.{Once, FnOnceReturnsAt}

module _ {K : Type 0} (eq : K → K → Bool) where
  -- q equals k
  abbrev pub IsEqual : K → K → Type 0
  IsEqual k q = eq k q ≡ true

  -- r is a result of f at a key that equals k
  abbrev pub ReadsEqual : {F R : Type 0} → Once F (Bor K × Unit {0}) R → F → K → R → Type 0
  ReadsEqual g f k r = (q : K) × (eq k q ≡ true) × FnOnceReturnsAt g f q r
