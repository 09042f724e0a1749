-- What a search by a hint finds.
use Rattle.std.specs.Prelude.{◌≡◌, ℕ, Bool, true, List, Some, slice_get}

-- e is one of the entries es, and passes p
pub record IsPassing {E : Type 0} (p : E → Bool) (es : List E) (e : E) : Type 0 where
  pub passes : p e ≡ true
  pub slot : (j : ℕ) × (slice_get es j ≡ Some e)

-- the element at index i passes p
pub record IsPassingAt {E : Type 0} (p : E → Bool) (es : List E) (i : ℕ) : Type 0 where
  pub entry : E
  pub here : slice_get es i ≡ Some entry
  pub passes : p entry ≡ true
