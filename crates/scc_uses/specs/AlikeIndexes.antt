-- Calls of an index over keys and values for which equal ones need not be the same.
use Rattle.std.specs.Prelude.{◌≡◌, Bool, true}
use Rattle.scc_calls.specs.Copies.{Alike}
use Rattle.scc_calls.specs.declared.calls_as_values.IndexCall.{IndexCall}
use Rattle.scc_calls.specs.declared.calls_as_values.IndexCall.TheVariants.{Insert, Update, Remove, Read, Contains, Clear, Len}

module _ {K V : Type 0} (keys : K → K → Bool) (values : V → V → Bool) where
  -- both are the same call of an index, with equal keys and alike values
  abbrev pub IndexCallsAlike : IndexCall K V → IndexCall K V → Type 0
  IndexCallsAlike (Insert k v) (Insert l w) = (keys k l ≡ true) × Alike values v w
  IndexCallsAlike (Update k v) (Update l w) = (keys k l ≡ true) × Alike values v w
  IndexCallsAlike (Remove k) (Remove l) = keys k l ≡ true
  IndexCallsAlike (Read k) (Read l) = keys k l ≡ true
  IndexCallsAlike (Contains k) (Contains l) = keys k l ≡ true
  IndexCallsAlike Clear Clear = Unit {0}
  IndexCallsAlike Len Len = Unit {0}
  IndexCallsAlike a b = ⊥
