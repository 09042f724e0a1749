-- Calls of a set over keys for which equal ones need not be the same.
use Rattle.std.specs.Prelude.{◌≡◌, Bool, true}
use Rattle.scc_calls.specs.declared.calls_as_values.SetCall.{SetCall}
use Rattle.scc_calls.specs.declared.calls_as_values.SetCall.TheVariants.{Insert, Replace, Remove, Read, Contains, Clear, Len}

module _ {K : Type 0} (keys : K → K → Bool) where
  -- both are the same call of a set, with equal keys
  abbrev pub SetCallsAlike : SetCall K → SetCall K → Type 0
  SetCallsAlike (Insert k) (Insert l) = keys k l ≡ true
  SetCallsAlike (Replace k) (Replace l) = keys k l ≡ true
  SetCallsAlike (Remove k) (Remove l) = keys k l ≡ true
  SetCallsAlike (Read k) (Read l) = keys k l ≡ true
  SetCallsAlike (Contains k) (Contains l) = keys k l ≡ true
  SetCallsAlike Clear Clear = Unit {0}
  SetCallsAlike Len Len = Unit {0}
  SetCallsAlike a b = ⊥
