-- Keys as pairs with unit values.
use Rattle.std.specs.Prelude.{List, map}

-- each key as a pair with a unit value
abbrev pub with_units : {K : Type 0} → List K → List (K × Unit {0})
with_units ks = map (λ k. (k, tt)) ks
