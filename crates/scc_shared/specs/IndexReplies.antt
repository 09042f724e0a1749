-- What the arguments of a removal decide of its result, whatever the stripe held.
use Rattle.std.specs.Prelude.{Bool, true}
use Rattle.std.specs.Borrow.{Bor}
use Rattle.std.specs.Fn.{Once, FnOnceReturnsAt}

-- f returned true on some value
abbrev pub PassesOn : {F V : Type 0} → Once F (Bor V × Unit {0}) Bool → F → Type 0
PassesOn {V = V} g f = (v : V) × FnOnceReturnsAt g f v true
