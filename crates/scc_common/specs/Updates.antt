-- What a closure returns and leaves that gets the key of an entry, and its value to write to.
use Rattle.std.specs.Borrow.{Bor, MutBor}
use Rattle.std.specs.Fn.{Once}
use Rattle.scc_common.specs.Closures.{WritesAt}

module _ {F E K V R : Type 0} (g : Once F (Bor K × (MutBor V × Unit {0})) (R × (MutBor V × Unit {0}))) (f : F) (key_of : E → K) (value_of : E → V) where
  -- a call of f at the entry e may return r and leave w as its value
  abbrev pub WritesInto : E → R → V → Type 0
  WritesInto e r w = WritesAt g f (key_of e, value_of e) r w
