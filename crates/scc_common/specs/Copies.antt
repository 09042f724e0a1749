-- Clones of the result of a look-up.
use Rattle.std.specs.Prelude.{Option, None, Some}

-- the second option is a clone of the first, or both are `None`
abbrev pub IsCopied : {X Y : Type 0} → (X → Y → Type 0) → Option X → Option Y → Type 0
IsCopied is_clone None None = Unit {0}
IsCopied is_clone (Some x) (Some y) = is_clone x y
IsCopied is_clone None (Some y) = ⊥
IsCopied is_clone (Some x) None = ⊥
