-- How many replies are added to a list.
use Rattle.std.proofs.Common.{◌≡◌, ℕ, ◌+◌, List, ◌++◌, length, ap, arith, length-append}

-- the number of replies that were added is equal to the number of calls
pub as-many : {R : Type 0} (old new made : List R) (calls : ℕ) → new ≡ old ++ made → length new ≡ length old + calls → length made ≡ calls
as-many old new made calls e l = omega (arith, l, ap length e, length-append old made)
