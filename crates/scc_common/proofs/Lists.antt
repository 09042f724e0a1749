-- A property of each item of a list, under what calls do to lists.
use Rattle.std.proofs.Common.{List, [], ◌∷◌, ◌++◌}
use Rattle.std.specs.List.{AllByRecursion}

module _ {X : Type 0} (P : X → Type 0) where
  pub all-append : (xs ys : List X) → AllByRecursion P xs → AllByRecursion P ys → AllByRecursion P (xs ++ ys)
  all-append [] ys h k = k
  all-append (x ∷ xs) ys h k = (h.0, all-append xs ys h.1 k)

  pub all-parts : (xs ys : List X) → AllByRecursion P (xs ++ ys) → AllByRecursion P xs × AllByRecursion P ys
  all-parts [] ys h = (tt, h)
  all-parts (x ∷ xs) ys h = let r = all-parts xs ys h.1 in ((h.0, r.0), r.1)

  pub all-middle : (before after : List X) (x : X) → AllByRecursion P (before ++ x ∷ after) → P x
  all-middle [] after x h = h.0
  all-middle (y ∷ before) after x h = all-middle before after x h.1
