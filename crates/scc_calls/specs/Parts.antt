-- Parts, and the keys that route to them.
use Rattle.std.specs.Prelude.{◌≡◌, ℕ, ◌+◌, List, [], ◌∷◌, Option, None, Some}
use Rattle.std.specs.List.{AllByRecursion}

module _ {K : Type 0} (route : K → ℕ) where
  -- each of these keys routes to part i
  abbrev pub Routed : ℕ → List K → Type 0
  Routed i keys = AllByRecursion (λ k. route k ≡ i) keys

  -- the key, if there is one, routes to part i
  abbrev pub KeyRouted : ℕ → Option K → Type 0
  KeyRouted i None = Unit {0}
  KeyRouted i (Some k) = route k ≡ i

  module _ {S : Type 0} (keys : S → List K) where
    -- each key of each part routes to its own part; the first part is number i
    abbrev pub RoutedFrom : ℕ → List S → Type 0
    RoutedFrom i [] = Unit {0}
    RoutedFrom i (s ∷ parts) = Routed i (keys s) × RoutedFrom (i + 1) parts
