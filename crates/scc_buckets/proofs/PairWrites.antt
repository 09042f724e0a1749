-- A list of pairs with one value written, and the place of a key.
use Rattle.std.specs.Prelude.{◌≡◌, ℕ, zero, suc, Bool, true, List, [], ◌∷◌, Some}
use Rattle.std.specs.List.{slice_get}
use Rattle.std.specs.Map.{lookup_entry}

-- the pairs, with w as the value at index i
abbrev pub set_value_at : {K V : Type 0} → List (K × V) → ℕ → V → List (K × V)
set_value_at [] i w = []
set_value_at (p ∷ es) zero w = (p.0, w) ∷ es
set_value_at (p ∷ es) (suc i) w = p ∷ set_value_at es i w

-- the pair at index i is the pair of k
abbrev pub IsPlaceOf : {K V : Type 0} → (K → K → Bool) → List (K × V) → K → ℕ → Type 0
IsPlaceOf {K} {V} eq c k i = (p : K × V) × (slice_get c i ≡ Some p) × (lookup_entry (eq k) c ≡ Some p) × (eq k p.0 ≡ true)
