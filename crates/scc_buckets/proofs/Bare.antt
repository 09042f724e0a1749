-- Buckets without entries.
use Rattle.std.proofs.Common.{◌≡◌, ◌++◌, ◌∷◌, ℕ, List, [], refl, zero, suc}
use Rattle.std.specs.List.{flat_map}
use Rattle.scc_array.specs.Shelves.{shelf_of}
use Rattle.scc_array.specs.Shelf.{Shelf, shelf_entries}

pub nil-left : {X : Type 0} (xs ys : List X) → xs ++ ys ≡ [] → (xs ≡ []) × (ys ≡ [])
nil-left [] ys h = (refl, h)
nil-left (x ∷ xs) ys h = absurd (let z : x ∷ (xs ++ ys) ≡ [] = h in cc)

pub all-bare : {E : Type 0} (bs : List (Shelf E)) → flat_map shelf_entries bs ≡ [] → (i : ℕ) → shelf_entries (shelf_of bs i) ≡ []
all-bare [] h i = refl
all-bare (b ∷ bs) h zero = (nil-left (shelf_entries b) (flat_map shelf_entries bs) h).0
all-bare (b ∷ bs) h (suc i) = all-bare bs (nil-left (shelf_entries b) (flat_map shelf_entries bs) h).1 i
