-- A list of free cells is equal to a list of `None` of the same length.
use Rattle.std.proofs.Common.{◌≡◌, ℕ, suc, List, [], ◌∷◌, length, replicate, slice_index_or, Option, None, refl, ap, ◌∙◌}

pub drained-replicate : {X : Type 0} (cs : List (Option X)) → ((i : ℕ) → slice_index_or cs i None ≡ None) → cs ≡ replicate (length cs) None
drained-replicate [] h = refl
drained-replicate (c ∷ cs) h = ap (λ x. x ∷ cs) (h 0) ∙ ap (λ l. None ∷ l) (drained-replicate cs (λ i. h (suc i)))
