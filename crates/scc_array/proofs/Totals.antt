-- A sum over buckets, one bucket after another.
use Rattle.std.proofs.Common.{◌≡◌, ℕ, zero, suc, ◌≤◌, ◌∷◌, List, [], take, length, refl, ap, arith}

pub take-whole : {X : Type 0} (xs : List X) (j : ℕ) → length xs ≤ j → take j xs ≡ xs
take-whole [] zero h = refl
take-whole [] (suc j) h = refl
take-whole (x ∷ xs) zero h = absurd (omega arith)
take-whole (x ∷ xs) (suc j) h = ap (λ l. x ∷ l) (take-whole xs j (omega arith))
