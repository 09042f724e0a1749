-- The values of a function up to its first None.
use Rattle.std.proofs.Common.{◌≡◌, ℕ, zero, suc, ◌<◌, ◌≤◌, List, [], ◌∷◌, length, Option, Some, None, refl, ap, ◌∙◌, arith}
use Rattle.std.specs.List.{slice_get}
use Rattle.scc_array.specs.Windows.{gather}

abbrev joined : {X : Type 0} → Option X → List X → List X
joined None xs = []
joined (Some x) xs = x ∷ xs

pub gather-suc : {X : Type 0} (f : ℕ → Option X) (n : ℕ) → gather f (suc n) ≡ joined (f 0) (gather (λ j. f (suc j)) n)
unfolding gather
gather-suc f n = elim (f 0) as (λ o. elim o as (λ _. List _) [ None ↦ [] | Some x ↦ x ∷ gather (λ j. f (suc j)) n ] ≡ joined o (gather (λ j. f (suc j)) n)) [ None ↦ refl | Some x ↦ refl ]

-- a function that agrees with a list gathers the elements of the list
pub gather-is : {X : Type 0} (f : ℕ → Option X) (n : ℕ) (xs : List X) → length xs ≤ n → ((j : ℕ) → j < n → f j ≡ slice_get xs j) → gather f n ≡ xs
unfolding gather
gather-is f zero [] h e = refl
gather-is f zero (x ∷ xs) h e = absurd (omega arith)
gather-is f (suc n) [] h e = gather-suc f n ∙ ap (λ o. joined o (gather (λ j. f (suc j)) n)) (e 0 (omega arith))
gather-is f (suc n) (x ∷ xs) h e =
    gather-suc f n ∙ ap (λ o. joined o (gather (λ j. f (suc j)) n)) (e 0 (omega arith)) ∙ ap (λ l. x ∷ l) (gather-is (λ j. f (suc j)) n xs (omega arith) (λ j l. e (suc j) (omega arith)))
