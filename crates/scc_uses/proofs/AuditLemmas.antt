-- Lists that agree one for one are equally long.
use Rattle.std.proofs.Common.{◌≡◌, suc, List, [], ◌∷◌, length, Bool, refl, ap}
use Rattle.std.specs.Prelude.{Result, Ok, Err, IfOk}
use Rattle.scc_history.specs.declared.log.Receipt.{Receipt}
use Rattle.scc_history.specs.Receipts.{Matches}

pub as_many : {A R : Type 0} (calls : A → A → Bool) (replies : R → R → Bool) (xs ys : List (Receipt A R)) → Matches calls replies xs ys → length xs ≡ length ys
as_many calls replies [] [] m = refl
as_many calls replies [] (y ∷ ys) m = absurd (m 0)
as_many calls replies (x ∷ xs) [] m = absurd (m 0)
as_many calls replies (x ∷ xs) (y ∷ ys) m = ap suc (as_many calls replies xs ys (λ k. m (suc k)))

pub when_ok : {X E : Type 0} (P Q : X → Type 0) (r : Result X E) → IfOk r P → ((x : X) → P x → Q x) → IfOk r Q
when_ok P Q (Ok x) p f = f x p
when_ok P Q (Err e) p f = tt
