-- The replies that each worker got, beside its receipts.
use Rattle.std.specs.Prelude.{◌≡◌, ℕ, ◌+◌, List, [], ◌∷◌, Option}
use Rattle.scc_history.specs.declared.log.Receipt.{Receipt}
use Rattle.scc_script.specs.declared.line.WorkerCall.{WorkerCall}
use Rattle.scc_play.specs.Answered.{AreAnswered, calls_by}

module _ {A R K Q V : Type 0} (key_of : A → Option K) (counted : R → Option ℕ) (count : ℕ → R) (stripes : ℕ) (calls : List (WorkerCall A)) (number : Q → ℕ) (receipts : Q → List (Receipt A R)) (replies : V → List R) where
  -- the passes are numbered from n on, and the receipts of each pass are those of the calls of the worker with its
  -- number, with these replies
  abbrev pub AreTold : ℕ → List Q → List V → Type 0
  AreTold n [] [] = Unit {0}
  AreTold n (p ∷ passes) (v ∷ all) = (number p ≡ n) × AreAnswered key_of counted count stripes (calls_by n calls) (receipts p) (replies v) × AreTold (n + 1) passes all
  AreTold n [] (v ∷ all) = ⊥
  AreTold n (p ∷ passes) [] = ⊥
