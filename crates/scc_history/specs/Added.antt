-- What a caller gets of one call.
use Rattle.std.specs.Prelude.{◌≡◌, ℕ, Bool, List, [], ◌∷◌, ◌++◌}
use Rattle.scc_history.specs.declared.log.Receipt.{Receipt}
use Rattle.scc_history.specs.Stamps.{receipt}
use Rattle.scc_calls.specs.Copies.{AreCopies}

-- a receipt of this stripe and stamp was added, with copies of the call and of the reply
abbrev pub AddsReceipt : {A R : Type 0} → (A → A → Type 0) → (R → R → Bool) → ℕ → ℕ → A → R → List (Receipt A R) → List (Receipt A R) → Type 0
AddsReceipt {A} {R} is_clone eq stripe stamp call reply old new = (copy : A) × (given : R) × AreCopies is_clone eq call reply copy given × (new ≡ old ++ receipt stripe stamp copy given ∷ [])
