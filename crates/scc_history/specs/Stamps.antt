-- How stamps rise, and what one call adds to a history.
use Rattle.std.specs.Prelude.{ℕ, ◌+◌, ◌<◌, ◌≤◌, List, [], ◌∷◌, nat_lt, if◌then◌else◌, ◌==◌}
use Rattle.std.specs.Coded.{×_prop, le_prop}
use Rattle.scc_calls.specs.declared.steps.Step.{Step}
use Rattle.scc_calls.specs.declared.steps.Step.TheVariants.{Call, Resize}
use Rattle.scc_history.specs.declared.log.Receipt.{Receipt}

-- from low on, each call has a greater stamp than the call before it, the last call has the stamp `last`, and a resize
-- has at least the stamp of the call before it
abbrev pub Rises : {A R : Type 0} → ℕ → List (Step A R) → ℕ → Type 0
Rises low [] last = (low ≤ last) × (last ≤ low)
Rises low (Call stamp pass call reply ∷ steps) last = (low < stamp) × Rises stamp steps last
Rises low (Resize stamp buckets ∷ steps) last = (low ≤ stamp) × Rises low steps last

-- `Rises` holds in at most one way
pub Rises-prop : {A R : Type 0} (low : ℕ) (steps : List (Step A R)) (last : ℕ) → IsProp (Rises low steps last)
Rises-prop low [] last = ×_prop le_prop le_prop
Rises-prop low (Call stamp pass call reply ∷ steps) last = ×_prop le_prop (Rises-prop stamp steps last)
Rises-prop low (Resize stamp buckets ∷ steps) last = ×_prop le_prop (Rises-prop low steps last)

-- from low on, each receipt has a greater stamp than the receipt before it, and the clock is at least the last stamp
abbrev pub RisesTo : {A R : Type 0} → ℕ → List (Receipt A R) → ℕ → Type 0
RisesTo low [] clock = low ≤ clock
RisesTo low (receipt ∷ receipts) clock = (low < receipt.stamp) × RisesTo receipt.stamp receipts clock

-- `RisesTo` holds in at most one way
pub RisesTo-prop : {A R : Type 0} (low : ℕ) (receipts : List (Receipt A R)) (clock : ℕ) → IsProp (RisesTo low receipts clock)
RisesTo-prop low [] clock = le_prop
RisesTo-prop low (receipt ∷ receipts) clock = ×_prop le_prop (RisesTo-prop receipt.stamp receipts clock)

-- the steps that a call adds: its record, with a growth before it or a shrink after it if the number of buckets
-- changed
abbrev pub recorded : {A R : Type 0} → ℕ → ℕ → ℕ → ℕ → A → R → List (Step A R)
recorded before after stamp pass call reply =
    if nat_lt before after then Resize stamp after ∷ Call stamp pass call reply ∷ []
    else if nat_lt after before then Call stamp pass call reply ∷ Resize stamp after ∷ []
    else Call stamp pass call reply ∷ []

-- the steps that a refused call adds: its resize, if it made one
abbrev pub resized : {A R : Type 0} → ℕ → ℕ → ℕ → List (Step A R)
resized before after stamp = if before == after then [] else Resize stamp after ∷ []

-- a receipt of its four parts
abbrev pub receipt : {A R : Type 0} → ℕ → ℕ → A → R → Receipt A R
receipt stripe stamp call reply = record { stripe = stripe; stamp = stamp; call = call; reply = reply }

-- the number of call records
abbrev pub calls_in : {A R : Type 0} → List (Step A R) → ℕ
calls_in [] = 0
calls_in (Call stamp pass call reply ∷ steps) = calls_in steps + 1
calls_in (Resize stamp buckets ∷ steps) = calls_in steps
