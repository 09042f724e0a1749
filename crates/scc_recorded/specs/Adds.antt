-- What the calls of all stripes add to a pass.
use Rattle.std.specs.Prelude.{◌≡◌, ℕ, ◌+◌, ◌<◌, List, [], ◌∷◌, ◌++◌, Option, None, Some}
use Rattle.scc_history.specs.declared.log.Receipt.{Receipt}

-- some part may give this reply to the call
abbrev pub MayAnswer : {G S A R : Type 0} → (G → S → A → R → S → Type 0) → A → R → Type 0
MayAnswer {G} {S} moves call reply = ∥ ((g : G) × (s : S) × (t : S) × moves g s call reply t) ∥₁

-- each stripe from `stripe` up to `end` has one receipt, in the order of the stripes, and `such` holds of each
-- receipt; from `clock` on the stamps rise, and the last stamp is `last`
abbrev pub Told : {A R : Type 0} → (Receipt A R → Type 0) → ℕ → ℕ → List (Receipt A R) → ℕ → ℕ → Type 0
Told such stripe clock [] end last = (stripe ≡ end) × (clock ≡ last)
Told such stripe clock (r ∷ rs) end last = (r.stripe ≡ stripe) × (clock < r.stamp) × such r × Told such (stripe + 1) r.stamp rs end last

-- a receipt of each of the first n stripes was added, `such` holds of each, and the clock went from `clock` to `last`
abbrev pub Adds : {A R : Type 0} → (Receipt A R → Type 0) → ℕ → ℕ → ℕ → List (Receipt A R) → List (Receipt A R) → Type 0
Adds {A} {R} such clock last n old new = (more : List (Receipt A R)) × (new ≡ old ++ more) × Told such 0 clock more n last

-- the receipt of a clone of the call, with a reply that some part may give to it
abbrev pub IsOf : {G S A R : Type 0} → (A → A → Type 0) → (G → S → A → R → S → Type 0) → A → Receipt A R → Type 0
IsOf is_clone moves call r = is_clone call r.call × MayAnswer moves call r.reply

-- the number in a reply, or 0 if the reply has none
abbrev pub number_or_zero : Option ℕ → ℕ
number_or_zero None = 0
number_or_zero (Some n) = n
