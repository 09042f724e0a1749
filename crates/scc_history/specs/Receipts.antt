-- A caller's receipts beside the records of its calls.
use Rattle.std.specs.Prelude.{◌≡◌, ℕ, ◌<◌, List, [], ◌∷◌, Bool, true, Option, Some, None, slice_get, length, ◌==◌, if◌then◌else◌}
use Rattle.std.specs.Borrow.{Bor}
use Rattle.std.specs.List.{AllByRecursion, AllPairs}
use Rattle.scc_calls.specs.declared.steps.Step.{Step}
use Rattle.scc_calls.specs.declared.steps.Step.TheVariants.{Call, Resize}
use Rattle.scc_history.specs.declared.log.Receipt.{Receipt}
use Rattle.scc_history.specs.Stamps.{receipt}

-- the call records of the caller `number` among these steps, in their order, as receipts
abbrev pub calls_of : {A R : Type 0} → ℕ → List (ℕ × Step A R) → List (Receipt A R)
calls_of number [] = []
calls_of number ((i, Call stamp pass call reply) ∷ entries) = if pass == number then receipt i stamp call reply ∷ calls_of number entries else calls_of number entries
calls_of number ((i, Resize stamp buckets) ∷ entries) = calls_of number entries

-- the receipt of a call and a reply that are borrowed
abbrev pub seen : {A R : Type 0} → Receipt (Bor A) (Bor R) → Receipt A R
seen r = record { stripe = r.stripe; stamp = r.stamp; call = r.call.now; reply = r.reply.now }

-- both receipts are missing, or both are there and agree in stripe, stamp, call and reply
abbrev pub SameAt : {A R : Type 0} → (A → A → Bool) → (R → R → Bool) → Option (Receipt A R) → Option (Receipt A R) → Type 0
SameAt calls replies None None = Unit {0}
SameAt calls replies (Some r) (Some s) = (r.stripe ≡ s.stripe) × (r.stamp ≡ s.stamp) × (calls r.call s.call ≡ true) × (replies r.reply s.reply ≡ true)
SameAt calls replies None (Some s) = ⊥
SameAt calls replies (Some r) None = ⊥

-- receipts and records agree one for one, in order
abbrev pub Matches : {A R : Type 0} → (A → A → Bool) → (R → R → Bool) → List (Receipt A R) → List (Receipt A R) → Type 0
Matches calls replies receipts records = (k : ℕ) → SameAt calls replies (slice_get receipts k) (slice_get records k)

-- receipts and records agree before place j and don't agree at place j
abbrev pub DiffersFirst : {A R : Type 0} → (A → A → Bool) → (R → R → Bool) → List (Receipt A R) → List (Receipt A R) → ℕ → Type 0
DiffersFirst calls replies receipts records j = ((k : ℕ) → k < j → SameAt calls replies (slice_get receipts k) (slice_get records k)) × ¬ SameAt calls replies (slice_get receipts j) (slice_get records j)

-- the numbers are those below count, each once: there are count numbers, none is too great, and no two are equal
abbrev pub AreAll : ℕ → List ℕ → Type 0
AreAll count numbers = (length numbers ≡ count) × AllByRecursion (λ n. n < count) numbers × AllPairs (λ m n. m ≡ n → ⊥) numbers
