-- What a turn of a worker adds to its receipts.
use Rattle.std.specs.Prelude.{ℕ, ◌<◌, Bool, List, Option, None, Some}
use Rattle.scc_history.specs.Added.{AddsReceipt}
use Rattle.scc_history.specs.declared.log.Receipt.{Receipt}
use Rattle.scc_recorded.specs.Adds.{Adds, IsOf}

module _ {G S A R K : Type 0} (key_of : A → Option K) (is_clone : A → A → Type 0) (replies : R → R → Bool) (moves : G → S → A → R → S → Type 0) (route : K → ℕ) (stripes : ℕ) (call : A) where
  -- by the key of the call, if it has one: receipts of clones of the call were added, with stamps from `clock` to
  -- `last`. With a key it is one receipt, of the stripe that the key routes to; without a key it is one receipt of
  -- each stripe, stripe 0 first
  abbrev pub AddsCallBy : Option K → ℕ → ℕ → List (Receipt A R) → List (Receipt A R) → Type 0
  AddsCallBy (Some k) clock last old new = (clock < last) × (reply : R) × AddsReceipt is_clone replies (route k) last call reply old new
  AddsCallBy None clock last old new = Adds (IsOf is_clone moves call) clock last stripes old new

  -- the call was made, and its receipts were added
  abbrev pub AddsCall : ℕ → ℕ → List (Receipt A R) → List (Receipt A R) → Type 0
  AddsCall clock last old new = AddsCallBy (key_of call) clock last old new
