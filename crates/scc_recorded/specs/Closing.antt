-- The receipts of passes beside the call records of their numbers.
use Rattle.std.specs.Prelude.{◌≡◌, ℕ, ◌<◌, List, Bool, Option, None, Some, slice_get, nat_lt, if◌then◌else◌}
use Rattle.scc_history.specs.declared.log.Receipt.{Receipt}
use Rattle.scc_history.specs.Receipts.{DiffersFirst, Matches}

module _ {T A R : Type 0} (calls : A → A → Bool) (replies : R → R → Bool) (number : T → ℕ) (receipts : T → List (Receipt A R)) (passes : List T) (records : ℕ → List (Receipt A R)) where
  -- the receipts of each pass agree with the records of its number, one for one
  abbrev pub AllMatch : Type 0
  AllMatch = (k : ℕ) (p : T) → slice_get passes k ≡ Some p → Matches calls replies (receipts p) (records (number p))

  -- a pass with the number n differs from its records first at this place, and no pass with a lesser number differs
  abbrev pub FirstDisagrees : ℕ → ℕ → Type 0
  FirstDisagrees n place =
      ((k : ℕ) × (p : T) × (slice_get passes k ≡ Some p) × (number p ≡ n) × DiffersFirst calls replies (receipts p) (records n) place)
      × ((k : ℕ) (p : T) → slice_get passes k ≡ Some p → number p < n → Matches calls replies (receipts p) (records (number p)))

-- the place in the pass with the lesser number
abbrev pub lesser_of : Option (ℕ × ℕ) → ℕ → Option ℕ → Option (ℕ × ℕ)
lesser_of first number None = first
lesser_of None number (Some place) = Some (number, place)
lesser_of (Some best) number (Some place) = if nat_lt number best.0 then Some (number, place) else Some best
