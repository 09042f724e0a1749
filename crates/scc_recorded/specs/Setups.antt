-- What a recorded container is made with, divided among its stripes.
use Rattle.std.specs.Prelude.{◌≡◌, ℕ, ◌+◌, ◌*◌, ◌/◌, ◌%◌, ◌<◌, ◌≤◌, ◌==◌, ◌⊎◌, if◌then◌else◌}
use Rattle.scc_common.specs.Sizes.{IsArraySize}
use Rattle.scc_calls.specs.declared.fixed.Request.{Request}

-- the number of stripes that may be asked for
abbrev pub IsStripes : ℕ → Type 0
IsStripes stripes = (stripes ≡ 1) ⊎ (stripes ≡ 2) ⊎ (stripes ≡ 4) ⊎ (stripes ≡ 8) ⊎ (stripes ≡ 16)

-- an array for `capacity` would have 64 slots or more for each of `stripes` stripes, and a cache that is made with
-- `maximum` might grow to as many. Of one stripe nothing is asked, nor of a capacity of 0. `limits` gives the greatest
-- number of slots by the maximum that is asked for and the slots of the array
abbrev pub AreWide : (ℕ → ℕ → ℕ → Type 0) → ℕ → ℕ → ℕ → Type 0
AreWide limits capacity maximum stripes = (stripes ≡ 1) ⊎ ((slots most : ℕ) → (capacity ≡ 0 → slots ≡ 0) → (0 < capacity → IsArraySize capacity slots) → limits maximum slots most → (0 < slots → 64 * stripes ≤ slots) × (0 < most → 64 * stripes ≤ most))

-- how many first bits of a hash name one of `stripes` stripes
abbrev pub skipped_for : ℕ → ℕ
skipped_for stripes = if stripes == 1 then 0 else if stripes == 2 then 1 else if stripes == 4 then 2 else if stripes == 8 then 3 else 4

-- the share of one stripe in `slots`, rounded up
abbrev pub share_among : ℕ → ℕ → ℕ
share_among slots stripes = if slots % stripes == 0 then slots / stripes else slots / stripes + 1

-- what each stripe is made for
abbrev pub request_of : {H : Type 0} → ℕ → ℕ → H → ℕ → Request H
request_of capacity maximum hasher stripes = record { hasher = hasher; skipped = skipped_for stripes; slots = share_among capacity stripes; maximum = share_among maximum stripes }
