-- What the calls about sizes do to a container, by the reply.
use Rattle.std.specs.Prelude.{◌≡◌, ℕ, ◌+◌, ◌-◌, ◌^◌, ◌<◌, ◌≤◌, ◌↔◌, ◌⊎◌, Option, None, Some, Result, Ok, Err, IsSome, IsOk, IfNone, OnSome}
use Rattle.std.specs.Result.{OnOk, OnErr}
use Rattle.scc_common.specs.Contents.{Contents, settings_of, minimum_of, notes_of, waiting_of}
use Rattle.scc_common.specs.Steps.{IsUnchanged, ReachesMinimumWhenDue, Releases, Reserves, ShrinksWhenDue}
use Rattle.scc_table.specs.Relocates.{IsBelowMinimum, IsShrinkDue, Spreads}

module _ {E S : Type 0} where
  -- a reservation of n slots: the token is for n slots; there is no token if n is 0 or the minimum would pass the
  -- greatest capacity
  abbrev pub ReservesOrRefuses : ℕ → Contents E S → Option ℕ → Contents E S → Type 0
  ReservesOrRefuses n c (Some r) d = (r ≡ n) × (0 < n) × (minimum_of c + n ≤ 2 ^ 63) × Reserves n c d
  ReservesOrRefuses n c None d = (0 < n → 2 ^ 63 < minimum_of c + n) × IsUnchanged c d

  -- a token for n slots is given back; a token for more slots than are reserved comes back
  abbrev pub ReleasesOrRefuses : ℕ → Contents E S → Result (Unit {0}) ℕ → Contents E S → Type 0
  ReleasesOrRefuses n c (Ok _) d = (n ≤ (settings_of c).reserved) × Releases n c d
  ReleasesOrRefuses n c (Err r) d = (r ≡ n) × ((settings_of c).reserved < n) × IsUnchanged c d

module _ {E S : Type 0} (Distinct : Contents E S → Type 0) where
  -- the contract of `reserve`: with n slots it returns `result`, and turns c into d
  pub record ReservesByRule (n : ℕ) (c : Contents E S) (result : Option ℕ) (d : Contents E S) : Type 0 where
    -- there is a token for n slots, by which the minimum rises; or nothing changes
    pub step : ReservesOrRefuses n c result d
    -- it succeeds for one slot or more, up to the greatest capacity
    pub succeeds : IsSome result ↔ ((0 < n) × (minimum_of c + n ≤ 2 ^ 63))
    -- an array with fewer slots than the new minimum grows to the minimum, unless memory was refused
    pub due : OnSome result (ReachesMinimumWhenDue c d)
    -- note and mark stay if there is no token
    pub noted : IfNone result (notes_of d ≡ notes_of c)
    -- if the array grew, all buckets wait; else only buckets that waited before
    pub spreads : OnSome result (Spreads (IsBelowMinimum (minimum_of d) c) c d)
    -- the same buckets wait as before if there is no token
    pub waiting : IfNone result (waiting_of d ≡ waiting_of c)
    -- no two keys are equal
    pub unique : Distinct d

  -- the contract of `release`: with a token for n slots it returns `result`, and turns c into d
  pub record ReleasesByRule (n : ℕ) (c : Contents E S) (result : Result (Unit {0}) ℕ) (d : Contents E S) : Type 0 where
    -- the minimum falls by n slots; or the token comes back, and nothing changes
    pub step : ReleasesOrRefuses n c result d
    -- it succeeds for at most the slots that are reserved
    pub succeeds : IsOk result ↔ (n ≤ (settings_of c).reserved)
    -- a shrink that is then due is made, unless memory was refused
    pub due : OnOk result (ShrinksWhenDue c d)
    -- note and mark stay if the token comes back
    pub noted : OnErr result (notes_of d ≡ notes_of c)
    -- if the array shrank, all buckets wait; else only buckets that waited before
    pub spreads : OnOk result (Spreads (IsShrinkDue (minimum_of d) c) c d)
    -- the same buckets wait as before if the token comes back
    pub waiting : OnErr result (waiting_of d ≡ waiting_of c)
    -- no two keys are equal
    pub unique : Distinct d

  -- the contract of `follow_minimum`: `share` is made the minimum of c, which includes the slots asked for at making
  pub record FollowsMinimum (c : Contents E S) (share : ℕ) (d : Contents E S) : Type 0 where
    -- the minimum is `share`, if at most this number was asked for
    pub kept : (settings_of c).asked ≤ share → minimum_of d ≡ share
    -- a rise of the minimum is reserved, and an array grows to it, unless memory is refused
    pub raised : minimum_of c < share → Reserves (share - minimum_of c) c d × ReachesMinimumWhenDue c d
    -- a fall of the minimum is released, and a shrink that is due is made, unless memory is refused
    pub lowered : (settings_of c).asked ≤ share → share < minimum_of c → Releases (minimum_of c - share) c d × ShrinksWhenDue c d
    -- if `share` is less than the slots asked for, or is the minimum, nothing changes
    pub same : (share < (settings_of c).asked) ⊎ (share ≡ minimum_of c) → IsUnchanged c d × (notes_of d ≡ notes_of c) × (waiting_of d ≡ waiting_of c)
    -- no two keys are equal
    pub unique : Distinct d
