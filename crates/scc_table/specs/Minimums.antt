-- What a change of the minimum does to a table of two arrays, one word a call.
use Rattle.std.specs.Prelude.{◌≡◌, ◌≢◌, ◌≤◌, ◌<◌, ◌+◌, ◌*◌, ◌^◌, ◌↔◌, ℕ, Bool, Option, IfNone, IfSome, IsSome, IsTrue, OnSome}
use Rattle.scc_common.specs.Contents.{Contents, bucket_count, minimum_of, notes_of, settings_of, waiting_of, IsUniqueBy}
use Rattle.scc_common.specs.Sizes.{IsArraySize}
use Rattle.scc_common.specs.Steps.{IsUnchanged, ReachesMinimumWhenDue, Releases, Reserves, Resizes, ShrinksWhenDue}
use Rattle.scc_table.specs.Relocates.{IsBelowMinimum, IsShrinkDue, Spreads}

module _ {E K S : Type 0} (eq : K → K → Bool) (key : E → K) where
  -- the minimum is raised by `additional` slots, and the result is a token for them
  pub record ReservesSlots (additional : ℕ) (c : Contents E S) (result : Option ℕ) (d : Contents E S) : Type 0 where
    -- there is a token exactly if `additional` isn't 0 and the minimum stays within the greatest capacity
    pub answer : IsSome result ↔ ((0 < additional) × (minimum_of c + additional ≤ 2 ^ 63))
    -- the token stands for `additional` slots
    pub token : IfSome result (λ r. r ≡ additional)
    -- with a token, the minimum is raised
    pub yes : OnSome result (Reserves additional c d)
    -- with a token, the array grows to the minimum, unless memory is refused
    pub due : OnSome result (ReachesMinimumWhenDue c d)
    -- with a token, every bucket of a larger array waits
    pub spreads : OnSome result (Spreads (IsBelowMinimum (minimum_of d) c) c d)
    -- without a token, entries, buckets and settings stay
    pub no : IfNone result (IsUnchanged c d)
    -- without a token, the note and the mark stay
    pub noted : IfNone result (notes_of d ≡ notes_of c)
    -- without a token, the waiting buckets stay
    pub waiting : IfNone result (waiting_of d ≡ waiting_of c)
    -- no two keys are equal
    pub unique : IsUniqueBy eq key d

  -- the minimum is raised by `additional` slots, and the result says whether it is
  pub record RaisesMinimum (additional : ℕ) (c : Contents E S) (result : Bool) (d : Contents E S) : Type 0 where
    -- the result is true exactly if `additional` isn't 0 and the minimum stays within the greatest capacity
    pub answer : IsTrue result ↔ ((0 < additional) × (minimum_of c + additional ≤ 2 ^ 63))
    -- if the result is true, the minimum is raised
    pub yes : IsTrue result → Reserves additional c d
    -- if the result is true, the array grows to the minimum, unless memory is refused
    pub due : IsTrue result → ReachesMinimumWhenDue c d
    -- if the result is true, every bucket of a larger array waits
    pub spreads : IsTrue result → Spreads (IsBelowMinimum (minimum_of d) c) c d
    -- if the result is false, entries, buckets and settings stay
    pub no : (IsTrue result → ⊥) → IsUnchanged c d
    -- if the result is false, the note and the mark stay
    pub noted : (IsTrue result → ⊥) → notes_of d ≡ notes_of c
    -- if the result is false, the waiting buckets stay
    pub waiting : (IsTrue result → ⊥) → waiting_of d ≡ waiting_of c
    -- no two keys are equal
    pub unique : IsUniqueBy eq key d

  -- the minimum is lowered by `additional` reserved slots, and the result says whether it is
  pub record LowersMinimum (additional : ℕ) (c : Contents E S) (result : Bool) (d : Contents E S) : Type 0 where
    -- the result is true exactly if at least `additional` slots are reserved
    pub answer : IsTrue result ↔ (additional ≤ (settings_of c).reserved)
    -- if the result is true, the slots are given back
    pub yes : IsTrue result → Releases additional c d
    -- if the result is true, the array shrinks if a shrink is due, unless memory is refused
    pub due : IsTrue result → ShrinksWhenDue c d
    -- if the result is true, every bucket of a smaller array waits
    pub spreads : IsTrue result → Spreads (IsShrinkDue (minimum_of d) c) c d
    -- if the result is false, entries, buckets and settings stay
    pub no : (IsTrue result → ⊥) → IsUnchanged c d
    -- if the result is false, the note and the mark stay
    pub noted : (IsTrue result → ⊥) → notes_of d ≡ notes_of c
    -- if the result is false, the waiting buckets stay
    pub waiting : (IsTrue result → ⊥) → waiting_of d ≡ waiting_of c
    -- no two keys are equal
    pub unique : IsUniqueBy eq key d

  -- an array with fewer slots than the minimum grows to it, unless memory is refused
  pub record GrowsToMinimum (c d : Contents E S) : Type 0 where
    -- the entries stay, and one resize may be made
    pub resizes : Resizes c d
    -- the number of buckets doesn't fall
    pub more : bucket_count c ≤ bucket_count d
    -- if the number of buckets changes, there was an array, and the new one has the size of the minimum
    pub size : bucket_count d ≢ bucket_count c → (0 < bucket_count c) × IsArraySize (minimum_of c) (32 * bucket_count d)
    -- the array grows to the minimum, unless memory is refused
    pub due : ReachesMinimumWhenDue c d
    -- every bucket of a larger array waits
    pub spreads : Spreads (IsBelowMinimum (minimum_of c) c) c d
    -- no two keys are equal
    pub unique : IsUniqueBy eq key d
