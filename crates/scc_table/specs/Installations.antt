-- What the calls do to a table of two arrays that make an array, install one, or set the note, the mark or the reserved
-- slots alone.
use Rattle.std.specs.Prelude.{◌≡◌, ◌≤◌, ◌<◌, ℕ, Bool, true, [], replicate, Result}
use Rattle.std.specs.List.Sorted.{IsPermutation}
use Rattle.std.specs.Result.{OnOk, OnErr}
use Rattle.scc_common.specs.Contents.{Contents, entries, bucket_count, lists_of, owed_of, pending_of, notes_of, settings_of, overflow_of, waiting_of, IsUniqueBy, IsNoteDown, IsNoteUp, IsUnmarked}
use Rattle.scc_common.specs.Steps.{FirstArrayWhenDue, Grows, IsUnchanged, Rests}
use Rattle.scc_buckets.specs.Bounded.{IsBounded, IsResized}
use Rattle.scc_buckets.specs.Pour.{IsRegrouped}
use Rattle.scc_table.specs.Relocates.{AreShort}
use Rattle.scc_draining.specs.Waiting.{cleared}
use Rattle.scc_table.specs.TwoArrays.{IsWaiting}

module _ {E S : Type 0} where
  -- a new array of `count` buckets is installed, every bucket waits, and nothing else changes
  pub record Installs (hash : E → ℕ) (count : ℕ) (c d : Contents E S) : Type 0 where
    -- each list has the entries that belong to it
    pub lists : IsRegrouped hash count c d
    -- the entries stay, in some order
    pub same : IsPermutation (entries c) (entries d)
    -- every bucket waits
    pub waiting : waiting_of d ≡ replicate count true
    -- `count` buckets wait
    pub pending : pending_of d ≡ count
    -- the note and the mark stay
    pub noted : notes_of d ≡ notes_of c
    -- empty overflow lists stay empty
    pub bounded : IsBounded c → IsBounded d

  -- the number of reserved slots is set, and nothing else changes
  pub record SetsReserved (reserved : ℕ) (c d : Contents E S) : Type 0 where
    -- the entries stay
    pub entries : entries d ≡ entries c
    -- the number of buckets stays
    pub buckets : bucket_count d ≡ bucket_count c
    -- `reserved` slots are reserved
    pub settings : settings_of d ≡ record (settings_of c) { reserved = reserved }
    -- the note and the mark stay
    pub noted : notes_of d ≡ notes_of c
    -- each list stays
    pub lists : lists_of d ≡ lists_of c
    -- the waiting buckets stay
    pub waiting : waiting_of d ≡ waiting_of c
    -- what the old array owes stays
    pub owed : owed_of d ≡ owed_of c

module _ {E K S : Type 0} (eq : K → K → Bool) (key : E → K) where
  -- the note and the mark are set to `note`, and nothing else changes
  pub record Notes (note : Bool × Bool) (c d : Contents E S) : Type 0 where
    -- each list stays
    pub lists : lists_of d ≡ lists_of c
    -- the settings stay
    pub settings : settings_of d ≡ settings_of c
    -- the note and the mark are `note`
    pub noted : notes_of d ≡ note
    -- the number of entries in overflow lists stays
    pub spilled : overflow_of d ≡ overflow_of c
    -- the waiting buckets stay
    pub waiting : waiting_of d ≡ waiting_of c
    -- what the old array owes stays
    pub owed : owed_of d ≡ owed_of c
    -- no two keys are equal
    pub unique : IsUniqueBy eq key d

  module _ {X : Type 0} (hash : E → ℕ) where
    -- the first array is made, with the size of the minimum, or memory for it is refused
    pub record InstallsFirst (c : Contents E S) (result : Result (Unit {0}) X) (d : Contents E S) : Type 0 where
      -- nothing changes, or one resize is made
      pub rests : Rests c d
      -- the number of buckets changes only by the first array
      pub growth : Grows c d
      -- the note and the mark stay
      pub noted : notes_of d ≡ notes_of c
      -- on success, the array has the size of the minimum
      pub first : OnOk result (FirstArrayWhenDue c d)
      -- on success, there is an array
      pub array : OnOk result (0 < bucket_count d)
      -- there is no entry
      pub bare : entries d ≡ []
      -- no bucket waits
      pub waiting : waiting_of d ≡ []
      -- on failure, entries, buckets and settings stay
      pub refused : OnErr result (IsUnchanged c d)
      -- on success, the array is of a lawful size, and its overflow lists are empty
      pub resized : OnOk result (IsResized hash c d)
      -- on failure, all stays
      pub same : OnErr result (d ≡ c)
      -- no two keys are equal
      pub unique : IsUniqueBy eq key d

    -- if no bucket waits, a new array of `count` buckets is installed, and all of them wait; or memory is refused
    pub record InstallsFresh (count : ℕ) (c : Contents E S) (result : Result (Unit {0}) X) (d : Contents E S) : Type 0 where
      -- on success, each list has the entries that belong to it
      pub lists : OnOk result (IsRegrouped hash count c d)
      -- on success, the entries stay, in some order
      pub same : OnOk result (IsPermutation (entries c) (entries d))
      -- on success, every bucket waits
      pub waiting : OnOk result (waiting_of d ≡ replicate count true)
      -- on success, `count` buckets wait
      pub pending : OnOk result (pending_of d ≡ count)
      -- on success, no refused memory is noted
      pub down : OnOk result (IsNoteDown d)
      -- on failure, each list stays
      pub err : OnErr result (lists_of d ≡ lists_of c)
      -- the settings stay
      pub settings : settings_of d ≡ settings_of c
      -- on failure, the waiting buckets stay
      pub stays : OnErr result (waiting_of d ≡ waiting_of c)
      -- empty overflow lists stay empty
      pub bounded : IsBounded c → IsBounded d
      -- on failure, the refused memory is noted
      pub up : OnErr result (IsNoteUp d)
      -- no growth is marked
      pub unmarked : IsUnmarked d
      -- no two keys are equal
      pub unique : IsUniqueBy eq key d

    -- all waiting buckets are relocated, and a new array of `count` buckets is installed, and all of them wait; or
    -- memory is refused
    pub record ResizesArray (count : ℕ) (c : Contents E S) (result : Result (Unit {0}) X) (d : Contents E S) : Type 0 where
      -- on success, each list has the entries that belong to it
      pub lists : OnOk result (IsRegrouped hash count c d)
      -- on success, the entries stay, in some order
      pub same : OnOk result (IsPermutation (entries c) (entries d))
      -- on success, every bucket waits
      pub waiting : OnOk result (waiting_of d ≡ replicate count true)
      -- on success, `count` buckets wait
      pub pending : OnOk result (pending_of d ≡ count)
      -- on success, no refused memory is noted
      pub down : OnOk result (IsNoteDown d)
      -- on failure, entries, buckets and settings stay
      pub err : OnErr result (IsUnchanged c d)
      -- on failure, no bucket starts to wait
      pub fewer : OnErr result ((i : ℕ) → IsWaiting d i → IsWaiting c i)
      -- on failure, the number of waiting buckets doesn't rise
      pub less : OnErr result (pending_of d ≤ pending_of c)
      -- on failure, each list stays
      pub still : OnErr result (lists_of d ≡ lists_of c)
      -- the settings stay
      pub settings : settings_of d ≡ settings_of c
      -- empty overflow lists stay empty, if no waiting bucket holds more than 32 entries
      pub bounded : IsBounded c → AreShort c → IsBounded d
      -- on failure, the refused memory is noted
      pub up : OnErr result (IsNoteUp d)
      -- no growth is marked
      pub unmarked : IsUnmarked d
      -- no two keys are equal
      pub unique : IsUniqueBy eq key d

    -- a new array of `count` buckets is installed, bucket `bucket` is relocated, and all others wait; or memory is
    -- refused
    pub record InstallsRelocating (count bucket : ℕ) (c : Contents E S) (result : Result (Unit {0}) X) (d : Contents E S) : Type 0 where
      -- on success, each list has the entries that belong to it
      pub lists : OnOk result (IsRegrouped hash count c d)
      -- on success, the entries stay, in some order
      pub same : OnOk result (IsPermutation (entries c) (entries d))
      -- on success, every bucket but `bucket` waits
      pub waiting : OnOk result (waiting_of d ≡ cleared (replicate count true) bucket)
      -- on success, the note and the mark stay
      pub noted : OnOk result (notes_of d ≡ notes_of c)
      -- on failure, all stays
      pub err : OnErr result (d ≡ c)
      -- no two keys are equal
      pub unique : IsUniqueBy eq key d
