-- What calls do to the buckets that wait for their pairs in an old array.
use Rattle.std.specs.Prelude.{◌≡◌, ◌≢◌, ℕ, ◌+◌, ◌<◌, ◌≤◌, false, [], drop, length, Result}
use Rattle.std.specs.List.{range_with_len}
use Rattle.std.specs.Result.{OnOk, OnErr}
use Rattle.scc_common.specs.Contents.{Contents, entries, bucket_count, list_of, lists_of, minimum_of, pending_of, notes_of, settings_of, waiting_of}
use Rattle.scc_common.specs.Routing.{bucket_number}
use Rattle.scc_common.specs.Sizes.{IsSmaller}
use Rattle.scc_buckets.specs.Bounded.{IsBounded}
use Rattle.scc_table.specs.Relocates.{AreMovedBeside, AreShort, IsMovedUpTo, left_after}
use Rattle.scc_table.specs.TwoArrays.{IsFirstWaiting, IsLoneWaiting, IsRelocated, IsSecondWaiting, IsWaiting, pending_targets, waits_at}

module _ {E S : Type 0} where
  -- what an insertion of a new key does, also if it fails: without a resize, no bucket starts to wait, and at most two
  -- stop; after a doubling, all buckets but at most two wait; of the first array none waits
  pub record Relocates (c d : Contents E S) : Type 0 where
    pub fewer : 0 < bucket_count c → bucket_count d ≡ bucket_count c → (i : ℕ) → IsWaiting d i → IsWaiting c i
    pub less : 0 < bucket_count c → bucket_count d ≡ bucket_count c → pending_of d ≤ pending_of c
    pub most : 0 < bucket_count c → bucket_count d ≡ bucket_count c → pending_of c ≤ pending_of d + 2
    pub grown : 0 < bucket_count c → bucket_count d ≢ bucket_count c → bucket_count d ≤ pending_of d + 2
    pub array : bucket_count c ≡ 0 → pending_of d ≡ 0

  -- what a successful insertion of a new key with the hash `hash` does: its bucket, if it waits, and then the first
  -- waiting buckets are relocated, two in all. One for which memory is refused counts and waits on; it holds more than
  -- 32 entries
  pub record RelocatesTwo (hash : ℕ) (c d : Contents E S) : Type 0 where
    -- the bucket of the key doesn't wait
    pub not_waiting : waits_at (waiting_of d) (bucket_number (settings_of c).skipped (bucket_count d) hash) ≡ false
    -- without a resize, if no waiting bucket holds more than 32 entries, the bucket of the key, if it waits, and then
    -- the first ones are relocated: exactly two, or all if fewer wait
    pub exact : 0 < bucket_count c → bucket_count d ≡ bucket_count c → AreShort c → pending_targets d ≡ left_after (bucket_number (settings_of c).skipped (bucket_count c) hash) (pending_targets c)
    -- without a resize, the bucket of the key, if it waits, and the first ones are relocated, two in all, unless memory
    -- is refused
    pub moved : 0 < bucket_count c → bucket_count d ≡ bucket_count c → AreMovedBeside (bucket_number (settings_of c).skipped (bucket_count c) hash) (pending_targets c) d
    -- after a doubling, the bucket of the key and the first other bucket are relocated, unless memory is refused
    pub drained : 0 < bucket_count c → bucket_count d ≢ bucket_count c → AreMovedBeside (bucket_number (settings_of c).skipped (bucket_count d) hash) (range_with_len 0 (bucket_count d)) d

  -- what a removal does, which relocates nothing: after a shrink, every bucket waits; without one, no bucket starts to
  -- wait; if no shrink is due, the waiting buckets stay
  pub record RelocatesNone (c d : Contents E S) : Type 0 where
    pub all : bucket_count d ≢ bucket_count c → pending_of d ≡ bucket_count d
    pub fewer : bucket_count d ≡ bucket_count c → (i : ℕ) → IsWaiting d i → IsWaiting c i
    pub less : bucket_count d ≡ bucket_count c → pending_of d ≤ pending_of c
    pub waiting : ((n : ℕ) → IsSmaller (minimum_of c) (length (entries d)) (bucket_count c) n → ⊥) → waiting_of d ≡ waiting_of c

  -- the first `count` buckets that waited are relocated; one for which memory is refused counts, and still waits
  pub record RelocatesUpTo (count : ℕ) (c d : Contents E S) : Type 0 where
    -- each list stays
    pub lists : lists_of d ≡ lists_of c
    -- the settings stay
    pub settings : settings_of d ≡ settings_of c
    -- the note and the mark stay
    pub noted : notes_of d ≡ notes_of c
    -- no bucket starts to wait
    pub fewer : (i : ℕ) → IsWaiting d i → IsWaiting c i
    -- the number of waiting buckets doesn't rise
    pub less : pending_of d ≤ pending_of c
    -- at most `count` buckets stop waiting
    pub most : pending_of c ≤ pending_of d + count
    -- the first `count` buckets are relocated, but those for which memory is refused
    pub moved : IsMovedUpTo count c d
    -- if no waiting bucket holds more than 32 entries, exactly the first `count` are relocated
    pub exact : AreShort c → pending_targets d ≡ drop count (pending_targets c)
    -- empty overflow lists stay empty, if no waiting bucket holds more than 32 entries
    pub bounded : IsBounded c → AreShort c → IsBounded d

  -- the second waiting bucket is relocated; if there is none, or memory for it is refused, nothing changes
  pub data TriesSecond (c d : Contents E S) : Type 0 where
    lone : (i : ℕ) → IsLoneWaiting c i → d ≡ c → TriesSecond c d
    kept : (i j : ℕ) → IsSecondWaiting c i j → 32 < length (list_of c j) → d ≡ c → TriesSecond c d
    moved : (i j : ℕ) → IsSecondWaiting c i j → IsRelocated j c d → TriesSecond c d

  -- all waiting buckets are relocated, or memory is refused for one, which still waits with those after it
  pub record RelocatesAll {X : Type 0} (c : Contents E S) (result : Result (Unit {0}) X) (d : Contents E S) : Type 0 where
    -- each list stays
    pub lists : lists_of d ≡ lists_of c
    -- the settings stay
    pub settings : settings_of d ≡ settings_of c
    -- the note and the mark stay
    pub noted : notes_of d ≡ notes_of c
    -- no bucket starts to wait
    pub fewer : (i : ℕ) → IsWaiting d i → IsWaiting c i
    -- the number of waiting buckets doesn't rise
    pub less : pending_of d ≤ pending_of c
    -- on success, no bucket waits
    pub ok : OnOk result (waiting_of d ≡ [])
    -- on failure, the first waiting bucket holds more than 32 entries
    pub refused : OnErr result ((i : ℕ) × (IsFirstWaiting d i) × (32 < length (list_of d i)))
    -- the relocated buckets are the first ones
    pub moved : (count : ℕ) × (pending_targets d ≡ drop count (pending_targets c))
    -- empty overflow lists stay empty, if no waiting bucket holds more than 32 entries
    pub bounded : IsBounded c → AreShort c → IsBounded d
