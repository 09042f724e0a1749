-- What the calls of a cache do to the buckets that wait for their pairs from an old array.
use Rattle.std.specs.Prelude.{◌≡◌, ◌≢◌, ◌==◌, ℕ, ◌+◌, ◌<◌, ◌≤◌, false, not}
use Rattle.std.specs.List.{filter, range_with_len}
use Rattle.scc_buckets.specs.Bounded.{MayShrinkWithin}
use Rattle.scc_common.specs.Contents.{Contents, bucket_count, pending_of, settings_of, waiting_of}
use Rattle.scc_common.specs.Routing.{bucket_number}
use Rattle.scc_table.specs.Relocates.{left_after}
use Rattle.scc_table.specs.TwoArrays.{pending_targets, waits_at}

module _ {E S : Type 0} where
  -- a new key of the hash was put in, and its bucket doesn't wait; if the number of buckets stays, the key's bucket
  -- and then the first ones wait no more, two in all, or all if fewer waited; if the array was doubled, all buckets
  -- but the key's and the first other one wait; if the array is the first, no bucket waits
  pub record RelocatesTwoWithin (hash : ℕ) (c d : Contents E S) : Type 0 where
    pub not_waiting : waits_at (waiting_of d) (bucket_number (settings_of c).skipped (bucket_count d) hash) ≡ false
    pub exact : 0 < bucket_count c → bucket_count d ≡ bucket_count c → pending_targets d ≡ left_after (bucket_number (settings_of c).skipped (bucket_count c) hash) (pending_targets c)
    pub grown : 0 < bucket_count c → bucket_count d ≢ bucket_count c → pending_of d + 2 ≡ bucket_count d
    pub spread : 0 < bucket_count c → bucket_count d ≢ bucket_count c → pending_targets d ≡ left_after (bucket_number (settings_of c).skipped (bucket_count d) hash) (range_with_len 0 (bucket_count d))
    pub first : bucket_count c ≡ 0 → pending_of d ≡ 0

  -- a key of the hash was found: its bucket doesn't wait, and the other buckets wait as before
  pub record RelocatesOne (hash : ℕ) (c d : Contents E S) : Type 0 where
    pub not_waiting : waits_at (waiting_of d) (bucket_number (settings_of c).skipped (bucket_count c) hash) ≡ false
    pub targets : pending_targets d ≡ filter (λ t. not (t == bucket_number (settings_of c).skipped (bucket_count c) hash)) (pending_targets c)

  -- a call that puts in no key: if the array shrank, all buckets wait; else the same buckets wait as before, unless a
  -- shrink was due and refused
  pub record RelocatesNoneWithin (hash : E → ℕ) (c d : Contents E S) : Type 0 where
    pub all : bucket_count d ≢ bucket_count c → pending_of d ≡ bucket_count d
    pub less : bucket_count d ≡ bucket_count c → pending_of d ≤ pending_of c
    pub waiting : bucket_count d ≡ bucket_count c → ((n : ℕ) → MayShrinkWithin hash d n → ⊥) → waiting_of d ≡ waiting_of c
