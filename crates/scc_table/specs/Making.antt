-- What a new container holds.
use Rattle.std.specs.Prelude.{◌≡◌, ℕ, ◌*◌, ◌<◌, false, [], Result, IsOk, IfOk}
use Rattle.scc_common.specs.Contents.{Contents, entries, bucket_count, settings_of, notes_of, waiting_of}
use Rattle.scc_common.specs.Sizes.{IsArraySize}

module _ {E S : Type 0} where
  -- c is an empty container without an array, with the hasher `hasher` and the minimum 0
  pub record IsNew (hasher : S) (c : Contents E S) : Type 0 where
    -- there is no entry
    pub entries : entries c ≡ []
    -- there is no array
    pub buckets : bucket_count c ≡ 0
    -- no bits of a hash are skipped, and no slots are asked for or reserved
    pub settings : settings_of c ≡ record { hasher = hasher; skipped = 0; asked = 0; reserved = 0 }
    -- no refused memory is noted, and no growth is marked
    pub noted : notes_of c ≡ (false, false)
    -- no bucket waits
    pub waiting : waiting_of c ≡ []

  -- an empty container c is made, with the hasher `h c`, which skips `skipped` bits of each hash, for `capacity` slots
  pub record MakesEmpty {X : Type 0} (h : Contents E S → S) (skipped capacity : ℕ) (result : Result (Contents E S) X) : Type 0 where
    -- there is no entry
    pub entries : IfOk result (λ c. entries c ≡ [])
    -- for a capacity of 0 there is no array
    pub none : IfOk result (λ c. capacity ≡ 0 → bucket_count c ≡ 0)
    -- otherwise the array has the size for `capacity`
    pub size : IfOk result (λ c. 0 < capacity → IsArraySize capacity (32 * bucket_count c))
    -- the slots of the array are asked for, and none are reserved
    pub settings : IfOk result (λ c. settings_of c ≡ record { hasher = h c; skipped = skipped; asked = 32 * bucket_count c; reserved = 0 })
    -- the call succeeds for a capacity of 0
    pub succeeds : capacity ≡ 0 → IsOk result
    -- no refused memory is noted, and no growth is marked
    pub noted : IfOk result (λ c. notes_of c ≡ (false, false))
    -- no bucket waits
    pub waiting : IfOk result (λ c. waiting_of c ≡ [])
