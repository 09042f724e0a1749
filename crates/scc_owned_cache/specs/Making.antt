-- What a newly made cache holds.
use Rattle.std.specs.Prelude.{◌≡◌, ℕ, ◌*◌, ◌<◌, false, [], max, Result, IsOk, IfOk}
use Rattle.scc_common.specs.Contents.{entries, bucket_count, settings_of, notes_of, waiting_of}
use Rattle.scc_common.specs.Sizes.{IsArraySize}
use Rattle.scc_owned_cache.specs.Caches.{Cached}

module _ {E S : Type 0} where
  -- an empty cache without an array, with the hasher `hasher`, no minimum and a maximum of 256 slots
  pub record IsNewCache (hasher : S) (c : Cached E S) : Type 0 where
    -- there is no pair
    pub entries : entries c.contents ≡ []
    -- there is no array
    pub buckets : bucket_count c.contents ≡ 0
    -- no bit of a hash is skipped, no slots were asked for, and none are reserved
    pub settings : settings_of c.contents ≡ record { hasher = hasher; skipped = 0; asked = 0; reserved = 0 }
    -- the maximum is 256 slots
    pub maximum : c.maximum ≡ 256
    -- no resize is noted as refused, and none is marked
    pub noted : notes_of c.contents ≡ (false, false)
    -- no bucket waits
    pub waiting : waiting_of c.contents ≡ []

  -- the contract of a call that makes an empty cache: h gives its hasher, `skipped` bits are skipped, `capacity` slots
  -- are asked for, and `most` is the maximum asked for
  pub record MakesEmptyCache {X : Type 0} (h : Cached E S → S) (skipped capacity most : ℕ) (result : Result (Cached E S) X) : Type 0 where
    -- there is no pair
    pub entries : IfOk result (λ c. entries c.contents ≡ [])
    -- there is no array if no slots were asked for
    pub none : IfOk result (λ c. capacity ≡ 0 → bucket_count c.contents ≡ 0)
    -- else the slots are the least power of two that is at least `capacity` and at least 64
    pub size : IfOk result (λ c. 0 < capacity → IsArraySize capacity (32 * bucket_count c.contents))
    -- these slots are the minimum, and none are reserved
    pub settings : IfOk result (λ c. settings_of c.contents ≡ record { hasher = h c; skipped = skipped; asked = 32 * bucket_count c.contents; reserved = 0 })
    -- the maximum is the greater of `most` and these slots, raised to a power of two, at least 64
    pub maximum : IfOk result (λ c. IsArraySize (max most (32 * bucket_count c.contents)) c.maximum)
    -- it succeeds if no slots were asked for
    pub succeeds : capacity ≡ 0 → IsOk result
    -- no resize is noted as refused, and none is marked
    pub noted : IfOk result (λ c. notes_of c.contents ≡ (false, false))
    -- no bucket waits
    pub waiting : IfOk result (λ c. waiting_of c.contents ≡ [])
