-- What a new memo holds.
use Rattle.std.specs.Prelude.{◌≡◌, ℕ, ◌*◌, ◌<◌, [], false, max, Result, IsOk, IfOk}
use Rattle.scc_common.specs.Contents.{entries, bucket_count, notes_of, settings_of, waiting_of}
use Rattle.scc_common.specs.Sizes.{IsArraySize}
use Rattle.scc_memo.specs.Memos.{Memoized}

module _ {P E S X : Type 0} where
  -- a call that makes a memo of the function f without values, with the hasher `hasher`, with `capacity` slots of its
  -- cache asked for and with the maximum `most`
  pub record MakesEmpty (f : P) (hasher : S) (capacity most : ℕ) (result : Result (Memoized P E S) X) : Type 0 where
    -- it is a memo of f
    pub function : IfOk result (λ m. m.function ≡ f)
    -- there is no value
    pub entries : IfOk result (λ m. entries m.cache.contents ≡ [])
    -- there is no array if no slots were asked for
    pub none : IfOk result (λ m. capacity ≡ 0 → bucket_count m.cache.contents ≡ 0)
    -- else the slots are the least power of two that is at least `capacity` and at least 64
    pub size : IfOk result (λ m. 0 < capacity → IsArraySize capacity (32 * bucket_count m.cache.contents))
    -- the slots of the array are the minimum, no bit of a hash is skipped, and no slots are reserved
    pub settings : IfOk result (λ m. settings_of m.cache.contents ≡ record { hasher = hasher; skipped = 0; asked = 32 * bucket_count m.cache.contents; reserved = 0 })
    -- the maximum is the greater of `most` and the slots of the array, rounded up to a power of two, at least 64
    pub maximum : IfOk result (λ m. IsArraySize (max most (32 * bucket_count m.cache.contents)) m.cache.maximum)
    -- it succeeds if no slots were asked for
    pub succeeds : capacity ≡ 0 → IsOk result
    -- no refused memory is noted, and no growth is marked
    pub noted : IfOk result (λ m. notes_of m.cache.contents ≡ (false, false))
    -- no bucket waits
    pub waiting : IfOk result (λ m. waiting_of m.cache.contents ≡ [])
