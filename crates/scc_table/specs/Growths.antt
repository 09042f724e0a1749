-- What a growth does to a table of two arrays, one word a call.
use Rattle.std.specs.Prelude.{◌≡◌, ◌≢◌, ◌≤◌, ◌<◌, ◌+◌, ◌*◌, ◌⊎◌, ℕ, [], Bool, false, true, length, replicate, slice_get, Result, IfOk}
use Rattle.std.specs.List.{range_with_len}
use Rattle.std.specs.Result.{OnOk, OnErr}
use Rattle.scc_common.specs.Contents.{Contents, entries, bucket_count, list_of, lists_of, pending_of, notes_of, settings_of, waiting_of, HasRoomAt, IsUniqueBy, IsMarked}
use Rattle.scc_common.specs.Routing.{bucket_number}
use Rattle.scc_common.specs.Steps.{FirstArrayWhenDue, Grows, IsUnchanged, Rests, IsGrowthDue}
use Rattle.scc_buckets.specs.Pour.{IsRegrouped}
use Rattle.scc_buckets.specs.declared.place.Place.{Place}
use Rattle.scc_table.specs.Places.{IsInsertedAt}
use Rattle.scc_table.specs.Relocates.{left_after, AreMovedBeside, AreShortAmong, AreShortBut}
use Rattle.scc_table.specs.TwoArrays.{pending_targets, waits_at}

module _ {E K S : Type 0} (eq : K → K → Bool) (key : E → K) where
  module _ (hash_of : K → ℕ) where
    -- the array doubles if the table has at least half as many entries as slots and fewer slots than `most`, unless
    -- memory is refused
    pub record GrowsHalfFull (most : ℕ) (c d : Contents E S) : Type 0 where
      -- nothing changes, or one resize is made
      pub rests : Rests c d
      -- the number of buckets changes only by a doubling
      pub growth : Grows c d
      -- after a doubling, the note and the mark are down
      pub lowered : bucket_count d ≢ bucket_count c → notes_of d ≡ (false, false)
      -- if a doubling is due and isn't made, the note is up and no growth is marked
      pub denied : 32 * bucket_count c ≤ 2 * length (entries c) → 32 * bucket_count c < most → bucket_count d ≡ bucket_count c → notes_of d ≡ (true, false)
      -- without a doubling, each list stays
      pub stays : bucket_count d ≡ bucket_count c → lists_of d ≡ lists_of c
      -- without a doubling, the waiting buckets stay
      pub waiting : bucket_count d ≡ bucket_count c → waiting_of d ≡ waiting_of c
      -- after a doubling, every bucket waits
      pub all : bucket_count d ≢ bucket_count c → waiting_of d ≡ replicate (bucket_count d) true
      -- after a doubling, each list has the entries that belong to it
      pub lists : bucket_count d ≢ bucket_count c → IsRegrouped (λ e. hash_of (key e)) (bucket_count d) c d
      -- there is an array
      pub array : 0 < bucket_count d
      -- a growth that is marked isn't tried
      pub once : IsMarked c → bucket_count d ≡ bucket_count c
      -- if no doubling is due, the note and the mark stay
      pub noted : ((32 * bucket_count c ≤ 2 * length (entries c)) × (32 * bucket_count c < most) → ⊥) → notes_of d ≡ notes_of c
      -- a growth is marked only if it was, and the note stays then
      pub marked : IsMarked d → notes_of d ≡ notes_of c
      -- no two keys are equal
      pub unique : IsUniqueBy eq key d

    -- the array is made or grows as an insertion of a new key with the hash `hash` needs, for arrays of fewer slots than
    -- `most`, and the result is the bucket of `hash`
    pub record FindsBucketForNew {X : Type 0} (most : ℕ) (c : Contents E S) (hash : ℕ) (result : Result ℕ X) (d : Contents E S) : Type 0 where
      -- nothing changes, or one resize is made
      pub rests : Rests c d
      -- the number of buckets changes only by the first array or a doubling
      pub growth : Grows c d
      -- on success, the result is below the number of buckets
      pub within : IfOk result (λ i. i < bucket_count d)
      -- on success, the result is the bucket of `hash`
      pub routed : IfOk result (λ i. i ≡ bucket_number (settings_of d).skipped (bucket_count d) hash)
      -- if the bucket of `hash` has room, nothing changes
      pub still : HasRoomAt hash_of key c hash → d ≡ c
      -- after a doubling, the note and the mark are down
      pub lowered : 0 < bucket_count c → bucket_count d ≢ bucket_count c → notes_of d ≡ (false, false)
      -- if a doubling is due and isn't made, the note is up and no growth is marked
      pub denied : IsGrowthDue hash_of key c hash → 32 * bucket_count c < most → bucket_count d ≡ bucket_count c → notes_of d ≡ (true, false)
      -- on success, the first array has the size of the minimum
      pub first : OnOk result (FirstArrayWhenDue c d)
      -- if there was no array, there is no entry
      pub bare : bucket_count c ≡ 0 → entries d ≡ []
      -- if there was no array, no bucket waits
      pub not_waiting : bucket_count c ≡ 0 → waiting_of d ≡ []
      -- without a resize, each list stays
      pub stays : 0 < bucket_count c → bucket_count d ≡ bucket_count c → lists_of d ≡ lists_of c
      -- without a resize, the waiting buckets stay
      pub waiting : 0 < bucket_count c → bucket_count d ≡ bucket_count c → waiting_of d ≡ waiting_of c
      -- after a doubling, every bucket waits
      pub all : 0 < bucket_count c → bucket_count d ≢ bucket_count c → waiting_of d ≡ replicate (bucket_count d) true
      -- after a doubling, each list has the entries that belong to it
      pub lists : 0 < bucket_count c → bucket_count d ≢ bucket_count c → IsRegrouped (λ e. hash_of (key e)) (bucket_count d) c d
      -- if a bucket waits or a growth is marked, the array doesn't double
      pub once : 0 < bucket_count c → (0 < pending_of c) ⊎ IsMarked c → bucket_count d ≡ bucket_count c
      -- the call fails only if there is no array
      pub none : OnErr result (bucket_count c ≡ 0)
      -- on failure, entries, buckets and settings stay
      pub refused : OnErr result (IsUnchanged c d)
      -- on failure, all stays
      pub same : OnErr result (d ≡ c)
      -- if no growth is due, the note and the mark stay
      pub noted : (IsGrowthDue hash_of key c hash → 32 * bucket_count c < most → ⊥) → notes_of d ≡ notes_of c
      -- a growth is marked only if it was, and the note stays then
      pub marked : IsMarked d → notes_of d ≡ notes_of c
      -- no two keys are equal
      pub unique : IsUniqueBy eq key d

    -- if no bucket waits, the array doubles, unless memory is refused; the entry at `place`, whose key has the hash
    -- `hash`, stands at `result` afterwards
    pub record DoublesAround (c : Contents E S) (place : Place) (hash : ℕ) (result : Place) (d : Contents E S) : Type 0 where
      -- nothing changes, or one resize is made
      pub rests : Rests c d
      -- the number of buckets changes only by a doubling
      pub doubled : bucket_count d ≢ bucket_count c → bucket_count d ≡ 2 * bucket_count c
      -- after a doubling, the note and the mark are down
      pub lowered : bucket_count d ≢ bucket_count c → notes_of d ≡ (false, false)
      -- without a doubling, the note is up and no growth is marked
      pub denied : bucket_count d ≡ bucket_count c → notes_of d ≡ (true, false)
      -- the bucket of the result is below the number of buckets
      pub within : result.bucket < bucket_count d
      -- the entry of `place` stands at the result
      pub here : slice_get (list_of d result.bucket) result.slot ≡ slice_get (list_of c place.bucket) place.slot
      -- the bucket of the result is the bucket of `hash`
      pub routed : result.bucket ≡ bucket_number (settings_of c).skipped (bucket_count d) hash
      -- the bucket of the result doesn't wait
      pub not_waiting : waits_at (waiting_of d) result.bucket ≡ false
      -- without a doubling, no bucket waits
      pub none : bucket_count d ≡ bucket_count c → pending_of d ≡ 0
      -- after a doubling, all buckets but at most two wait
      pub most : bucket_count d ≢ bucket_count c → bucket_count d ≤ pending_of d + 2
      -- after a doubling, if no other bucket would hold more than 32 entries, exactly the bucket of the result and the
      -- first other bucket don't wait
      pub spread : bucket_count d ≢ bucket_count c → AreShortBut (λ e. hash_of (key e)) (bucket_count d) result.bucket c → pending_targets d ≡ left_after result.bucket (range_with_len 0 (bucket_count d))
      -- after a doubling, the bucket of the result and the first other bucket are relocated, unless memory is refused
      pub drained : bucket_count d ≢ bucket_count c → AreMovedBeside result.bucket (range_with_len 0 (bucket_count d)) d
      -- no two keys are equal
      pub unique : IsUniqueBy eq key d

    -- an array of `count` buckets is installed, and the new entry e, whose key has the hash `hash`, is inserted
    pub record InsertsGrown (c : Contents E S) (count hash : ℕ) (e : E) (result : Place) (d : Contents E S) : Type 0 where
      -- e is inserted, and the result is its place
      pub ok : IsInsertedAt c e d result
      -- there are `count` buckets
      pub buckets : bucket_count d ≡ count
      -- the note and the mark are down
      pub lowered : notes_of d ≡ (false, false)
      -- all buckets but at most two wait
      pub most : count ≤ pending_of d + 2
      -- if no bucket would hold more than 32 entries, exactly the bucket of the key and the first other bucket don't
      -- wait
      pub spread : AreShortAmong (λ f. hash_of (key f)) count c → pending_targets d ≡ left_after (bucket_number (settings_of c).skipped count hash) (range_with_len 0 count)
      -- the bucket of the key and the first other bucket are relocated, unless memory is refused
      pub drained : AreMovedBeside (bucket_number (settings_of c).skipped count hash) (range_with_len 0 count) d
      -- the bucket of the key doesn't wait
      pub not_waiting : waits_at (waiting_of d) (bucket_number (settings_of c).skipped count hash) ≡ false
      -- no two keys are equal
      pub unique : IsUniqueBy eq key d
