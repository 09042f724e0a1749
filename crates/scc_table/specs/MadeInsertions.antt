-- What an insertion of an entry that is made of its parts does to a table of two arrays, one word a call. A failure
-- hands the parts x back.
use Rattle.std.specs.Prelude.{◌≡◌, ◌≢◌, ◌≤◌, ◌<◌, ◌+◌, ◌-◌, ◌*◌, ◌^◌, ℕ, [], Bool, false, true, length, Result, IfOk, IfErr}
use Rattle.std.specs.List.{range_with_len}
use Rattle.std.specs.Result.{OnOk}
use Rattle.scc_common.specs.Contents.{Contents, entries, bucket_count, pending_of, notes_of, settings_of, waiting_of, HasRoomBy, IsUniqueBy, IsMarked}
use Rattle.scc_common.specs.Routing.{bucket_number}
use Rattle.scc_common.specs.Steps.{FirstArrayWhenDue, Grows, GrowsWhenDue, IsPreparedFor, IsUnchanged}
use Rattle.scc_buckets.specs.declared.place.Place.{Place}
use Rattle.scc_table.specs.Places.{IsInsertedAt}
use Rattle.scc_table.specs.Relocates.{left_after, AreMovedBeside, AreShort, AreShortAmong}
use Rattle.scc_table.specs.TwoArrays.{IsWaiting, pending_targets, waits_at}

module _ {E K S X : Type 0} (eq : K → K → Bool) (key : E → K) where
  -- the new entry e is inserted into the first array, which is made for it
  pub record InsertsMadeFirst (c : Contents E S) (e : E) (x : X) (result : Result Place X) (d : Contents E S) : Type 0 where
    -- on success, e is inserted, and the result is its place
    pub ok : IfOk result (IsInsertedAt c e d)
    -- on failure, x is handed back and nothing changes
    pub err : IfErr result (λ y. (y ≡ x) × IsUnchanged c d)
    -- the number of buckets changes only by the first array
    pub growth : Grows c d
    -- the note and the mark stay
    pub noted : notes_of d ≡ notes_of c
    -- on success, the array has the size of the minimum
    pub first : OnOk result (FirstArrayWhenDue c d)
    -- no bucket waits
    pub waiting : waiting_of d ≡ []
    -- no two keys are equal
    pub unique : IsUniqueBy eq key d

  -- the new entry e is inserted into bucket i of the current array, after memory for another array was refused
  pub record InsertsMadeNoted (c : Contents E S) (i : ℕ) (e : E) (x : X) (result : Result Place X) (d : Contents E S) : Type 0 where
    -- on success, e is inserted, and the result is its place
    pub ok : IfOk result (IsInsertedAt c e d)
    -- on failure, x is handed back and nothing changes
    pub err : IfErr result (λ y. (y ≡ x) × IsUnchanged c d)
    -- the number of buckets stays
    pub buckets : bucket_count d ≡ bucket_count c
    -- the refused memory is noted, and no growth is marked
    pub denied : notes_of d ≡ (true, false)
    -- no bucket starts to wait
    pub fewer : (j : ℕ) → IsWaiting d j → IsWaiting c j
    -- the number of waiting buckets doesn't rise
    pub less : pending_of d ≤ pending_of c
    -- on success, bucket i doesn't wait
    pub not_waiting : OnOk result (waits_at (waiting_of d) i ≡ false)
    -- no two keys are equal
    pub unique : IsUniqueBy eq key d

  module _ (hash_of : K → ℕ) where
    -- the new entry e, whose key has the hash `hash`, is inserted
    pub record InsertsMade (c : Contents E S) (hash : ℕ) (e : E) (x : X) (result : Result Place X) (d : Contents E S) : Type 0 where
      -- on success, e is inserted, and the result is its place
      pub ok : IfOk result (IsInsertedAt c e d)
      -- on failure, x is handed back and nothing changes
      pub err : IfErr result (λ y. (y ≡ x) × IsUnchanged c d)
      -- the number of buckets changes only by the first array or a doubling
      pub growth : Grows c d
      -- the array doubles if a growth is due, unless memory is refused; on failure, a due growth is noted
      pub due : GrowsWhenDue hash_of key c (key e) d
      -- on success, the first array has the size of the minimum
      pub first : OnOk result (FirstArrayWhenDue c d)
      -- if the bucket of the key has room, the number of buckets stays
      pub kept : HasRoomBy hash_of key c (key e) → bucket_count d ≡ bucket_count c
      -- if the insertion is prepared, the number of buckets stays
      pub once : IsPreparedFor hash_of key c (key e) → bucket_count d ≡ bucket_count c
      -- without a resize, no bucket starts to wait
      pub fewer : 0 < bucket_count c → bucket_count d ≡ bucket_count c → (i : ℕ) → IsWaiting d i → IsWaiting c i
      -- without a resize, the number of waiting buckets doesn't rise
      pub less : 0 < bucket_count c → bucket_count d ≡ bucket_count c → pending_of d ≤ pending_of c
      -- without a resize, at most two buckets stop waiting
      pub most : 0 < bucket_count c → bucket_count d ≡ bucket_count c → pending_of c ≤ pending_of d + 2
      -- after a doubling, all buckets but at most two wait
      pub grown : 0 < bucket_count c → bucket_count d ≢ bucket_count c → bucket_count d ≤ pending_of d + 2
      -- if there was no array, no bucket waits
      pub array : bucket_count c ≡ 0 → pending_of d ≡ 0
      -- on success, the bucket of the key doesn't wait
      pub not_waiting : OnOk result (waits_at (waiting_of d) (bucket_number (settings_of c).skipped (bucket_count d) hash) ≡ false)
      -- on success, without a resize, if no waiting bucket holds more than 32 entries, the bucket of the key, if it
      -- waits, and then the first ones are relocated: exactly two, or all if fewer wait
      pub exact : OnOk result (0 < bucket_count c → bucket_count d ≡ bucket_count c → AreShort c → pending_targets d ≡ left_after (bucket_number (settings_of c).skipped (bucket_count c) hash) (pending_targets c))
      -- on success, after a doubling, if no bucket would hold more than 32 entries, exactly the bucket of the key and
      -- the first other bucket don't wait
      pub spread : OnOk result (0 < bucket_count c → bucket_count d ≢ bucket_count c → AreShortAmong (λ f. hash_of (key f)) (bucket_count d) c → pending_targets d ≡ left_after (bucket_number (settings_of c).skipped (bucket_count d) hash) (range_with_len 0 (bucket_count d)))
      -- on success, after a doubling, if no bucket would hold more than 32 entries, all buckets but two wait
      pub all_but_two : OnOk result (0 < bucket_count c → bucket_count d ≢ bucket_count c → AreShortAmong (λ f. hash_of (key f)) (bucket_count d) c → pending_of d + 2 ≡ bucket_count d)
      -- on success, without a resize, if no waiting bucket holds more than 32 entries, the number of waiting buckets
      -- falls by two, or to 0
      pub by_two : OnOk result (0 < bucket_count c → bucket_count d ≡ bucket_count c → AreShort c → pending_of d ≡ pending_of c - 2)
      -- on success, without a resize, the bucket of the key, if it waits, and the first ones are relocated, two in all,
      -- unless memory is refused
      pub moved : OnOk result (0 < bucket_count c → bucket_count d ≡ bucket_count c → AreMovedBeside (bucket_number (settings_of c).skipped (bucket_count c) hash) (pending_targets c) d)
      -- on success, after a doubling, the bucket of the key and the first other bucket are relocated, unless memory is
      -- refused
      pub drained : OnOk result (0 < bucket_count c → bucket_count d ≢ bucket_count c → AreMovedBeside (bucket_number (settings_of c).skipped (bucket_count d) hash) (range_with_len 0 (bucket_count d)) d)
      -- no two keys are equal
      pub unique : IsUniqueBy eq key d

    -- as `InsertsMade`, if no bucket waits and the bucket of the key holds 32 entries or more
    pub record InsertsMadeFull (c : Contents E S) (hash : ℕ) (e : E) (x : X) (result : Result Place X) (d : Contents E S) : Type 0 where
      -- on success, e is inserted, and the result is its place
      pub ok : IfOk result (IsInsertedAt c e d)
      -- on failure, x is handed back and nothing changes
      pub err : IfErr result (λ y. (y ≡ x) × IsUnchanged c d)
      -- the number of buckets changes only by a doubling
      pub growth : Grows c d
      -- if no doubling is due, the note and the mark stay
      pub noted : ((32 * bucket_count c ≤ 2 * length (entries c)) × (32 * bucket_count c < 2 ^ 63) → ⊥) → notes_of d ≡ notes_of c
      -- after a doubling, the note and the mark are down
      pub lowered : bucket_count d ≢ bucket_count c → notes_of d ≡ (false, false)
      -- if a doubling is due and isn't made, the note is up and no growth is marked
      pub denied : 32 * bucket_count c ≤ 2 * length (entries c) → 32 * bucket_count c < 2 ^ 63 → bucket_count d ≡ bucket_count c → notes_of d ≡ (true, false)
      -- a growth that is marked isn't tried
      pub once : IsMarked c → bucket_count d ≡ bucket_count c
      -- without a doubling, no bucket starts to wait
      pub fewer : bucket_count d ≡ bucket_count c → (i : ℕ) → IsWaiting d i → IsWaiting c i
      -- without a doubling, the number of waiting buckets doesn't rise
      pub less : bucket_count d ≡ bucket_count c → pending_of d ≤ pending_of c
      -- after a doubling, all buckets but at most two wait
      pub grown : bucket_count d ≢ bucket_count c → bucket_count d ≤ pending_of d + 2
      -- on success, after a doubling, if no bucket would hold more than 32 entries, exactly the bucket of the key and
      -- the first other bucket don't wait
      pub spread : OnOk result (bucket_count d ≢ bucket_count c → AreShortAmong (λ f. hash_of (key f)) (bucket_count d) c → pending_targets d ≡ left_after (bucket_number (settings_of c).skipped (bucket_count d) hash) (range_with_len 0 (bucket_count d)))
      -- on success, after a doubling, the bucket of the key and the first other bucket are relocated, unless memory is
      -- refused
      pub drained : OnOk result (bucket_count d ≢ bucket_count c → AreMovedBeside (bucket_number (settings_of c).skipped (bucket_count d) hash) (range_with_len 0 (bucket_count d)) d)
      -- on success, the bucket of the key doesn't wait
      pub not_waiting : OnOk result (waits_at (waiting_of d) (bucket_number (settings_of c).skipped (bucket_count d) hash) ≡ false)
      -- no two keys are equal
      pub unique : IsUniqueBy eq key d

    -- as `InsertsMadeFull`, and an array of `count` buckets is installed before e is inserted
    pub record InsertsMadeGrown (c : Contents E S) (count hash : ℕ) (e : E) (x : X) (result : Result Place X) (d : Contents E S) : Type 0 where
      -- on success, e is inserted, and the result is its place
      pub ok : IfOk result (IsInsertedAt c e d)
      -- on success, there are `count` buckets
      pub buckets : OnOk result (bucket_count d ≡ count)
      -- the number of buckets changes only to `count`
      pub doubled : bucket_count d ≢ bucket_count c → bucket_count d ≡ count
      -- without a resize, the waiting buckets stay
      pub same : bucket_count d ≡ bucket_count c → waiting_of d ≡ waiting_of c
      -- after a resize, all buckets but at most two wait
      pub grown : bucket_count d ≢ bucket_count c → count ≤ pending_of d + 2
      -- after a resize, the note and the mark are down
      pub lowered : bucket_count d ≢ bucket_count c → notes_of d ≡ (false, false)
      -- without a resize, the note is up and no growth is marked
      pub denied : bucket_count d ≡ bucket_count c → notes_of d ≡ (true, false)
      -- on success, all buckets but at most two wait
      pub most : OnOk result (count ≤ pending_of d + 2)
      -- on success, if no bucket would hold more than 32 entries, exactly the bucket of the key and the first other
      -- bucket don't wait
      pub spread : OnOk result (AreShortAmong (λ f. hash_of (key f)) count c → pending_targets d ≡ left_after (bucket_number (settings_of c).skipped count hash) (range_with_len 0 count))
      -- on success, the bucket of the key and the first other bucket are relocated, unless memory is refused
      pub drained : OnOk result (AreMovedBeside (bucket_number (settings_of c).skipped count hash) (range_with_len 0 count) d)
      -- on success, the bucket of the key doesn't wait
      pub not_waiting : OnOk result (waits_at (waiting_of d) (bucket_number (settings_of c).skipped count hash) ≡ false)
      -- on failure, x is handed back and nothing changes
      pub err : IfErr result (λ y. (y ≡ x) × IsUnchanged c d)
      -- no two keys are equal
      pub unique : IsUniqueBy eq key d

    -- as `InsertsMadeFull`, and an array of twice as many buckets is installed after e is inserted
    pub record InsertsMadeCrowded (c : Contents E S) (hash : ℕ) (e : E) (x : X) (result : Result Place X) (d : Contents E S) : Type 0 where
      -- on success, e is inserted, and the result is its place
      pub ok : IfOk result (IsInsertedAt c e d)
      -- on failure, x is handed back and nothing changes
      pub err : IfErr result (λ y. (y ≡ x) × IsUnchanged c d)
      -- the number of buckets changes only by a doubling
      pub doubled : bucket_count d ≢ bucket_count c → bucket_count d ≡ 2 * bucket_count c
      -- after a doubling, the note and the mark are down
      pub lowered : bucket_count d ≢ bucket_count c → notes_of d ≡ (false, false)
      -- without a doubling, the note is up and no growth is marked
      pub denied : bucket_count d ≡ bucket_count c → notes_of d ≡ (true, false)
      -- without a doubling, no bucket waits
      pub none : bucket_count d ≡ bucket_count c → pending_of d ≡ 0
      -- after a doubling, all buckets but at most two wait
      pub most : bucket_count d ≢ bucket_count c → bucket_count d ≤ pending_of d + 2
      -- on success, after a doubling, if no bucket would hold more than 32 entries, exactly the bucket of the key and
      -- the first other bucket don't wait
      pub spread : OnOk result (bucket_count d ≢ bucket_count c → AreShortAmong (λ f. hash_of (key f)) (bucket_count d) c → pending_targets d ≡ left_after (bucket_number (settings_of c).skipped (bucket_count d) hash) (range_with_len 0 (bucket_count d)))
      -- on success, after a doubling, the bucket of the key and the first other bucket are relocated, unless memory is
      -- refused
      pub drained : OnOk result (bucket_count d ≢ bucket_count c → AreMovedBeside (bucket_number (settings_of c).skipped (bucket_count d) hash) (range_with_len 0 (bucket_count d)) d)
      -- on success, the bucket of the key doesn't wait
      pub not_waiting : OnOk result (waits_at (waiting_of d) (bucket_number (settings_of c).skipped (bucket_count d) hash) ≡ false)
      -- no two keys are equal
      pub unique : IsUniqueBy eq key d
