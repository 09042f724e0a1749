-- What an insertion of a new key does to a table of two arrays, one word a call.
use Rattle.std.specs.Prelude.{◌≡◌, ◌≢◌, ◌==◌, ◌≤◌, ◌<◌, ◌+◌, ◌-◌, ℕ, Bool, false, List, drop, length, not, Result, IfOk, IfErr}
use Rattle.std.specs.List.{filter, range_with_len}
use Rattle.std.specs.Result.{OnOk, OnErr}
use Rattle.scc_common.specs.Contents.{Contents, bucket_count, pending_of, notes_of, settings_of, waiting_of, HasRoomBy, IsUniqueBy}
use Rattle.scc_common.specs.Routing.{bucket_number}
use Rattle.scc_common.specs.Steps.{FirstArrayWhenDue, Grows, GrowsWhenDue, IsPreparedFor, IsUnchanged, Rests}
use Rattle.scc_buckets.specs.declared.place.Place.{Place}
use Rattle.scc_table.specs.Places.{IsInsertedAt}
use Rattle.scc_table.specs.Relocates.{left_after, AreMovedBeside, AreMovedFrom, AreShort, AreShortAmong}
use Rattle.scc_table.specs.TwoArrays.{IsWaiting, pending_targets, waits_at}

module _ {E K S : Type 0} (eq : K → K → Bool) (key : E → K) where
  -- the new entry e is inserted into bucket i, and then the first n buckets of ts are relocated; in all, at most `all`
  -- buckets are. On failure, which needs `cause`, x is handed back
  pub record InsertsThenRelocates {X : Type 0} (c : Contents E S) (i : ℕ) (e : E) (x : X) (ts : List ℕ) (n all : ℕ) (cause : Type 0) (result : Result Place X) (d : Contents E S) : Type 0 where
    -- on success, e is inserted, and the result is its place
    pub ok : IfOk result (IsInsertedAt c e d)
    -- on failure, x is handed back and nothing changes
    pub err : IfErr result (λ y. (y ≡ x) × IsUnchanged c d)
    -- the call fails only if `cause` holds
    pub full : OnErr result cause
    -- the number of buckets stays
    pub buckets : bucket_count d ≡ bucket_count c
    -- the note and the mark stay
    pub refused : notes_of d ≡ notes_of c
    -- no bucket starts to wait
    pub fewer : (j : ℕ) → IsWaiting d j → IsWaiting c j
    -- the number of waiting buckets doesn't rise
    pub less : pending_of d ≤ pending_of c
    -- at most `all` buckets stop waiting
    pub most : pending_of c ≤ pending_of d + all
    -- on success, bucket i doesn't wait
    pub not_waiting : OnOk result (waits_at (waiting_of d) i ≡ false)
    -- on success, the first n buckets of ts are relocated, unless memory is refused
    pub moved : OnOk result (AreMovedFrom ts n d)
    -- on success, if no waiting bucket holds more than 32 entries, exactly the first n of ts don't wait
    pub exact : OnOk result (AreShort c → pending_targets d ≡ drop n ts)
    -- no two keys are equal
    pub unique : IsUniqueBy eq key d

  -- the new entry e is inserted into bucket i, and two waiting buckets are relocated in all: bucket i before the
  -- insertion, if it waits, and the first ones after it
  abbrev pub InsertsAndRelocates : {X : Type 0} → Contents E S → ℕ → E → X → Type 0 → Result Place X → Contents E S → Type 0
  InsertsAndRelocates c i e x cause result d = InsertsThenRelocates c i e x (filter (λ t. not (t == i)) (pending_targets c)) (length (filter (λ t. not (t == i)) (pending_targets c)) + 2 - length (pending_targets c)) 2 cause result d

  -- the new entry e, whose key has the hash `hash`, is inserted
  pub record InsertsNew (hash_of : K → ℕ) (c : Contents E S) (hash : ℕ) (e : E) (result : Result Place E) (d : Contents E S) : Type 0 where
    -- on success, e is inserted, and the result is its place
    pub ok : IfOk result (IsInsertedAt c e d)
    -- on failure, e is handed back, and nothing changes, or one resize is made
    pub err : IfErr result (λ f. (f ≡ e) × Rests c d)
    -- the call fails only if the bucket of the key has no room
    pub full : OnErr result (HasRoomBy hash_of key c (key e) → ⊥)
    -- the number of buckets changes only by the first array or a doubling
    pub growth : Grows c d
    -- the array doubles if a growth is due, unless memory is refused
    pub due : GrowsWhenDue hash_of key c (key e) d
    -- on success, the first array has the size of the minimum
    pub first : OnOk result (FirstArrayWhenDue c d)
    -- on failure, if there was no array, nothing changes
    pub none : OnErr result (bucket_count c ≡ 0 → IsUnchanged c d)
    -- if the bucket of the key has room, the number of buckets stays
    pub kept : HasRoomBy hash_of key c (key e) → bucket_count d ≡ bucket_count c
    -- if the insertion is prepared, the number of buckets stays
    pub once : IsPreparedFor hash_of key c (key e) → bucket_count d ≡ bucket_count c
    -- without a resize, no bucket starts to wait
    pub fewer : 0 < bucket_count c → bucket_count d ≡ bucket_count c → (i : ℕ) → IsWaiting d i → IsWaiting c i
    -- without a resize, the number of waiting buckets doesn't rise
    pub less : 0 < bucket_count c → bucket_count d ≡ bucket_count c → pending_of d ≤ pending_of c
    -- without a resize, at most two buckets stop waiting
    pub most : 0 < bucket_count c → bucket_count d ≡ bucket_count c → pending_of c ≤ pending_of d + 2
    -- after a doubling, all buckets but at most two wait
    pub grown : 0 < bucket_count c → bucket_count d ≢ bucket_count c → bucket_count d ≤ pending_of d + 2
    -- if there was no array, no bucket waits
    pub array : bucket_count c ≡ 0 → pending_of d ≡ 0
    -- on success, the bucket of the key doesn't wait
    pub not_waiting : OnOk result (waits_at (waiting_of d) (bucket_number (settings_of c).skipped (bucket_count d) hash) ≡ false)
    -- on success, without a resize, if no waiting bucket holds more than 32 entries, the bucket of the key, if it
    -- waits, and then the first ones are relocated: exactly two, or all if fewer wait
    pub exact : OnOk result (0 < bucket_count c → bucket_count d ≡ bucket_count c → AreShort c → pending_targets d ≡ left_after (bucket_number (settings_of c).skipped (bucket_count c) hash) (pending_targets c))
    -- on success, after a doubling, if no bucket would hold more than 32 entries, exactly the bucket of the key and the
    -- first other bucket don't wait
    pub spread : OnOk result (0 < bucket_count c → bucket_count d ≢ bucket_count c → AreShortAmong (λ f. hash_of (key f)) (bucket_count d) c → pending_targets d ≡ left_after (bucket_number (settings_of c).skipped (bucket_count d) hash) (range_with_len 0 (bucket_count d)))
    -- on success, after a doubling, if no bucket would hold more than 32 entries, all buckets but two wait
    pub all_but_two : OnOk result (0 < bucket_count c → bucket_count d ≢ bucket_count c → AreShortAmong (λ f. hash_of (key f)) (bucket_count d) c → pending_of d + 2 ≡ bucket_count d)
    -- on success, without a resize, if no waiting bucket holds more than 32 entries, the number of waiting buckets
    -- falls by two, or to 0
    pub by_two : OnOk result (0 < bucket_count c → bucket_count d ≡ bucket_count c → AreShort c → pending_of d ≡ pending_of c - 2)
    -- on success, without a resize, the bucket of the key, if it waits, and the first ones are relocated, two in all,
    -- unless memory is refused
    pub moved : OnOk result (0 < bucket_count c → bucket_count d ≡ bucket_count c → AreMovedBeside (bucket_number (settings_of c).skipped (bucket_count c) hash) (pending_targets c) d)
    -- on success, after a doubling, the bucket of the key and the first other bucket are relocated, unless memory is
    -- refused
    pub drained : OnOk result (0 < bucket_count c → bucket_count d ≢ bucket_count c → AreMovedBeside (bucket_number (settings_of c).skipped (bucket_count d) hash) (range_with_len 0 (bucket_count d)) d)
    -- no two keys are equal
    pub unique : IsUniqueBy eq key d
