-- What a call may leave: the same contents, other entries, other buckets.
use Rattle.std.specs.Prelude.{◌≡◌, ◌≢◌, ℕ, ◌+◌, ◌-◌, ◌*◌, ◌^◌, ◌<◌, ◌≤◌, ◌⊎◌, List, false, true, length, max}
use Rattle.std.specs.List.Sorted.{IsPermutation}
use Rattle.scc_common.specs.Contents.{Contents, Settings, entries, bucket_count, settings_of, lists_of, minimum_of, pending_of, notes_of, waiting_of, HasRoomAt, HasRoomBy, IsMarked}
use Rattle.scc_common.specs.Sizes.{IsBucketCount, IsArraySize, IsSmaller}

module _ {E S : Type 0} where
  -- d has the entries es in their order, with the number of buckets and the settings of c
  pub record HoldsExactly (c : Contents E S) (es : List E) (d : Contents E S) : Type 0 where
    pub exact : entries d ≡ es
    pub buckets : bucket_count d ≡ bucket_count c
    pub settings : settings_of d ≡ settings_of c

  -- entries, number of buckets and settings of d are those of c; which buckets wait is free
  abbrev pub IsUnchanged : Contents E S → Contents E S → Type 0
  IsUnchanged c d = HoldsExactly c (entries c) d

  -- the number of buckets stays or is lawful, and doesn't fall below the minimum
  pub record KeepsSize (c d : Contents E S) : Type 0 where
    pub lawful : (bucket_count d ≡ bucket_count c) ⊎ IsBucketCount (bucket_count d)
    pub minimum : bucket_count d < bucket_count c → minimum_of c ≤ 32 * bucket_count d

  -- d has the entries es in some order, and the settings of c; one resize may have been made
  pub record Holds (c : Contents E S) (es : List E) (d : Contents E S) : Type 0 where
    pub same : IsPermutation es (entries d)
    pub size : KeepsSize c d
    pub settings : settings_of d ≡ settings_of c

  -- d is c, or c after a resize: it has the entries in some order, and a lawful number of buckets that doesn't fall
  -- below the minimum
  abbrev pub Resizes : Contents E S → Contents E S → Type 0
  Resizes c d = Holds c (entries c) d

  -- a failed call: nothing changes, or one resize to another number of buckets is made
  abbrev pub Rests : Contents E S → Contents E S → Type 0
  Rests c d = IsUnchanged c d ⊎ ((bucket_count d ≢ bucket_count c) × Resizes c d)

  -- if the number of buckets changes, either there was no array, and one of the size of the minimum is made; or the
  -- array doubles, no bucket waited, the table had at least half as many entries as slots, and the array wasn't the
  -- greatest
  pub record Grows (c d : Contents E S) : Type 0 where
    pub first : bucket_count c ≡ 0 → bucket_count d ≢ bucket_count c → IsArraySize (minimum_of c) (32 * bucket_count d)
    pub half : 0 < bucket_count c → bucket_count d ≢ bucket_count c → 32 * bucket_count c ≤ 2 * length (entries c)
    pub below : 0 < bucket_count c → bucket_count d ≢ bucket_count c → 32 * bucket_count c < 2 ^ 63
    pub doubled : 0 < bucket_count c → bucket_count d ≢ bucket_count c → bucket_count d ≡ 2 * bucket_count c
    pub not_waiting : 0 < bucket_count c → bucket_count d ≢ bucket_count c → pending_of c ≡ 0

  -- a shrink, which is due
  pub record IsShrunk (c d : Contents E S) : Type 0 where
    pub resizes : Resizes c d
    pub smaller : IsSmaller (minimum_of c) (length (entries c)) (bucket_count c) (bucket_count d)

  -- nothing changes, or the array shrinks
  abbrev pub Shrinks : Contents E S → Contents E S → Type 0
  Shrinks c d = IsUnchanged c d ⊎ IsShrunk c d

  -- d has the entries of c in some order, and the settings s; one resize may have been made, not below the minimum of s
  pub record HoldsWith (c : Contents E S) (s : Settings S) (d : Contents E S) : Type 0 where
    pub same : IsPermutation (entries c) (entries d)
    pub lawful : (bucket_count d ≡ bucket_count c) ⊎ IsBucketCount (bucket_count d)
    pub minimum : bucket_count d < bucket_count c → s.asked + s.reserved ≤ 32 * bucket_count d
    pub settings : settings_of d ≡ s

  -- n more slots are reserved, and an array may have grown to the new minimum
  pub record Reserves (n : ℕ) (c d : Contents E S) : Type 0 where
    pub holds : HoldsWith c (record (settings_of c) { reserved = (settings_of c).reserved + n }) d
    pub more : bucket_count c ≤ bucket_count d
    pub size : bucket_count d ≢ bucket_count c → (0 < bucket_count c) × IsArraySize (minimum_of d) (32 * bucket_count d)

  -- n fewer slots are reserved, and the array may have shrunk
  pub record Releases (n : ℕ) (c d : Contents E S) : Type 0 where
    pub holds : HoldsWith c (record (settings_of c) { reserved = (settings_of c).reserved - n }) d
    pub smaller : bucket_count d ≢ bucket_count c → IsSmaller (minimum_of d) (length (entries d)) (bucket_count c) (bucket_count d)

  -- if there was no array, the first array has the size of the minimum
  pub record FirstArrayWhenDue (c d : Contents E S) : Type 0 where
    pub made : bucket_count c ≡ 0 → IsArraySize (minimum_of c) (32 * bucket_count d)

  -- a growth is due for a new key with the hash h: no bucket waits, the bucket of h has no room, the table has at least
  -- half as many entries as slots, and the array isn't the greatest
  pub record IsGrowthDue {K : Type 0} (hash : K → ℕ) (key : E → K) (c : Contents E S) (h : ℕ) : Type 0 where
    pub array : 0 < bucket_count c
    pub not_waiting : pending_of c ≡ 0
    pub full : HasRoomAt hash key c h → ⊥
    pub half : 32 * bucket_count c ≤ 2 * length (entries c)
    pub below : 32 * bucket_count c < 2 ^ 63

  -- for a new key k, the array doubles if a growth is due, unless memory is refused. If none is due, note and mark stay;
  -- after a doubling both are down; if one is due and isn't made, the note is up and no growth is marked
  pub record GrowsWhenDue {K : Type 0} (hash : K → ℕ) (key : E → K) (c : Contents E S) (k : K) (d : Contents E S) : Type 0 where
    pub still : (IsGrowthDue hash key c (hash k) → ⊥) → notes_of d ≡ notes_of c
    pub grown : 0 < bucket_count c → bucket_count d ≢ bucket_count c → notes_of d ≡ (false, false)
    pub denied : IsGrowthDue hash key c (hash k) → bucket_count d ≡ bucket_count c → notes_of d ≡ (true, false)

  -- a shrink of the array of c is due for the minimum and the entries of d: the entries are at most an eighth of the
  -- slots, and m and n, the sizes for the minimum and for twice these entries, are both smaller than the array
  pub record IsShrinkDueFor (c d : Contents E S) (m n : ℕ) : Type 0 where
    pub least : IsArraySize (minimum_of d) m
    pub fitting : IsArraySize (2 * length (entries d)) n
    pub few : 8 * length (entries d) ≤ 32 * bucket_count c
    pub smaller : max m n < 32 * bucket_count c

  -- the array shrinks if a shrink is due, unless memory is refused. If none is due, note and mark stay; after a shrink
  -- both are down; if one is due and isn't made, the note is up and no growth is marked
  pub record ShrinksWhenDue (c d : Contents E S) : Type 0 where
    pub still : ((m n : ℕ) → IsShrinkDueFor c d m n → ⊥) → notes_of d ≡ notes_of c
    pub shrunk : bucket_count d ≢ bucket_count c → notes_of d ≡ (false, false)
    pub size : bucket_count d ≢ bucket_count c → (m n : ℕ) → IsArraySize (minimum_of d) m → IsArraySize (2 * length (entries d)) n → 32 * bucket_count d ≡ max m n
    pub denied : (m n : ℕ) → IsShrinkDueFor c d m n → bucket_count d ≡ bucket_count c → notes_of d ≡ (true, false)

  -- the array of c has fewer slots than m, the size for the minimum of d
  pub record IsBelowMinimumOf (c d : Contents E S) (m : ℕ) : Type 0 where
    pub least : IsArraySize (minimum_of d) m
    pub array : 0 < bucket_count c
    pub fewer : 32 * bucket_count c < m

  -- an array with fewer slots than the minimum of d grows to its size, unless memory is refused. If it has as many,
  -- note and mark stay; after a growth both are down; if it has fewer and doesn't grow, the note is up and no growth is
  -- marked
  pub record ReachesMinimumWhenDue (c d : Contents E S) : Type 0 where
    pub still : ((m : ℕ) → IsBelowMinimumOf c d m → ⊥) → notes_of d ≡ notes_of c
    pub grown : bucket_count d ≢ bucket_count c → notes_of d ≡ (false, false)
    pub size : bucket_count d ≢ bucket_count c → (m : ℕ) → IsArraySize (minimum_of d) m → 32 * bucket_count d ≡ m
    pub denied : (m : ℕ) → IsBelowMinimumOf c d m → bucket_count d ≡ bucket_count c → notes_of d ≡ (true, false)

  -- an insertion of a new key with the hash h is prepared: there is an array, and the bucket of h has room, some bucket
  -- waits, the table has fewer than half as many entries as slots, the array is the greatest, or the growth is marked
  abbrev pub IsPreparedAt : {K : Type 0} → (K → ℕ) → (E → K) → Contents E S → ℕ → Type 0
  IsPreparedAt hash key c h = (0 < bucket_count c) × (HasRoomAt hash key c h ⊎ ((0 < pending_of c) ⊎ ((2 * length (entries c) < 32 * bucket_count c) ⊎ ((2 ^ 63 ≤ 32 * bucket_count c) ⊎ IsMarked c))))

  -- an insertion of the new key k is prepared
  abbrev pub IsPreparedFor : {K : Type 0} → (K → ℕ) → (E → K) → Contents E S → K → Type 0
  IsPreparedFor hash key c k = IsPreparedAt hash key c (hash k)

  -- the call prepares an insertion of a new key with the hash h: nothing changes, or the first array is made, or the
  -- array doubles and all buckets wait
  pub record Prepares {K : Type 0} (hash : K → ℕ) (key : E → K) (c : Contents E S) (h : ℕ) (d : Contents E S) : Type 0 where
    pub rests : Rests c d
    pub growth : Grows c d
    pub made : IsPreparedAt hash key d h
    pub due : bucket_count d ≢ bucket_count c → HasRoomAt hash key c h → ⊥
    pub all : 0 < bucket_count c → bucket_count d ≢ bucket_count c → pending_of d ≡ bucket_count d
    pub first : bucket_count c ≡ 0 → pending_of d ≡ 0
    pub same : 0 < bucket_count c → bucket_count d ≡ bucket_count c → (lists_of d ≡ lists_of c) × (waiting_of d ≡ waiting_of c)

  -- what an insertion of a new key k may do to the number of buckets, and has to: nothing, if the bucket of k has room
  pub record GrowsForInsertion {K : Type 0} (hash : K → ℕ) (key : E → K) (c : Contents E S) (k : K) (d : Contents E S) : Type 0 where
    pub growth : Grows c d
    pub due : GrowsWhenDue hash key c k d
    pub kept : HasRoomBy hash key c k → bucket_count d ≡ bucket_count c
