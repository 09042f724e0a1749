-- What a table holds, and the words by which contracts see it.
use Rattle.std.specs.Prelude.{◌≡◌, ℕ, Some, ◌+◌, ◌<◌, ◌==◌, Bool, true, false, List, [], length, map, count_by, refl}
use Rattle.std.specs.Hash.{HashWrites}
use Rattle.std.specs.List.{flat_map, IsDistinct, slice_get, slice_index_or}
use Rattle.std.specs.Coded.{Coded, code_by, coded×, coded_ℕ, coded_bool, coded_list}
use Rattle.std.specs.declared.hash.Hasher as hasher
use Rattle.std.specs.declared.hash.BuildHasher as builder
use Rattle.scc_common.specs.Hashing.{hash_of}
use Rattle.scc_common.specs.Routing.{bucket_number}

-- the hasher, the number of skipped bits of a hash, the slots asked for and the slots reserved; only the last changes
-- after making
pub record Settings (S : Type 0) : Type 0 where
  pub hasher : S
  pub skipped : ℕ
  pub asked : ℕ
  pub reserved : ℕ

-- the list of each bucket, the settings, the note and the mark, and how many entries stand in overflow lists; then a
-- flag for each bucket, which says whether it waits, and for each old bucket the buckets that its entries belong to, in
-- order. The last two are empty if no bucket waits
pub record Contents (E S : Type 0) : Type 0 where
  pub lists : List (List E)
  pub settings : Settings S
  pub refused : Bool × Bool
  pub spilled : ℕ
  pub waiting : List Bool
  pub owed : List (List ℕ)

-- contents as the logic holds them
abbrev pub contents_code : {E S : Type 0} → Coded E → Coded S → Coded (Contents E S)
contents_code {E} {S} e s =
    code_by (List (List E) × (S × (ℕ × (ℕ × (ℕ × ((Bool × Bool) × (ℕ × (List Bool × List (List ℕ))))))))) (coded× (coded_list (coded_list e)) (coded× s (coded× coded_ℕ (coded× coded_ℕ (coded× coded_ℕ (coded× (coded× coded_bool coded_bool) (coded× coded_ℕ (coded× (coded_list coded_bool) (coded_list (coded_list coded_ℕ))))))))))
    (λ c. (c.lists, (c.settings.hasher, (c.settings.skipped, (c.settings.asked, (c.settings.reserved, (c.refused, (c.spilled, (c.waiting, c.owed)))))))))
    (λ p. record { lists = p.0; settings = record { hasher = p.1.0; skipped = p.1.1.0; asked = p.1.1.1.0; reserved = p.1.1.1.1.0 }; refused = p.1.1.1.1.1.0; spilled = p.1.1.1.1.1.1.0; waiting = p.1.1.1.1.1.1.1.0; owed = p.1.1.1.1.1.1.1.1 })
    (λ _. refl)

module _ {E S : Type 0} where
  -- all entries: the lists of the buckets, joined in the order of the buckets
  unfoldable pub entries : Contents E S → List E
  entries c = flat_map (λ l. l) c.lists

  -- the number of buckets of the array, 0 if there is none
  unfoldable pub bucket_count : Contents E S → ℕ
  bucket_count c = length c.lists

  -- the settings: the hasher, the skipped bits, the slots asked for and the slots reserved
  unfoldable pub settings_of : Contents E S → Settings S
  settings_of c = c.settings

  -- the note, which says that memory for the last resize that was due was refused, and the mark, which says that the
  -- next insertion doesn't try the growth
  unfoldable pub notes_of : Contents E S → Bool × Bool
  notes_of c = c.refused

  -- the note: memory for the last resize that was due was refused
  abbrev pub note_of : Contents E S → Bool
  note_of c = (notes_of c).0

  -- the mark: the next insertion doesn't try the growth
  abbrev pub mark_of : Contents E S → Bool
  mark_of c = (notes_of c).1

  -- c without its mark
  unfoldable pub without_mark : Contents E S → Contents E S
  without_mark c = record c { refused = (note_of c, false) }

  -- the note is up
  abbrev pub IsNoteUp : Contents E S → Type 0
  IsNoteUp c = (notes_of c).0 ≡ true

  -- the note is down
  abbrev pub IsNoteDown : Contents E S → Type 0
  IsNoteDown c = (notes_of c).0 ≡ false

  -- a growth is marked
  abbrev pub IsMarked : Contents E S → Type 0
  IsMarked c = (notes_of c).1 ≡ true

  -- no growth is marked
  abbrev pub IsUnmarked : Contents E S → Type 0
  IsUnmarked c = (notes_of c).1 ≡ false

  -- the entries of bucket i, in order
  unfoldable pub list_of : Contents E S → ℕ → List E
  list_of c i = slice_index_or c.lists i []

  -- the lists of all buckets, in the order of the buckets
  unfoldable pub lists_of : Contents E S → List (List E)
  lists_of c = c.lists

  -- how many entries stand in overflow lists
  unfoldable pub overflow_of : Contents E S → ℕ
  overflow_of c = c.spilled

  -- a flag for each bucket, which says whether it waits; empty if none waits
  unfoldable pub waiting_of : Contents E S → List Bool
  waiting_of c = c.waiting

  -- what the old array owes: for each old bucket the buckets that its entries belong to, in order; empty if there is no
  -- old array
  unfoldable pub owed_of : Contents E S → List (List ℕ)
  owed_of c = c.owed

  -- how many buckets wait
  unfoldable pub pending_of : Contents E S → ℕ
  pending_of c = count_by (λ w. w) c.waiting

  -- the minimum: the slots asked for at making, and the slots reserved
  abbrev pub minimum_of : Contents E S → ℕ
  minimum_of c = (settings_of c).asked + (settings_of c).reserved

  -- each entry stands in the list of the bucket of its hash
  pub record IsRouted (hash : E → ℕ) (c : Contents E S) : Type 0 where
    pub routed : (i j : ℕ) (e : E) → slice_get (list_of c i) j ≡ Some e → bucket_number (settings_of c).skipped (bucket_count c) (hash e) ≡ i

  -- no two entries have equal keys
  abbrev pub IsUniqueBy : {K : Type 0} → (K → K → Bool) → (E → K) → Contents E S → Type 0
  IsUniqueBy eq key c = IsDistinct eq (map key (entries c))

  module _ {T : Type 0} (build : builder.Ghosts S T) (feed : hasher.Ghosts T) {K : Type 0} (input : K → HashWrites) where
    -- the hash of k under the hasher of c
    abbrev pub key_hash : Contents E S → K → ℕ
    key_hash c k = hash_of build feed (settings_of c).hasher (input k)

  -- the hash of k under the hasher of c, by `hash`, which gives the hash of a key under a hasher
  abbrev pub hash_in : {K : Type 0} → (S → K → ℕ) → Contents E S → K → ℕ
  hash_in hash c k = hash (settings_of c).hasher k

  module _ {K : Type 0} (hash : K → ℕ) where
    -- the number of the bucket of k
    abbrev pub bucket_of : Contents E S → K → ℕ
    bucket_of c k = bucket_number (settings_of c).skipped (bucket_count c) (hash k)

    -- there is an array, and the bucket of the hash h holds fewer than 32 entries
    abbrev pub HasRoomAt : (E → K) → Contents E S → ℕ → Type 0
    HasRoomAt key c h = (0 < bucket_count c) × (count_by (λ e. bucket_of c (key e) == bucket_number (settings_of c).skipped (bucket_count c) h) (entries c) < 32)

    -- there is an array, and the bucket of k holds fewer than 32 entries
    abbrev pub HasRoomBy : (E → K) → Contents E S → K → Type 0
    HasRoomBy key c k = (0 < bucket_count c) × (count_by (λ e. bucket_of c (key e) == bucket_of c k) (entries c) < 32)
