-- Tables whose buckets hold at most 32 entries each, in the order of their lists, with empty overflow lists.
use Rattle.std.specs.Prelude.{◌≡◌, ℕ, Bool, ◌*◌, ◌<◌, ◌≤◌, List, [], ◌∷◌, ◌++◌, length, Option, None, Some}
use Rattle.std.specs.List.{slice_get, slice_set, position}
use Rattle.scc_common.specs.Contents.{Contents, entries, bucket_count, settings_of, minimum_of, notes_of, list_of, lists_of, overflow_of, IsMarked, IsNoteDown, IsNoteUp}
use Rattle.scc_buckets.specs.Places.{IsSpot}
use Rattle.scc_buckets.specs.Pour.{IsRegrouped, destined_for}
use Rattle.scc_common.specs.Routing.{bucket_number}
use Rattle.scc_common.specs.Sizes.{IsBucketCount, IsLawful, IsSmaller}
use Rattle.scc_buckets.specs.declared.place.Place.{Place}

module _ {E S : Type 0} where
  -- the overflow lists are empty
  abbrev pub IsBounded : Contents E S → Type 0
  IsBounded c = overflow_of c ≡ 0

  -- there is no array, or an array of a lawful size; no list has more than 32 entries, and each entry stands in the
  -- bucket of its hash
  pub record IsListed (hash : E → ℕ) (c : Contents E S) : Type 0 where
    pub lawful : IsLawful (bucket_count c)
    pub bounded : IsBounded c
    pub short : (i : ℕ) → length (list_of c i) ≤ 32
    pub routed : (i j : ℕ) (e : E) → slice_get (list_of c i) j ≡ Some e → bucket_number (settings_of c).skipped (bucket_count c) (hash e) ≡ i

  -- no entry of list i passes, and no entry of the container passes
  pub record IsUnlisted (passes : E → Bool) (c : Contents E S) (i : ℕ) : Type 0 where
    pub list : position passes (list_of c i) ≡ None
    pub all : position passes (entries c) ≡ None

  -- p is the place of the first entry of list i that passes
  pub record IsListedAtSpot (passes : E → Bool) (c : Contents E S) (i : ℕ) (p : Place) : Type 0 where
    pub within : IsSpot c p
    pub bucket : p.bucket ≡ i
    pub found : position passes (list_of c i) ≡ Some p.slot

  -- d has the lists, the settings and the number of entries in overflow lists of c; the note and the mark are free
  pub record HasListsOf (c d : Contents E S) : Type 0 where
    pub lists : lists_of d ≡ lists_of c
    pub settings : settings_of d ≡ settings_of c
    pub spilled : overflow_of d ≡ overflow_of c

  -- d is c with the list es in bucket i; the other lists, the settings, the note and the mark stay
  pub record HasList (c : Contents E S) (i : ℕ) (es : List E) (d : Contents E S) : Type 0 where
    pub lists : lists_of d ≡ slice_set (lists_of c) i es
    pub settings : settings_of d ≡ settings_of c
    pub refused : notes_of d ≡ notes_of c
    pub bounded : IsBounded d

  -- e is put at the end of list i; if the list held 32 entries, its first entry is taken out and returned
  abbrev pub PutsLast : Contents E S → ℕ → E → Option E → Contents E S → Type 0
  PutsLast c i e None d = (length (list_of c i) < 32) × HasList c i (list_of c i ++ e ∷ []) d
  PutsLast c i e (Some x) d = (32 ≤ length (list_of c i)) × ((rest : List E) × (list_of c i ≡ x ∷ rest) × HasList c i (rest ++ e ∷ []) d)

  -- d has an array of a lawful size with the entries of c: each list has the entries that belong to it, in the order
  -- that they had in c, and at most 32
  pub record IsResized (hash : E → ℕ) (c d : Contents E S) : Type 0 where
    pub array : IsBucketCount (bucket_count d)
    pub lists : IsRegrouped hash (bucket_count d) c d
    pub bounded : IsBounded d

  -- a shrink to n buckets is allowed: it is due by the number of entries, and no bucket would hold more than 32
  pub record MayShrinkWithin (hash : E → ℕ) (c : Contents E S) (n : ℕ) : Type 0 where
    pub array : IsBucketCount n
    pub smaller : IsSmaller (minimum_of c) (length (entries c)) (bucket_count c) n
    pub short : (i : ℕ) → i < n → length (destined_for hash (settings_of c).skipped n i (entries c)) ≤ 32

  -- the array shrinks if a shrink is allowed; if memory for it is refused, that is noted, and nothing else changes.
  -- The mark doesn't rise
  pub data ShrinksBounded (hash : E → ℕ) (c d : Contents E S) : Type 0 where
    stays_wide : ((n : ℕ) → MayShrinkWithin hash c n → ⊥) → d ≡ c → ShrinksBounded hash c d
    denied_narrow : (n : ℕ) → MayShrinkWithin hash c n → IsNoteUp d → (IsMarked d → IsMarked c) → HasListsOf c d → ShrinksBounded hash c d
    narrows : IsSmaller (minimum_of c) (length (entries c)) (bucket_count c) (bucket_count d) → minimum_of c ≤ 32 * bucket_count d → IsNoteDown d → (IsMarked d → IsMarked c) → IsResized hash c d → ShrinksBounded hash c d
