-- What a call changes of one list.
use Rattle.std.specs.Prelude.{◌≡◌, ℕ, ◌+◌, ◌<◌, ◌≤◌, List, length, slice_set, remove}
use Rattle.std.specs.List.{insert}
use Rattle.std.specs.List.Sorted.{IsPermutation}
use Rattle.scc_common.specs.Contents.{Contents, list_of, lists_of, settings_of, notes_of, overflow_of}
use Rattle.scc_buckets.specs.declared.place.Place.{Place}

module _ {E S : Type 0} where
  -- e stands at p in list i of d; the other entries, lists, the settings, the note and the mark are those of c
  pub record IsPutIn (c : Contents E S) (i : ℕ) (e : E) (d : Contents E S) (p : Place) : Type 0 where
    pub bucket : p.bucket ≡ i
    pub slot : p.slot ≤ length (list_of c i)
    pub lists : lists_of d ≡ slice_set (lists_of c) i (insert (list_of c i) p.slot e)
    pub settings : settings_of d ≡ settings_of c
    pub refused : notes_of d ≡ notes_of c
    pub spilled : overflow_of d ≤ overflow_of c + 1
    pub short : length (list_of c i) < 32 → overflow_of d ≤ overflow_of c

  -- the lists, the settings, the note and the mark are those of c, and no more entries stand in overflow lists
  pub record HasSameLists (c d : Contents E S) : Type 0 where
    pub lists : lists_of d ≡ lists_of c
    pub settings : settings_of d ≡ settings_of c
    pub refused : notes_of d ≡ notes_of c
    pub spilled : overflow_of d ≤ overflow_of c

  -- the entry at p is taken out of its list, whose others keep their order; the other lists, the settings, the note and
  -- the mark are those of c
  pub record IsTakenFrom (c : Contents E S) (p : Place) (d : Contents E S) : Type 0 where
    pub lists : lists_of d ≡ slice_set (lists_of c) p.bucket (remove (list_of c p.bucket) p.slot)
    pub settings : settings_of d ≡ settings_of c
    pub refused : notes_of d ≡ notes_of c
    pub spilled : overflow_of d ≤ overflow_of c

  -- the entry at p is taken out of its list, whose others are in some order; the other lists, the settings, the note
  -- and the mark are those of c
  pub record IsSwappedOutOf (c : Contents E S) (p : Place) (d : Contents E S) : Type 0 where
    pub left : List E
    pub moved : IsPermutation (remove (list_of c p.bucket) p.slot) left
    pub lists : lists_of d ≡ slice_set (lists_of c) p.bucket left
    pub settings : settings_of d ≡ settings_of c
    pub refused : notes_of d ≡ notes_of c
    pub spilled : overflow_of d ≤ overflow_of c
