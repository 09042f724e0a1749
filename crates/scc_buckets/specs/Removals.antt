-- What a removal of the entry at a place does to buckets, one word a call.
use Rattle.std.specs.Prelude.{◌≡◌, ◌≤◌, ◌<◌, Bool, Some, None, length, slice_get, remove}
use Rattle.std.specs.List.{position}
use Rattle.std.specs.List.Sorted.{IsPermutation}
use Rattle.scc_common.specs.Contents.{Contents, entries, bucket_count, list_of, notes_of, settings_of, IsUniqueBy}
use Rattle.scc_common.specs.Steps.{HoldsExactly}
use Rattle.scc_buckets.specs.Bounded.{HasList, IsBounded}
use Rattle.scc_buckets.specs.OneList.{IsSwappedOutOf, IsTakenFrom}
use Rattle.scc_buckets.specs.Places.{index_of_spot}
use Rattle.scc_buckets.specs.declared.place.Place.{Place}

module _ {E K S : Type 0} (eq : K → K → Bool) (key : E → K) where
  -- the entry at p is taken out and returned, and the others keep their order
  pub record TakesAtSpot (c : Contents E S) (p : Place) (result : E) (d : Contents E S) : Type 0 where
    -- the result is the entry at p
    pub entry : slice_get (entries c) (index_of_spot c p) ≡ Some result
    -- as many entries stand before p in d as in c
    pub follows : index_of_spot d p ≡ index_of_spot c p
    -- the list of the bucket is still long enough that an entry inserted at p stands there
    pub list : p.slot ≤ length (list_of d p.bucket)
    -- the others keep their order
    pub others : HoldsExactly c (remove (entries c) (index_of_spot c p)) d
    -- the note and the mark stay
    pub noted : notes_of d ≡ notes_of c
    -- the result stood in the list of its bucket
    pub listed : slice_get (list_of c p.bucket) p.slot ≡ Some result
    -- its key is missing in d
    pub gone : position (λ e. eq (key result) (key e)) (entries d) ≡ None
    -- if the overflow lists of c are empty, the list of the bucket has room
    pub short : IsBounded c → length (list_of d p.bucket) < 32
    -- if the overflow lists of c are empty, the list of the bucket is the old one without the entry
    pub lists : IsBounded c → HasList c p.bucket (remove (list_of c p.bucket) p.slot) d
    -- the list of the bucket alone has lost the entry
    pub exact : IsTakenFrom c p d
    -- no two keys are equal
    pub unique : IsUniqueBy eq key d

  -- the entry at p is taken out and returned, and the last entry of the slots of its bucket, or of the overflow list,
  -- may take its slot
  pub record SwapsOutAtSpot (c : Contents E S) (p : Place) (result : E) (d : Contents E S) : Type 0 where
    -- the result is the entry at p
    pub entry : slice_get (entries c) (index_of_spot c p) ≡ Some result
    -- the others stay, in some order
    pub others : IsPermutation (remove (entries c) (index_of_spot c p)) (entries d)
    -- the list of the bucket alone has lost the entry
    pub exact : IsSwappedOutOf c p d
    -- the number of buckets stays
    pub buckets : bucket_count d ≡ bucket_count c
    -- the note and the mark stay
    pub noted : notes_of d ≡ notes_of c
    -- the settings stay
    pub settings : settings_of d ≡ settings_of c
    -- no two keys are equal
    pub unique : IsUniqueBy eq key d
