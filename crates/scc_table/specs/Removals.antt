-- What a removal does to a table of two arrays, one word a call.
use Rattle.std.specs.Prelude.{◌≡◌, ◌≢◌, ◌≤◌, ◌<◌, ℕ, Bool, Option, Some, None, length, suc, slice_get, remove, MatchOption}
use Rattle.std.specs.List.{position}
use Rattle.std.specs.List.Sorted.{IsPermutation}
use Rattle.scc_common.specs.Contents.{Contents, entries, bucket_count, list_of, minimum_of, owed_of, pending_of, notes_of, settings_of, waiting_of, IsUniqueBy}
use Rattle.scc_common.specs.Sizes.{IsSmaller}
use Rattle.scc_common.specs.Steps.{Holds, HoldsExactly, ShrinksWhenDue}
use Rattle.scc_buckets.specs.Bounded.{HasList, IsBounded}
use Rattle.scc_buckets.specs.OneList.{IsSwappedOutOf, IsTakenFrom}
use Rattle.scc_buckets.specs.declared.place.Place.{Place}
use Rattle.scc_table.specs.Places.{IsFoundAt, StandsAt, index_of, spot_of}
use Rattle.scc_table.specs.Takes.{owed_taken}
use Rattle.scc_table.specs.TwoArrays.{IsWaiting}

module _ {E K S : Type 0} (eq : K → K → Bool) (key : E → K) where
  -- the entry at p is taken out and returned, and the array may shrink
  pub record RemovesAt (c : Contents E S) (p : Place) (result : E) (d : Contents E S) : Type 0 where
    -- the result is the entry at p
    pub entry : slice_get (entries c) (index_of c p) ≡ Some result
    -- the others stay, in some order
    pub others : Holds c (remove (entries c) (index_of c p)) d
    -- the number of buckets changes only by a shrink
    pub smaller : bucket_count d ≢ bucket_count c → IsSmaller (minimum_of c) (length (entries d)) (bucket_count c) (bucket_count d)
    -- the array shrinks if a shrink is due, unless memory is refused
    pub due : ShrinksWhenDue c d
    -- after a shrink, every bucket waits
    pub all : bucket_count d ≢ bucket_count c → pending_of d ≡ bucket_count d
    -- without a shrink, no bucket starts to wait
    pub fewer : bucket_count d ≡ bucket_count c → (i : ℕ) → IsWaiting d i → IsWaiting c i
    -- without a shrink, the number of waiting buckets doesn't rise
    pub less : bucket_count d ≡ bucket_count c → pending_of d ≤ pending_of c
    -- if no shrink is due, the waiting buckets stay
    pub waiting : ((n : ℕ) → IsSmaller (minimum_of c) (length (entries d)) (bucket_count c) n → ⊥) → waiting_of d ≡ waiting_of c
    -- no two keys are equal
    pub unique : IsUniqueBy eq key d

  -- the entry at p is taken out and returned, and the others keep their order
  pub record TakesIn (c : Contents E S) (p : Place) (result : E) (d : Contents E S) : Type 0 where
    -- the result is the entry at p
    pub entry : slice_get (entries c) (index_of c p) ≡ Some result
    -- the others keep their order
    pub others : HoldsExactly c (remove (entries c) (index_of c p)) d
    -- the note and the mark stay
    pub noted : notes_of d ≡ notes_of c
    -- the waiting buckets stay
    pub waiting : waiting_of d ≡ waiting_of c
    -- the result stood in the list of its bucket
    pub listed : slice_get (list_of c (spot_of c p).bucket) (spot_of c p).slot ≡ Some result
    -- its key is missing in d
    pub gone : position (λ e. eq (key result) (key e)) (entries d) ≡ None
    -- a list of at most 32 entries has room afterwards
    pub short : length (list_of c (spot_of c p).bucket) ≤ 32 → length (list_of d (spot_of c p).bucket) < 32
    -- if the overflow lists of c are empty, the list of the bucket is the old one without the entry
    pub lists : IsBounded c → HasList c (spot_of c p).bucket (remove (list_of c (spot_of c p).bucket) (spot_of c p).slot) d
    -- what the old array owes loses the entry, if it stood there
    pub owed : owed_of d ≡ owed_taken (bucket_count c) (owed_of c) p
    -- the list of the bucket alone has lost the entry
    pub exact : IsTakenFrom c (spot_of c p) d
    -- no two keys are equal
    pub unique : IsUniqueBy eq key d

  -- as `TakesIn`, and the result has the place of the entry that stood after p
  pub record TakesWithNext (c : Contents E S) (p : Place) (result : E × Option Place) (d : Contents E S) : Type 0 where
    -- the result is the entry at p
    pub entry : slice_get (entries c) (index_of c p) ≡ Some result.0
    -- the others keep their order
    pub others : HoldsExactly c (remove (entries c) (index_of c p)) d
    -- the note and the mark stay
    pub noted : notes_of d ≡ notes_of c
    -- the waiting buckets stay
    pub waiting : waiting_of d ≡ waiting_of c
    -- as many entries stand before the returned place as stood before p; without a place, the entry at p was the last
    pub next : MatchOption result.1 (suc (index_of c p) ≡ length (entries c)) (StandsAt d (index_of c p))
    -- the result stood in the list of its bucket
    pub listed : slice_get (list_of c (spot_of c p).bucket) (spot_of c p).slot ≡ Some result.0
    -- if the overflow lists of c are empty, the list of the bucket is the old one without the entry
    pub lists : IsBounded c → HasList c (spot_of c p).bucket (remove (list_of c (spot_of c p).bucket) (spot_of c p).slot) d
    -- the list of the bucket alone has lost the entry
    pub exact : IsTakenFrom c (spot_of c p) d
    -- no two keys are equal
    pub unique : IsUniqueBy eq key d

  -- the entry at p is taken out and returned, and the last entry of the slots of its bucket, or of the overflow list,
  -- may take its slot
  pub record SwapTakesAt (c : Contents E S) (p : Place) (result : E) (d : Contents E S) : Type 0 where
    -- the result is the entry at p
    pub entry : slice_get (entries c) (index_of c p) ≡ Some result
    -- the others stay, in some order
    pub others : IsPermutation (remove (entries c) (index_of c p)) (entries d)
    -- the number of buckets stays
    pub buckets : bucket_count d ≡ bucket_count c
    -- the note and the mark stay
    pub noted : notes_of d ≡ notes_of c
    -- the settings stay
    pub settings : settings_of d ≡ settings_of c
    -- the waiting buckets stay
    pub waiting : waiting_of d ≡ waiting_of c
    -- what the old array owes loses the entry, if it stood there
    pub owed : owed_of d ≡ owed_taken (bucket_count c) (owed_of c) p
    -- the list of the bucket alone has lost the entry
    pub exact : IsSwappedOutOf c (spot_of c p) d
    -- no two keys are equal
    pub unique : IsUniqueBy eq key d

  module _ (p : E → Bool) (c d : Contents E S) where
    -- the first entry that passes p is taken out and returned, without a resize; if none passes, nothing changes
    abbrev pub SwapTakesFirst : Option E → Type 0
    SwapTakesFirst None = (position p (entries c) ≡ None) × (d ≡ c)
    SwapTakesFirst (Some x) = (q : Place) × IsFoundAt p c q × SwapTakesAt c q x d

    -- the first entry that passes p is taken out and returned, and the array may shrink; if none passes, nothing
    -- changes
    abbrev pub RemovesFirst : Option E → Type 0
    RemovesFirst None = (position p (entries c) ≡ None) × (d ≡ c)
    RemovesFirst (Some x) = (q : Place) × IsFoundAt p c q × RemovesAt c q x d
