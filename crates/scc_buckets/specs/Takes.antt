-- What a removal of the entry of a key returns and leaves.
use Rattle.std.specs.Prelude.{◌≡◌, Bool, Option, None, Some, slice_get}
use Rattle.std.specs.List.{position}
use Rattle.scc_common.specs.Contents.{Contents, entries}
use Rattle.scc_buckets.specs.OneList.{IsSwappedOutOf}
use Rattle.scc_buckets.specs.Places.{IsFoundAtSpot, index_of_spot}
use Rattle.scc_buckets.specs.declared.place.Place.{Place}

module _ {E S : Type 0} (p : E → Bool) (c d : Contents E S) where
  -- the first entry that passes p is taken out and returned; if none passes, nothing changes
  abbrev pub TakesFirstSpot : Option E → Type 0
  TakesFirstSpot None = (position p (entries c) ≡ None) × (d ≡ c)
  TakesFirstSpot (Some x) = (q : Place) × IsFoundAtSpot p c q × (slice_get (entries c) (index_of_spot c q) ≡ Some x) × IsSwappedOutOf c q d
