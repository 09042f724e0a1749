-- The entry at a place of two arrays, the entries before and after it, and what a change at the place leaves. A place
-- stands for its spot, and the words of `scc_buckets` speak of spots.
use Rattle.std.specs.Prelude.{◌≡◌, List}
use Rattle.std.proofs.Common.{sym, ap, subst, length-set}
use Rattle.scc_common.specs.Contents.{Contents, bucket_count, waiting_of, owed_of}
use Rattle.scc_buckets.specs.Placed as spots
use Rattle.scc_buckets.specs.Places as places
use Rattle.scc_buckets.specs.Writes as writes
use Rattle.scc_buckets.specs.declared.place.Place.{Place}
use Rattle.scc_table.specs.Places.{IsPlace, spot_in, spot_of, with_write_at}

module _ {E S : Type 0} where
  -- the entry at p
  abbrev pub entry_of : (c : Contents E S) (p : Place) → IsPlace c p → E
  entry_of c p h = spots.entry_of_spot c (spot_of c p) h

  -- the entries before p
  abbrev pub front_of : Contents E S → Place → List E
  front_of c p = spots.front_of_spot c (spot_of c p)

  -- the entries after p
  abbrev pub back_of : Contents E S → Place → List E
  back_of c p = spots.back_of_spot c (spot_of c p)

  -- the entries are those before p, the entry at p, and those after p
  abbrev pub SplitsAt : (c : Contents E S) (p : Place) → IsPlace c p → Type 0
  SplitsAt c p h = spots.SplitsAtSpot c (spot_of c p) h

  -- d is c with e instead of the entry at p, and e stands at q; the note and the mark stay
  abbrev pub IsWrittenAt : (c : Contents E S) (p : Place) (e : E) (d : Contents E S) (q : Place) → IsPlace d q → Type 0
  IsWrittenAt c p e d q j = spots.IsWrittenAtSpot c (spot_of c p) e d (spot_of d q) j

  -- e is inserted, and stands at q
  abbrev pub IsPutAt : (c : Contents E S) (e : E) (d : Contents E S) (q : Place) → IsPlace d q → Type 0
  IsPutAt c e d q j = spots.IsPutAtSpot c e d (spot_of d q) j

  -- d is c, and q is the place after p
  abbrev pub IsNextAt : (c : Contents E S) (p : Place) → IsPlace c p → (d : Contents E S) (q : Place) → IsPlace d q → Type 0
  IsNextAt c p h d q j = spots.IsNextSpot c (spot_of c p) h d (spot_of d q) j

  -- d is c without the entry at p, the others in their order, and q is the place of the entry that stood after p; the
  -- note and the mark stay
  abbrev pub IsNextPastRemovedAt : (c : Contents E S) (p : Place) (d : Contents E S) (q : Place) → IsPlace d q → Type 0
  IsNextPastRemovedAt c p d q j = spots.IsNextSpotPastRemoved c (spot_of c p) d (spot_of d q) j

module _ {E S X : Type 0} (put : E → X → E) (c : Contents E S) where
  -- a write at a spot keeps the spot of every place
  pub spot-with_write_at : (s : Place) (w : X) (p : Place) → spot_of (writes.with_write_at_spot put c s w) p ≡ spot_of c p
  unfolding writes.with_write_at_spot waiting_of owed_of bucket_count
  spot-with_write_at s w p = ap (λ n. spot_in c.waiting c.owed n p) (length-set c.lists s.bucket _)

  -- a write keeps every place valid
  pub IsPlace-with_write_at : (p : Place) (w : X) → IsPlace c p → IsPlace (with_write_at put c p w) p
  IsPlace-with_write_at p w h = subst (λ s. places.IsSpot (with_write_at put c p w) s) (sym (spot-with_write_at (spot_of c p) w p)) (writes.IsPlace-with_write_at put c (spot_of c p) w h)
