-- What a write to the entry of a key returns and leaves.
use Rattle.std.specs.Prelude.{◌≡◌, Bool, Option, None, Some, slice_get}
use Rattle.std.specs.List.{position}
use Rattle.scc_common.specs.Contents.{Contents, entries}
use Rattle.scc_buckets.specs.Places.{IsFoundAtSpot, index_of_spot}
use Rattle.scc_buckets.specs.Writes.{with_write_at_spot}
use Rattle.scc_buckets.specs.declared.place.Place.{Place}

module _ {E V R S : Type 0} (gives : E → R → V → Type 0) (put : E → V → E) (p : E → Bool) (c d : Contents E S) where
  -- the first entry that passes p is written to, as gives says; if no entry passes, nothing changes
  abbrev pub WritesFirstSpot : Option R → Type 0
  WritesFirstSpot None = (position p (entries c) ≡ None) × (d ≡ c)
  WritesFirstSpot (Some r) = (q : Place) × (e : E) × (w : V) × IsFoundAtSpot p c q × (slice_get (entries c) (index_of_spot c q) ≡ Some e) × gives e r w × (d ≡ with_write_at_spot put c q w)
