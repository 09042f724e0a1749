-- Which entry stands at a place.
use Rattle.std.specs.Prelude.{◌≡◌, ℕ}
use Rattle.scc_common.specs.Contents.{Contents}
use Rattle.scc_buckets.specs.Places.{IsSpot, index_of_spot}
use Rattle.scc_buckets.specs.declared.place.Place.{Place}

-- an entry stands at p, and i entries stand before it
pub record StandsAtSpot {E S : Type 0} (c : Contents E S) (i : ℕ) (p : Place) : Type 0 where
  pub within : IsSpot c p
  pub index : index_of_spot c p ≡ i
