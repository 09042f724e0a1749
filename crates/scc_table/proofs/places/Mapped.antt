-- Places in contents whose entries are mapped by a function.
use Rattle.std.proofs.Common.{◌≡◌, ℕ, sym, ap, subst, ◌∙◌}
use Rattle.scc_common.specs.Contents.{Contents, owed_of, waiting_of}
use Rattle.scc_common.specs.Mapped.{mapped}
use Rattle.scc_buckets.specs.Places as places
use Rattle.scc_buckets.specs.declared.place.Place.{Place}
use Rattle.scc_buckets.proofs.Mapped as mapping
use Rattle.scc_table.specs.Places.{IsPlace, StandsAt, index_of, spot_in, spot_of}

module _ {E F S : Type 0} (f : E → F) where
  pub spot_of-mapped : (c : Contents E S) (p : Place) → spot_of (mapped f c) p ≡ spot_of c p
  unfolding mapped waiting_of owed_of
  spot_of-mapped c p = ap (λ n. spot_in c.waiting c.owed n p) (mapping.bucket_count-mapped f c)

  pub index_of-mapped : (c : Contents E S) (p : Place) → index_of (mapped f c) p ≡ index_of c p
  index_of-mapped c p = ap (places.index_of_spot (mapped f c)) (spot_of-mapped c p) ∙ mapping.index_of-mapped f c (spot_of c p)

  pub IsPlace-mapped : (c : Contents E S) (p : Place) → IsPlace c p → IsPlace (mapped f c) p
  IsPlace-mapped c p h = subst (λ s. places.IsSpot (mapped f c) s) (sym (spot_of-mapped c p)) (mapping.IsPlace-mapped f c (spot_of c p) h)

  pub IsPlace-from_mapped : (c : Contents E S) (p : Place) → IsPlace (mapped f c) p → IsPlace c p
  IsPlace-from_mapped c p h = mapping.IsPlace-from_mapped f c (spot_of c p) (subst (λ s. places.IsSpot (mapped f c) s) (spot_of-mapped c p) h)

  pub StandsAt-mapped : (c : Contents E S) (i : ℕ) (p : Place) → StandsAt c i p → StandsAt (mapped f c) i p
  StandsAt-mapped c i p h = record { within = IsPlace-mapped c p h.within; index = index_of-mapped c p ∙ h.index }
