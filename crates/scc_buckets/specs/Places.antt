-- The place of an entry.
use Rattle.std.specs.Prelude.{◌≡◌, ℕ, ◌+◌, ◌<◌, Bool, ◌∷◌, length, take, Some, slice_get}
use Rattle.std.specs.List.{flat_map, position}
use Rattle.scc_common.specs.Contents.{Contents, entries, bucket_count, list_of}
use Rattle.scc_common.specs.Steps.{Holds}
use Rattle.scc_buckets.specs.declared.place.Place.{Place}

module _ {E S : Type 0} where
  -- an entry stands at p
  pub record IsSpot (c : Contents E S) (p : Place) : Type 0 where
    pub bucket : p.bucket < bucket_count c
    pub slot : p.slot < length (list_of c p.bucket)

  -- how many entries stand before p
  unfoldable pub index_of_spot : Contents E S → Place → ℕ
  index_of_spot c p = length (flat_map (λ l. l) (take p.bucket c.lists)) + p.slot

  -- the first entry that passes stands at p
  pub record IsFoundAtSpot (passes : E → Bool) (c : Contents E S) (p : Place) : Type 0 where
    pub within : IsSpot c p
    pub found : position passes (entries c) ≡ Some (index_of_spot c p)

  -- e is inserted, and stands at p
  pub record IsInsertedAtSpot (c : Contents E S) (e : E) (d : Contents E S) (p : Place) : Type 0 where
    pub holds : Holds c (e ∷ entries c) d
    pub within : IsSpot d p
    pub here : slice_get (entries d) (index_of_spot d p) ≡ Some e
