-- The place of an entry of two arrays.
use Rattle.std.specs.Prelude.{ℕ, ◌-◌, ◌==◌, Bool, false, cond, nat_lt, List, [], ◌∷◌, ◌++◌, take, count_by, slice_get, slice_index_or, Option, None, Some}
use Rattle.std.specs.List.{flat_map}
use Rattle.scc_common.specs.Contents.{Contents, bucket_count, waiting_of, owed_of}
use Rattle.scc_buckets.specs.Places as spots
use Rattle.scc_buckets.specs.Standing as standing
use Rattle.scc_buckets.specs.Writes as writes
use Rattle.scc_buckets.specs.declared.place.Place.{Place}

-- the buckets that the entries of the old array before slot s of old bucket j wait for, in order
abbrev pub owed_before : List (List ℕ) → ℕ → ℕ → List ℕ
owed_before hs j s = flat_map (λ l. l) (take j hs) ++ take s (slice_index_or hs j [])

-- the spot of an entry that waits for bucket t, after old entries that wait for the buckets `before`: its slot is the
-- number of these that wait for t. Without an entry, the spot is past the last of n buckets
abbrev pub spot_by : ℕ → Option ℕ → List ℕ → Place
spot_by n None before = record { bucket = n; slot = 0 }
spot_by n (Some t) before = record { bucket = t; slot = count_by (λ u. u == t) before }

-- the spot of the place p: buckets from number n on are those of the old array, from its first bucket on; a waiting
-- bucket among the first n has no entry of its own
abbrev pub spot_in : List Bool → List (List ℕ) → ℕ → Place → Place
spot_in [] hs n p = p
spot_in (w ∷ ws) hs n p =
    cond (nat_lt p.bucket n)
    (cond (slice_index_or (w ∷ ws) p.bucket false) (record { bucket = n; slot = 0 }) p)
    (spot_by n (slice_get (slice_index_or hs (p.bucket - n) []) p.slot) (owed_before hs (p.bucket - n) p.slot))

module _ {E S : Type 0} where
  -- the bucket whose list has the entry at p, and the number of the entry in this list
  abbrev pub spot_of : Contents E S → Place → Place
  spot_of c p = spot_in (waiting_of c) (owed_of c) (bucket_count c) p

  -- an entry stands at p
  abbrev pub IsPlace : Contents E S → Place → Type 0
  IsPlace c p = spots.IsSpot c (spot_of c p)

  -- how many entries stand before p
  abbrev pub index_of : Contents E S → Place → ℕ
  index_of c p = spots.index_of_spot c (spot_of c p)

  -- the first entry that passes stands at p
  abbrev pub IsFoundAt : (E → Bool) → Contents E S → Place → Type 0
  IsFoundAt passes c p = spots.IsFoundAtSpot passes c (spot_of c p)

  -- e is inserted, and stands at p
  abbrev pub IsInsertedAt : Contents E S → E → Contents E S → Place → Type 0
  IsInsertedAt c e d p = spots.IsInsertedAtSpot c e d (spot_of d p)

  -- an entry stands at p, and i entries stand before it
  abbrev pub StandsAt : Contents E S → ℕ → Place → Type 0
  StandsAt c i p = standing.StandsAtSpot c i (spot_of c p)

  -- the contents after `put` has written x into the entry at p
  abbrev pub with_write_at : {X : Type 0} → (E → X → E) → Contents E S → Place → X → Contents E S
  with_write_at put c p x = writes.with_write_at_spot put c (spot_of c p) x
