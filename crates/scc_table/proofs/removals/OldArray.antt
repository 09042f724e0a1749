-- The first entry that passes is taken out of an old array with more buckets than the current one. Its bucket of the
-- current array waits.
use Rattle.std.proofs.Common.{◌≡◌, ℕ, ◌+◌, ◌-◌, ◌<◌, Bool, true, Option, Some, None, List, length, refl, sym, subst}
use Rattle.std.specs.Cmp.{IsEquivalence}
use Rattle.scc_array.specs.Shelf.{Shelf}
use Rattle.scc_array.specs.Takes.{IsTakenOut}
use Rattle.scc_common.specs.Contents.{Contents, bucket_count, IsRouted}
use Rattle.scc_buckets.specs.declared.place.Place.{Place}
use Rattle.scc_draining.specs.Drainings.{draining_of, TakesFromOld}
use Rattle.scc_draining.specs.declared.draining.Draining as code
use Rattle.scc_table.specs.Places.{IsFoundAt}
use Rattle.scc_table.specs.Removals.{SwapTakesAt, SwapTakesFirst}
use Rattle.scc_table.specs.TwoArrays.{together, IsTable}
use Rattle.scc_table.proofs.arrays.OldSwaps.{swap-table, swap-takes}
use Rattle.scc_table.proofs.places.KeyBuckets.{IsBucketOf, found-there, missed-there, old-below, old_bucket}
use Rattle.scc_table.proofs.places.Searches.{routed-current}

-- o becomes d, and r is what is taken out
module _ {E K S : Type 0} {eq : K → K → Bool} (laws : IsEquivalence eq) {key : E → K} {hash : K → ℕ} {c : Contents E S} (o d : code.Draining E) (inv : IsTable eq key hash c (draining_of o))
    (routed : IsRouted (λ e. hash (key e)) (together (λ e. hash (key e)) c o.waiting.items o.array)) {p : E → Bool} {h i : ℕ} (b : IsBucketOf (λ e. hash (key e)) p h i c o.waiting.items true) where
  abbrev both : code.Draining E → Contents E S
  both z = together (λ x. hash (key x)) c z.waiting.items z.array

  abbrev j : ℕ
  j = old_bucket c (draining_of o) h

  routed-here : IsRouted (λ e. hash (key e)) c
  routed-here = routed-current (λ e. hash (key e)) c o.waiting.items o.array inv.arrays routed

  -- x is taken out of slot s of the old bucket
  module _ (fewer : bucket_count c < length o.array) where
    module _ (s : ℕ) (x : E) (out : IsTakenOut p o.array j d.array s x) where
      abbrev place : Place
      place = record { bucket = bucket_count c + j; slot = s }

      found : IsFoundAt p (both o) place
      found = found-there inv refl routed-here b place refl out.first

      taken : SwapTakesAt eq key (both o) place x (both (record o { array = d.array; left = o.left - 1 }))
      taken = subst (λ (z : List (Shelf E)). SwapTakesAt eq key (both o) place x (together (λ e. hash (key e)) c o.waiting.items z)) (sym out.others) (swap-takes laws inv place found.within j refl (old-below inv refl h i b.flag) x out.entry fewer)

      left : IsTable eq key hash c (draining_of (record o { array = d.array; left = o.left - 1 }))
      left = subst (λ (z : List (Shelf E)). IsTable eq key hash c (record (draining_of o) { array = z; left = o.left - 1 })) (sym out.others) (swap-table laws inv place found.within j refl (old-below inv refl h i b.flag) x out.entry fewer)

    -- the table of both arrays does the step
    pub old-takes : (r : Option E) → TakesFromOld p j o r d → SwapTakesFirst eq key p (both o) (both d) r
    old-takes None t = (missed-there inv refl routed-here b t.0, subst (λ z. both z ≡ both o) (sym t.1) refl)
    old-takes (Some x) t = (place t.0 x t.1, found t.0 x t.1, subst (λ z. SwapTakesAt eq key (both o) (place t.0 x t.1) x (both z)) (sym t.2) (taken t.0 x t.1))

    -- its invariant `IsTable` holds afterwards
    pub old-keeps : (r : Option E) → TakesFromOld p j o r d → IsTable eq key hash c (draining_of d)
    old-keeps None t = subst (λ z. IsTable eq key hash c (draining_of z)) (sym t.1) inv
    old-keeps (Some x) t = subst (λ z. IsTable eq key hash c (draining_of z)) (sym t.2) (left t.0 x t.1)
