-- What holds after an entry of the current array is taken out, and the last one of its list may take its slot.
use Rattle.std.proofs.Common.{◌≡◌, ℕ, ◌<◌, ◌⊎◌, inl, inr, Bool, Some, sym, ap, ◌∙◌, subst, arith}
use Rattle.std.specs.Cmp.{IsEquivalence}
use Rattle.std.specs.List.{slice_get}
use Rattle.scc_common.specs.Contents.{Contents, bucket_count, entries, hash_in, owed_of, IsUniqueBy}
use Rattle.scc_buckets.specs.OneList.{IsSwappedOutOf}
use Rattle.scc_buckets.specs.Places as spots
use Rattle.scc_buckets.specs.declared.place.Place.{Place}
use Rattle.scc_draining.specs.Drainings.{Draining}
use Rattle.scc_table.specs.Places.{IsPlace, index_of, spot_of}
use Rattle.scc_table.specs.Removals.{SwapTakesAt}
use Rattle.scc_table.specs.Takes.{owed_taken}
use Rattle.scc_table.specs.TwoArrays.{together, IsTable}
use Rattle.scc_table.proofs.arrays.JoinedLists.{waiting-together}
use Rattle.scc_table.proofs.arrays.SameParts.{hash-same}
use Rattle.scc_table.proofs.arrays.Views.{count-seen, waiting-seen}
use Rattle.scc_table.proofs.arrays.Writes.{place-seen, own-got, own-is}
use Rattle.scc_table.proofs.places.Searches.{near-not_waiting}
use Rattle.scc_table.proofs.removals.Fields.{own-less_swapped, own-owed_kept, own-swapped}
use Rattle.scc_table.proofs.removals.OneList.{swapped-count, swapped-moved, swapped-unique}

-- p is a place of the current array, since no bucket waits or since it lies below the number of buckets
module _ {E K S : Type 0} {eq : K → K → Bool} (laws : IsEquivalence eq) (hash_of : S → K → ℕ) {key : E → K} {c a : Contents E S} {drain : Draining E} (inv : IsTable eq key (hash_in hash_of c) c drain) (view : together (λ e. hash_in hash_of c (key e)) c drain.waiting drain.array ≡ a)
    (p : Place) (place : IsPlace a p) (own : (drain.pending ≡ 0) ⊎ (p.bucket < bucket_count a)) where
  within : IsPlace (together (λ e. hash_in hash_of c (key e)) c drain.waiting drain.array) p
  within = place-seen inv p view place

  near : p.bucket < bucket_count c
  near = elim own [
    | inl none ↦ near-not_waiting (λ e. hash_in hash_of c (key e)) c drain.array drain.waiting (inv.none none) p within
    | inr below ↦ let seen = count-seen (λ e. hash_in hash_of c (key e)) c drain.waiting drain.array a view inv.arrays.flags in omega (arith, seen, below)
  ]

  pub swap-here : spots.IsSpot c p
  swap-here = (own-is laws inv p within near).0

  module _ (e : E) (d : Contents E S) (read : slice_get (entries c) (spots.index_of_spot c p) ≡ Some e) (out : IsSwappedOutOf c p d) where
    same : hash_in hash_of d ≡ hash_in hash_of c
    same = hash-same hash_of c d out.settings

    -- without the entry, the invariant holds
    pub swap-fields : IsTable eq key (hash_in hash_of d) d drain
    swap-fields = subst (λ (h : K → ℕ). IsTable eq key h d drain) (sym same) (own-less_swapped laws inv p within near d e read out)

    taken : IsSwappedOutOf a (spot_of a p) (together (λ e. hash_in hash_of d (key e)) d drain.waiting drain.array)
    taken =
        let was = together (λ e. hash_in hash_of c (key e)) c drain.waiting drain.array in
        let first = subst (λ (h : K → ℕ). IsSwappedOutOf was (spot_of was p) (together (λ e. h (key e)) d drain.waiting drain.array)) (sym same) (own-swapped laws inv p within near d out) in
        subst (λ (z : Contents E S). IsSwappedOutOf z (spot_of z p) (together (λ e. hash_in hash_of d (key e)) d drain.waiting drain.array)) view first

    got : slice_get (entries a) (index_of a p) ≡ Some e
    got = subst (λ (z : Contents E S). slice_get (entries z) (index_of z p) ≡ Some e) view (own-got laws inv p within near e read)

    -- the entry alone is gone
    pub swap-taken : SwapTakesAt eq key a p e (together (λ e. hash_in hash_of d (key e)) d drain.waiting drain.array)
    swap-taken =
        let after = together (λ e. hash_in hash_of d (key e)) d drain.waiting drain.array in
        let q = spot_of a p in
        record {
          entry = got;
          others = swapped-moved a after q place taken;
          buckets = swapped-count a after q place taken;
          noted = taken.refused;
          settings = taken.settings;
          waiting = waiting-together (λ e. hash_in hash_of d (key e)) d drain.waiting drain.array ∙ sym (waiting-seen (λ e. hash_in hash_of c (key e)) c drain.waiting drain.array a view);
          owed = ap (λ (h : K → ℕ). owed_of (together (λ e. h (key e)) d drain.waiting drain.array)) same ∙ own-owed_kept laws inv p within near d out.left out.lists out.settings
              ∙ ap (λ (z : Contents E S). owed_taken (bucket_count z) (owed_of z) p) view;
          exact = taken;
          unique = swapped-unique a after q place taken laws key e got (subst (λ (z : Contents E S). IsUniqueBy eq key z) view inv.unique);
        }
