-- What is known of an entry of the current array, by its place, and after it is taken out.
use Rattle.std.proofs.Common.{◌≡◌, ℕ, ◌<◌, Bool, Some, sym, ap, ◌∙◌, subst, arith}
use Rattle.std.specs.Cmp.{IsEquivalence}
use Rattle.std.specs.List.{remove, slice_get}
use Rattle.scc_common.specs.Contents.{Contents, bucket_count, entries, hash_in, list_of, owed_of, waiting_of}
use Rattle.scc_buckets.specs.OneList.{IsTakenFrom}
use Rattle.scc_buckets.specs.Places as spots
use Rattle.scc_buckets.specs.declared.place.Place.{Place}
use Rattle.scc_draining.specs.Drainings.{Draining}
use Rattle.scc_table.specs.Places.{IsPlace, index_of, spot_of}
use Rattle.scc_table.specs.Takes.{owed_taken}
use Rattle.scc_table.specs.TwoArrays.{together, IsTable}
use Rattle.scc_table.proofs.arrays.JoinedLists.{waiting-together}
use Rattle.scc_table.proofs.arrays.SameParts.{hash-same}
use Rattle.scc_table.proofs.arrays.Views.{count-seen}
use Rattle.scc_table.proofs.arrays.Writes.{place-seen, own-got, own-is}
use Rattle.scc_table.proofs.removals.Fields.{own-owed_kept, own-less, own-taken}

module _ {E K S : Type 0} {eq : K → K → Bool} (laws : IsEquivalence eq) (hash_of : S → K → ℕ) {key : E → K} {c a : Contents E S} {drain : Draining E} (inv : IsTable eq key (hash_in hash_of c) c drain) (view : together (λ e. hash_in hash_of c (key e)) c drain.waiting drain.array ≡ a)
    (p : Place) (place : IsPlace a p) (below : p.bucket < bucket_count a) where
  within : IsPlace (together (λ e. hash_in hash_of c (key e)) c drain.waiting drain.array) p
  within = place-seen inv p view place

  near : p.bucket < bucket_count c
  near = let seen = count-seen (λ e. hash_in hash_of c (key e)) c drain.waiting drain.array a view inv.arrays.flags in omega (arith, seen, below)

  -- it is a place of the current array
  pub entry-here : spots.IsSpot c p
  entry-here = (own-is laws inv p within near).0

  module _ (e : E) (read : slice_get (entries c) (spots.index_of_spot c p) ≡ Some e) where
    -- the entry at the place is the one that was read
    pub entry-read : slice_get (entries a) (index_of a p) ≡ Some e
    entry-read = subst (λ (z : Contents E S). slice_get (entries z) (index_of z p) ≡ Some e) view (own-got laws inv p within near e read)

    module _ (d : Contents E S) (taken : IsTakenFrom c p d) where
      same : hash_in hash_of d ≡ hash_in hash_of c
      same = hash-same hash_of c d taken.settings

      -- without the entry, the invariant holds
      pub entry-less : IsTable eq key (hash_in hash_of d) d drain
      entry-less = subst (λ (h : K → ℕ). IsTable eq key h d drain) (sym same) (own-less laws inv p within near d e read taken)

      -- the waiting buckets stay, and so does what the old array owes
      pub entry-waiting : waiting_of (together (λ e. hash_in hash_of d (key e)) d drain.waiting drain.array) ≡ waiting_of a
      entry-waiting = waiting-together (λ e. hash_in hash_of d (key e)) d drain.waiting drain.array ∙ sym (ap waiting_of (sym view) ∙ waiting-together (λ e. hash_in hash_of c (key e)) c drain.waiting drain.array)

      pub entry-owed : owed_of (together (λ e. hash_in hash_of d (key e)) d drain.waiting drain.array) ≡ owed_taken (bucket_count a) (owed_of a) p
      entry-owed =
          ap (λ (h : K → ℕ). owed_of (together (λ e. h (key e)) d drain.waiting drain.array)) same ∙ own-owed_kept laws inv p within near d (remove (list_of c p.bucket) p.slot) taken.lists taken.settings
          ∙ ap (λ (z : Contents E S). owed_taken (bucket_count z) (owed_of z) p) view

      -- the entry alone is gone, and the others keep their order
      pub entry-taken : IsTakenFrom a (spot_of a p) (together (λ e. hash_in hash_of d (key e)) d drain.waiting drain.array)
      entry-taken =
          let was = together (λ e. hash_in hash_of c (key e)) c drain.waiting drain.array in
          let first = subst (λ (h : K → ℕ). IsTakenFrom was (spot_of was p) (together (λ e. h (key e)) d drain.waiting drain.array)) (sym same) (own-taken laws inv p within near d taken) in
          subst (λ (z : Contents E S). IsTakenFrom z (spot_of z p) (together (λ e. hash_in hash_of d (key e)) d drain.waiting drain.array)) view first
