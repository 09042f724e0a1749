-- What is known of an entry of the old array, by its place, and after it is taken out.
use Rattle.std.proofs.Common.{◌≡◌, ℕ, ◌-◌, ◌<◌, ◌≤◌, Bool, Some, List, length, set, sym, ap, ◌∙◌, subst, arith}
use Rattle.std.specs.Cmp.{IsEquivalence}
use Rattle.std.specs.List.{slice_get}
use Rattle.scc_array.specs.Shelves.{shelf_of}
use Rattle.scc_array.specs.Shelf.{Shelf, shelf_entries, swapped_out, without_slot}
use Rattle.scc_common.specs.Contents.{Contents, bucket_count, entries, owed_of, waiting_of}
use Rattle.scc_buckets.specs.OneList.{IsTakenFrom}
use Rattle.scc_buckets.specs.declared.place.Place.{Place}
use Rattle.scc_draining.specs.Drainings.{Draining}
use Rattle.scc_table.specs.Places.{IsPlace, index_of, spot_of}
use Rattle.scc_table.specs.Removals.{SwapTakesAt}
use Rattle.scc_table.specs.Takes.{owed_taken}
use Rattle.scc_table.specs.TwoArrays.{together, IsTable}
use Rattle.scc_table.proofs.arrays.JoinedLists.{waiting-together}
use Rattle.scc_table.proofs.arrays.OldSwaps.{swap-table, swap-takes}
use Rattle.scc_table.proofs.arrays.OneBucket.{old-here}
use Rattle.scc_table.proofs.arrays.Views.{count-seen}
use Rattle.scc_table.proofs.arrays.Writes.{place-seen, old-got, old-is}
use Rattle.scc_table.proofs.removals.Fields.{old-owed_taken, old-less, old-taken_at}

module _ {E K S : Type 0} {eq : K → K → Bool} (laws : IsEquivalence eq) {key : E → K} {hash : K → ℕ} {c a : Contents E S} {drain : Draining E} (inv : IsTable eq key hash c drain) (view : together (λ e. hash (key e)) c drain.waiting drain.array ≡ a)
    (p : Place) (place : IsPlace a p) (old : bucket_count a ≤ p.bucket) {n : ℕ} (count : n ≡ bucket_count c) where
  within : IsPlace (together (λ e. hash (key e)) c drain.waiting drain.array) p
  within = place-seen inv p view place

  far : bucket_count c ≤ p.bucket
  far = let seen = count-seen (λ e. hash (key e)) c drain.waiting drain.array a view inv.arrays.flags in omega (arith, seen, old)

  -- the place lies behind the current array
  pub entry-far : n ≤ p.bucket
  entry-far = let l = far in omega (arith, l, count)

  -- its old bucket has a slot for it
  pub entry-there : (p.bucket - n < length drain.array) × (p.slot < length (shelf_entries (shelf_of drain.array (p.bucket - n))))
  entry-there = subst (λ m. (p.bucket - m < length drain.array) × (p.slot < length (shelf_entries (shelf_of drain.array (p.bucket - m))))) (sym count) (old-is laws inv p within far)

  module _ (e : E) (read : slice_get (shelf_entries (shelf_of drain.array (p.bucket - n))) p.slot ≡ Some e) where
    got : slice_get (shelf_entries (shelf_of drain.array (p.bucket - bucket_count c))) p.slot ≡ Some e
    got = subst (λ m. slice_get (shelf_entries (shelf_of drain.array (p.bucket - m))) p.slot ≡ Some e) count read

    -- the entry at the place is the one that was read
    pub entry-read : slice_get (entries a) (index_of a p) ≡ Some e
    entry-read = subst (λ (z : Contents E S). slice_get (entries z) (index_of z p) ≡ Some e) view (old-got laws inv p within far e got)

    module _ (ns : List (Shelf E)) (others : ns ≡ set drain.array (p.bucket - n) (without_slot (shelf_of drain.array (p.bucket - n)) p.slot)) where
      new : ns ≡ set drain.array (p.bucket - bucket_count c) (without_slot (shelf_of drain.array (p.bucket - bucket_count c)) p.slot)
      new = others ∙ ap (λ m. let r : List (Shelf E) = set drain.array (p.bucket - m) (without_slot (shelf_of drain.array (p.bucket - m)) p.slot) in r) count

      -- without the entry, the invariant holds
      pub entry-less : IsTable eq key hash c (record drain { array = ns; left = drain.left - 1 })
      entry-less = subst (λ os. IsTable eq key hash c (record drain { array = os; left = drain.left - 1 })) (sym new) (old-less laws inv p within far e got)

      -- the waiting buckets stay, and the old array owes the entry no more
      pub entry-waiting : waiting_of (together (λ e. hash (key e)) c drain.waiting ns) ≡ waiting_of a
      entry-waiting = waiting-together (λ e. hash (key e)) c drain.waiting ns ∙ sym (ap waiting_of (sym view) ∙ waiting-together (λ e. hash (key e)) c drain.waiting drain.array)

      pub entry-owed : owed_of (together (λ e. hash (key e)) c drain.waiting ns) ≡ owed_taken (bucket_count a) (owed_of a) p
      entry-owed =
          ap (λ os. owed_of (together (λ e. hash (key e)) c drain.waiting os)) new ∙ old-owed_taken laws inv p within far e got
          ∙ ap (λ (z : Contents E S). owed_taken (bucket_count z) (owed_of z) p) view

      -- the entry alone is gone, and the others keep their order
      pub entry-taken : IsTakenFrom a (spot_of a p) (together (λ e. hash (key e)) c drain.waiting ns)
      entry-taken =
          let first = subst (λ os. IsTakenFrom (together (λ e. hash (key e)) c drain.waiting drain.array) (spot_of (together (λ e. hash (key e)) c drain.waiting drain.array) p) (together (λ e. hash (key e)) c drain.waiting os)) (sym new) (old-taken_at laws inv p within far e got) in
          subst (λ (z : Contents E S). IsTakenFrom z (spot_of z p) (together (λ e. hash (key e)) c drain.waiting ns)) view first

    -- if the old array has more buckets than the current one, the last entry may take the slot
    module _ (fewer : bucket_count c < length drain.array) where
      pub entry-swapped_table : IsTable eq key hash c (record drain { array = set drain.array (p.bucket - n) (swapped_out (shelf_of drain.array (p.bucket - n)) p.slot e); left = drain.left - 1 })
      entry-swapped_table = let at = old-here inv p view place n count entry-far in swap-table laws inv p within (p.bucket - n) at.0 at.1 e read fewer

      pub entry-swapped : SwapTakesAt eq key a p e (together (λ e. hash (key e)) c drain.waiting (set drain.array (p.bucket - n) (swapped_out (shelf_of drain.array (p.bucket - n)) p.slot e)))
      entry-swapped =
          let at = old-here inv p view place n count entry-far in
          let ns : List (Shelf E) = set drain.array (p.bucket - n) (swapped_out (shelf_of drain.array (p.bucket - n)) p.slot e) in
          subst (λ (z : Contents E S). SwapTakesAt eq key z p e (together (λ e. hash (key e)) c drain.waiting ns)) view (swap-takes laws inv p within (p.bucket - n) at.0 at.1 e read fewer)
