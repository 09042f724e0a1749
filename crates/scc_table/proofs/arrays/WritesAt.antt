-- A write to the entry at a place of a table of two arrays, as a contract sees it.
use Rattle.std.proofs.Common.{◌≡◌, ℕ, ◌-◌, ◌<◌, ◌≤◌, Bool, true, Some, List, length, set, sym, ap, ◌∙◌, subst}
use Rattle.std.specs.Cmp.{IsEquivalence}
use Rattle.std.specs.List.{slice_get}
use Rattle.scc_array.specs.Shelves.{shelf_of}
use Rattle.scc_array.specs.Shelf.{Shelf, shelf_entries}
use Rattle.scc_array.specs.ShelfWrites.{shelf_write_at}
use Rattle.scc_common.specs.Contents.{Contents, bucket_count, entries, settings_of}
use Rattle.scc_buckets.specs.Places as spots
use Rattle.scc_buckets.specs.Writes as writes
use Rattle.scc_buckets.specs.declared.place.Place.{Place}
use Rattle.scc_table.specs.Places.{IsPlace, index_of, with_write_at}
use Rattle.scc_draining.specs.Drainings.{Draining}
use Rattle.scc_table.specs.TwoArrays.{together, IsTable}
use Rattle.scc_table.proofs.arrays.CurrentChanges.{settings-write}
use Rattle.scc_table.proofs.arrays.Writes.{place-seen, own-got, own-is, own-kept, own-written, old-got, old-is, old-kept, old-written}

-- a table by its fields c and drain, seen as the contents a, whose hashes are given by `hashes` under a hasher
module _ {E K S : Type 0} {eq : K → K → Bool} (laws : IsEquivalence eq) {key : E → K} (hashes : S → K → ℕ) {c : Contents E S} {drain : Draining E}
    (inv : IsTable eq key (λ k. hashes (settings_of c).hasher k) c drain) {a : Contents E S} (view : together (λ e. hashes (settings_of c).hasher (key e)) c drain.waiting drain.array ≡ a) (p : Place) (place : IsPlace a p) where
  within : IsPlace (together (λ e. hashes (settings_of c).hasher (key e)) c drain.waiting drain.array) p
  within = place-seen inv p view place

  -- the place is one of the current array
  module _ (near : p.bucket < bucket_count c) where
    pub near-is : spots.IsSpot c p
    near-is = (own-is laws inv p within near).0

    pub near-got : (e : E) → slice_get (entries c) (spots.index_of_spot c p) ≡ Some e → slice_get (entries a) (index_of a p) ≡ Some e
    near-got e got = subst (λ (z : Contents E S). slice_get (entries z) (index_of z p) ≡ Some e) view (own-got laws inv p within near e got)

    module _ {X : Type 0} (put : E → X → E) (w : X) (d : Contents E S) (new : d ≡ writes.with_write_at_spot put c p w) where
      same : hashes (settings_of d).hasher ≡ hashes (settings_of c).hasher
      same = ap (λ s. hashes s.hasher) (ap settings_of new ∙ settings-write put c p w)

      pub near-kept : (e : E) → slice_get (entries c) (spots.index_of_spot c p) ≡ Some e → eq (key (put e w)) (key e) ≡ true → IsTable eq key (λ k. hashes (settings_of d).hasher k) d drain
      near-kept e got equal = subst (λ (h : K → ℕ). IsTable eq key h d drain) (sym same)
          (subst (λ (z : Contents E S). IsTable eq key (λ k. hashes (settings_of c).hasher k) z drain) (sym new) (own-kept laws inv p within near put w e got equal))

      pub near-written : together (λ e. hashes (settings_of d).hasher (key e)) d drain.waiting drain.array ≡ with_write_at put a p w
      near-written = ap (λ (h : K → ℕ). together (λ e. h (key e)) d drain.waiting drain.array) same
          ∙ ap (λ (z : Contents E S). together (λ e. hashes (settings_of c).hasher (key e)) z drain.waiting drain.array) new
          ∙ own-written laws inv p within near put w ∙ ap (λ z. with_write_at put z p w) view

  -- the place is one of the old array, and n the number of buckets of the current one
  module _ (far : bucket_count c ≤ p.bucket) (n : ℕ) (count : n ≡ bucket_count c) where
    pub far-bucket : p.bucket - n < length drain.array
    far-bucket = subst (λ m. p.bucket - m < length drain.array) (sym count) (old-is laws inv p within far).0

    pub far-slot : p.slot < length (shelf_entries (shelf_of drain.array (p.bucket - n)))
    far-slot = subst (λ m. p.slot < length (shelf_entries (shelf_of drain.array (p.bucket - m)))) (sym count) (old-is laws inv p within far).1

    module _ (e : E) (got : slice_get (shelf_entries (shelf_of drain.array (p.bucket - n))) p.slot ≡ Some e) where
      there : slice_get (shelf_entries (shelf_of drain.array (p.bucket - bucket_count c))) p.slot ≡ Some e
      there = subst (λ m. slice_get (shelf_entries (shelf_of drain.array (p.bucket - m))) p.slot ≡ Some e) count got

      pub far-got : slice_get (entries a) (index_of a p) ≡ Some e
      far-got = subst (λ (z : Contents E S). slice_get (entries z) (index_of z p) ≡ Some e) view (old-got laws inv p within far e there)

      module _ {X : Type 0} (put : E → X → E) (w : X) (equal : hashes (settings_of c).hasher (key (put e w)) ≡ hashes (settings_of c).hasher (key e)) (news : List (Shelf E))
          (new : news ≡ set drain.array (p.bucket - n) (shelf_write_at put (shelf_of drain.array (p.bucket - n)) p.slot w)) where
        written : news ≡ set drain.array (p.bucket - bucket_count c) (shelf_write_at put (shelf_of drain.array (p.bucket - bucket_count c)) p.slot w)
        written = new ∙ ap (λ m. let r : List (Shelf E) = set drain.array (p.bucket - m) (shelf_write_at put (shelf_of drain.array (p.bucket - m)) p.slot w) in r) count

        pub far-kept : eq (key (put e w)) (key e) ≡ true → IsTable eq key (λ k. hashes (settings_of c).hasher k) c (record drain { array = news })
        far-kept same-key = subst (λ z. IsTable eq key (λ k. hashes (settings_of c).hasher k) c (record drain { array = z })) (sym written) (old-kept laws inv p within far e there put w equal same-key)

        pub far-written : together (λ x. hashes (settings_of c).hasher (key x)) c drain.waiting news ≡ with_write_at put a p w
        far-written = ap (λ z. together (λ x. hashes (settings_of c).hasher (key x)) c drain.waiting z) written
            ∙ old-written laws inv p within far e there put w equal ∙ ap (λ z. with_write_at put z p w) view
