-- A table after a removal from one bucket: the bucket's last entry took the place of the removed entry.
use Rattle.std.proofs.Common.{◌≡◌, ℕ, zero, suc, ◌-◌, ◌<◌, ◌≤◌, Bool, List, [], ◌∷◌, length, map, set, get_or, refl, sym, ap, ◌∙◌, subst, arith, get_or-set_same, length-set, Some}
use Rattle.std.specs.List.{flat_map, remove, slice_get, IsDistinct}
use Rattle.std.specs.List.Sorted.{IsPermutation}
use Rattle.std.specs.Cmp.{IsEquivalence}
use Rattle.std.proofs.lemmas.List.{map-set, length-map, set-set}
use Rattle.std.proofs.lemmas.List.Sorted.{All-permutation, length_permutation, IsPermutation-append_left, IsPermutation-append_right, IsPermutation-map}
use Rattle.std.proofs.lemmas.Map.Keys.{IsDistinct-IsPermutation}
use Rattle.scc_common.specs.Contents.{Contents, Settings, entries, bucket_count, settings_of, IsUniqueBy}
use Rattle.scc_buckets.specs.Places.{index_of_spot}
use Rattle.scc_common.specs.Routing.{bucket_number, tag_of}
use Rattle.scc_array.specs.Shelf.{Shelf, shelf_entries, without_slot, swapped_out}
use Rattle.scc_buckets.specs.Tables.{IsOwn, IsBuckets}
use Rattle.scc_buckets.specs.declared.place.Place.{Place}
use Rattle.scc_buckets.proofs.Inserts.{table_set}
use Rattle.scc_buckets.proofs.Removes.{own_without, removed-table, removed-exactly, removed-unique}
use Rattle.scc_array.proofs.Swaps.{entries-swapped, slots-swapped, overflow-swapped, tags-swapped}
use Rattle.scc_buckets.proofs.Views.{view_of, entries-view, count-view, settings-view}

own-swapped : {E : Type 0} (b : Shelf E) (k : ℕ) (x : E) (lk : k < length (shelf_entries b)) (hash : E → ℕ) (t m i : ℕ) → IsOwn hash t m i b → IsOwn hash t m i (swapped_out b k x)
own-swapped b k x lk hash t m i o =
    let w = own_without b k lk hash t m i o in
    record {
      tagged = tags-swapped b k x lk (λ e. tag_of (hash e)) o.tagged;
      routed = All-permutation (λ e. bucket_number t m (hash e) ≡ i) (shelf_entries (without_slot b k)) (shelf_entries (swapped_out b k x)) (entries-swapped b k x lk) w.routed;
      within = let z = slots-swapped b k x lk in let v = w.within in omega arith;
    }

flat-permuted : {X : Type 0} (ls : List (List X)) (i : ℕ) (xs ys : List X) → i < length ls → IsPermutation xs ys → IsPermutation (flat_map (λ l. l) (set ls i xs)) (flat_map (λ l. l) (set ls i ys))
flat-permuted [] i xs ys h p = absurd (omega arith)
flat-permuted (l ∷ ls) zero xs ys h p = IsPermutation-append_left (flat_map (λ l. l) ls) xs ys p
flat-permuted (l ∷ ls) (suc i) xs ys h p = IsPermutation-append_right l (flat_map (λ l. l) (set ls i xs)) (flat_map (λ l. l) (set ls i ys)) (flat-permuted ls i xs ys (omega arith) p)

module _ {E S : Type 0} (hash : E → ℕ) (t n o : ℕ) (p : Place) (bs : List (Shelf E)) (h : IsBuckets hash t bs n o) (s : Settings S) {f : Bool × Bool} (c : Contents E S) (view : view_of f bs s ≡ c) (b : Shelf E) (l : p.bucket < length bs) (at : b ≡ get_or bs p.bucket b)
    (lk : p.slot < length (shelf_entries b)) (x : E) (d : Shelf E) (new : d ≡ swapped_out b p.slot x) where
  -- the bucket after a removal in which the later entries move up
  abbrev up : Shelf E
  up = without_slot b p.slot

  moved : IsPermutation (shelf_entries up) (shelf_entries d)
  moved = rw new (entries-swapped b p.slot x lk)

  pub swapped-table : (r : ℕ) → (p.slot < length b.slots → r ≡ 0) → (length b.slots ≤ p.slot → r ≡ 1) → IsBuckets hash t (set bs p.bucket d) (n - 1) (o - r) × (r ≤ o)
  swapped-table r lower upper =
      let w = removed-table hash t n o p bs h s c view b l at lk up refl r lower upper in
      let there : p.bucket < length (set bs p.bucket up) = let z = length-set bs p.bucket up in omega arith in
      let own : IsOwn hash t (length (set bs p.bucket up)) p.bucket d = rw (length-set bs p.bucket up, new) (own-swapped b p.slot x lk hash t (length bs) p.bucket (h.own p.bucket b l at)) in
      let long = length_permutation (shelf_entries up) (shelf_entries d) moved in
      let over : length d.overflow ≡ length up.overflow = ap (λ y. length y.overflow) new ∙ overflow-swapped b p.slot x lk in
      let again = table_set hash t (n - 1) (o - r) (n - 1) (o - r) p.bucket (set bs p.bucket up) up d w.0 there (sym (get_or-set_same bs p.bucket up up l)) own (omega arith) (omega arith) w.0.few in
      (subst (λ z. IsBuckets hash t z (n - 1) (o - r)) (set-set bs p.bucket up d) again, w.1)

  pub swapped-holds : IsPermutation (remove (entries c) (index_of_spot c p)) (entries (view_of f (set bs p.bucket d) s))
  unfolding entries
  swapped-holds =
      let ls : List (List E) = map shelf_entries bs in
      let ll : p.bucket < length ls = rw (length-map bs shelf_entries) l in
      let as-was : flat_map (λ l. l) (set ls p.bucket (shelf_entries up)) ≡ remove (entries c) (index_of_spot c p) =
      sym (ap (flat_map (λ l. l)) (map-set shelf_entries bs p.bucket up)) ∙ (removed-exactly hash t n o p bs h s c view b l at lk up refl).exact in
      let as-is : flat_map (λ l. l) (set ls p.bucket (shelf_entries d)) ≡ flat_map (λ l. l) (map shelf_entries (set bs p.bucket d)) = ap (flat_map (λ l. l)) (sym (map-set shelf_entries bs p.bucket d)) in
      subst (λ z. IsPermutation (remove (entries c) (index_of_spot c p)) z) as-is (subst (λ z. IsPermutation z (flat_map (λ l. l) (set ls p.bucket (shelf_entries d)))) as-was (flat-permuted ls p.bucket (shelf_entries up) (shelf_entries d) ll moved))

  pub swapped-count : bucket_count (view_of f (set bs p.bucket d) s) ≡ bucket_count c
  unfolding bucket_count
  swapped-count = length-map (set bs p.bucket d) shelf_entries ∙ length-set bs p.bucket d ∙ sym (count-view bs s c view)

  pub swapped-settings : settings_of (view_of f (set bs p.bucket d) s) ≡ settings_of c
  unfolding settings_of
  swapped-settings = sym (settings-view bs s c view)

  pub swapped-unique : {K : Type 0} {eq : K → K → Bool} (laws : IsEquivalence eq) (key : E → K) (y : E) → slice_get (entries c) (index_of_spot c p) ≡ Some y → IsDistinct eq (map key (flat_map shelf_entries bs))
      → IsUniqueBy eq key (view_of f (set bs p.bucket d) s)
  swapped-unique {eq = eq} laws key y got u =
      let es = remove (entries c) (index_of_spot c p) in
      let left : IsDistinct eq (map key es) = subst (λ z. IsDistinct eq (map key z)) (removed-exactly hash t n o p bs h s c view b l at lk up refl).exact (removed-unique hash t n o p bs h s c view b l at lk up refl laws key y got u) in
      let is = entries (view_of f (set bs p.bucket d) s) in
      IsDistinct-IsPermutation eq laws.symm (map key es) (map key is) (IsPermutation-map key es is swapped-holds) left

  pub swapped-unique-flat : {K : Type 0} {eq : K → K → Bool} (laws : IsEquivalence eq) (key : E → K) (y : E) → slice_get (entries c) (index_of_spot c p) ≡ Some y → IsDistinct eq (map key (flat_map shelf_entries bs))
      → IsDistinct eq (map key (flat_map shelf_entries (set bs p.bucket d)))
  swapped-unique-flat {eq = eq} laws key y got u =
      subst (λ (z : List E). IsDistinct eq (map key z)) (entries-view (set bs p.bucket d) s (view_of f (set bs p.bucket d) s) refl) (swapped-unique laws key y got u)
