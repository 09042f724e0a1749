-- A table with an entry taken out of one bucket.
use Rattle.std.proofs.Common.{◌≡◌, ℕ, zero, suc, ◌+◌, ◌-◌, ◌<◌, ◌≤◌, Bool, true, false, List, [], ◌∷◌, length, map, set, take, get_or, refl, sym, ap, ◌∙◌, subst, arith, nat_lt, rules, length-append, length-set, Some}
use Rattle.std.specs.List.{flat_map, remove, slice_get, IsDistinct}
use Rattle.std.specs.Cmp.{IsEquivalence}
use Rattle.std.proofs.lemmas.List.{get_or-map, map-set, length-map}
use Rattle.std.proofs.lemmas.List.Sums.{get_or-le-sum_by}
use Rattle.std.proofs.lemmas.List.Edits.{length-remove, get_or-remove_below, get_or-remove_above, remove-append_left, remove-append_right}
use Rattle.std.proofs.lemmas.List.Sorted.{IsPermutation-remove, IsPermutation-map}
use Rattle.std.proofs.lemmas.Map.Keys.{IsDistinct-tail, IsDistinct-IsPermutation}
use native.Mathlib.Decide.{dec_lt}
use Rattle.scc_common.specs.Contents.{Contents, Settings, entries, bucket_count, settings_of, IsUniqueBy}
use Rattle.scc_buckets.specs.Places.{index_of_spot}
use Rattle.scc_common.specs.Routing.{bucket_number, tag_of}
use Rattle.scc_array.specs.Shelf.{Shelf, shelf_entries, without_slot}
use Rattle.scc_common.specs.Steps.{HoldsExactly}
use Rattle.scc_buckets.specs.Tables.{IsOwn, IsBuckets}
use Rattle.scc_buckets.specs.declared.place.Place.{Place}
use Rattle.scc_buckets.proofs.Inserts.{table_set}
use Rattle.scc_array.proofs.ListsLemmas.{get-below, get-is}
use Rattle.scc_buckets.proofs.Spots.{flat-remove}
use Rattle.scc_buckets.proofs.Views.{view_of, entries-view, count-view, settings-view}

map-remove : {X Y : Type 0} (f : X → Y) (xs : List X) (i : ℕ) → remove (map f xs) i ≡ map f (remove xs i)
map-remove f [] zero = refl
map-remove f [] (suc i) = refl
map-remove f (x ∷ xs) zero = refl
map-remove f (x ∷ xs) (suc i) = ap (λ z. f x ∷ z) (map-remove f xs i)

module _ {E : Type 0} (b : Shelf E) (k : ℕ) (lk : k < length (shelf_entries b)) where
  pub entries_without : shelf_entries (without_slot b k) ≡ remove (shelf_entries b) k
  entries_without = elim (dec_lt k (length b.slots)) [
    | yes q ↦ let c : nat_lt k (length b.slots) ≡ true = search rules in rw c (sym (remove-append_left b.slots b.overflow k q))
    | no q ↦ let far : length b.slots ≤ k = omega arith in let c : nat_lt k (length b.slots) ≡ false = search rules in
        rw c (sym (remove-append_right b.slots b.overflow (length b.slots) k refl far))
  ]

  pub overflow_without : (k < length b.slots → length (without_slot b k).overflow ≡ length b.overflow) × (length b.slots ≤ k → length (without_slot b k).overflow + 1 ≡ length b.overflow)
  overflow_without = elim (dec_lt k (length b.slots)) [
    | yes q ↦ let c : nat_lt k (length b.slots) ≡ true = search rules in rw c (λ z. refl, λ z. absurd (omega arith))
    | no q ↦ let far : length b.slots ≤ k = omega arith in let c : nat_lt k (length b.slots) ≡ false = search rules in
        rw c (λ z. absurd (omega arith), λ z. length-remove b.overflow (k - length b.slots) (omega (arith, length-append b.slots b.overflow)))
  ]

  slots_without : length b.slots ≤ 32 → length (without_slot b k).slots ≤ 32
  slots_without h = elim (dec_lt k (length b.slots)) [
    | yes q ↦ let c : nat_lt k (length b.slots) ≡ true = search rules in rw c (omega (arith, length-remove b.slots k q))
    | no q ↦ let far : length b.slots ≤ k = omega arith in let c : nat_lt k (length b.slots) ≡ false = search rules in rw c h
  ]

  tags_without : (f : E → ℕ) → b.tags ≡ map f b.slots → (without_slot b k).tags ≡ map f (without_slot b k).slots
  tags_without f h = elim (dec_lt k (length b.slots)) [
    | yes q ↦ let c : nat_lt k (length b.slots) ≡ true = search rules in rw c (ap (λ z. remove z k) h ∙ map-remove f b.slots k)
    | no q ↦ let far : length b.slots ≤ k = omega arith in let c : nat_lt k (length b.slots) ≡ false = search rules in rw c h
  ]

  pub own_without : (hash : E → ℕ) (t m i : ℕ) → IsOwn hash t m i b → IsOwn hash t m i (without_slot b k)
  own_without hash t m i o = record {
    tagged = tags_without (λ e. tag_of (hash e)) o.tagged;
    routed = λ j d lj.
        let n = length-remove (shelf_entries b) k lk in
        let lr : j < length (remove (shelf_entries b) k) = subst (λ z. j < length z) entries_without lj in
        ap (λ z. bucket_number t m (hash (get_or z j d))) entries_without
        ∙ elim (dec_lt j k) [
          | yes q ↦ ap (λ z. bucket_number t m (hash z)) (get_or-remove_below (shelf_entries b) k d j q lk) ∙ o.routed j d (omega arith)
          | no q ↦ ap (λ z. bucket_number t m (hash z)) (get_or-remove_above (shelf_entries b) k d j (omega arith) lk) ∙ o.routed (j + 1) d (omega arith)
        ];
    within = slots_without o.within;
  }

-- keys stay distinct if an entry is taken out
pub unique-removed : {E K : Type 0} {eq : K → K → Bool} (laws : IsEquivalence eq) (key : E → K) (es : List E) (i : ℕ) (x : E) → i < length es → x ≡ get_or es i x → IsDistinct eq (map key es) → IsDistinct eq (map key (remove es i))
unique-removed {eq = eq} laws key es i x l at d =
    IsDistinct-tail eq (key x) (map key (remove es i)) (IsDistinct-IsPermutation eq laws.symm (map key es) (key x ∷ map key (remove es i)) (IsPermutation-map key es (x ∷ remove es i) (IsPermutation-remove es i x l at)) d)

module _ {E S : Type 0} (hash : E → ℕ) (t n o : ℕ) (p : Place) (bs : List (Shelf E)) (h : IsBuckets hash t bs n o) (s : Settings S) {f : Bool × Bool} (c : Contents E S) (view : view_of f bs s ≡ c) (b : Shelf E) (l : p.bucket < length bs) (at : b ≡ get_or bs p.bucket b)
    (lk : p.slot < length (shelf_entries b)) (d : Shelf E) (new : d ≡ without_slot b p.slot) where
  list-there : get_or (map shelf_entries bs) p.bucket [] ≡ shelf_entries b
  list-there = get_or-map shelf_entries bs p.bucket b [] l ∙ ap shelf_entries (sym at)

  fewer : length (shelf_entries d) + 1 ≡ length (shelf_entries b)
  fewer = ap (λ x. length (shelf_entries x) + 1) new ∙ ap (λ x. length x + 1) (entries_without b p.slot lk) ∙ length-remove (shelf_entries b) p.slot lk

  pub at-least-one : 1 ≤ n
  at-least-one =
      let f : Shelf E → ℕ = λ x. length (shelf_entries x) in
      let m = get_or-le-sum_by f bs p.bucket b l in
      let e : f (get_or bs p.bucket b) ≡ f b = ap f (sym at) in
      omega (arith, h.counted)

  pub at-least-spilled : length b.overflow ≤ o
  at-least-spilled =
      let f : Shelf E → ℕ = λ x. length x.overflow in
      let m = get_or-le-sum_by f bs p.bucket b l in
      let e : f (get_or bs p.bucket b) ≡ f b = ap f (sym at) in
      omega (arith, h.spilled)

  pub removed-table : (r : ℕ) → (p.slot < length b.slots → r ≡ 0) → (length b.slots ≤ p.slot → r ≡ 1) → IsBuckets hash t (set bs p.bucket d) (n - 1) (o - r) × (r ≤ o)
  removed-table r lower upper =
      let one = at-least-one in
      let spilled = at-least-spilled in
      let w = overflow_without b p.slot lk in
      let over : length d.overflow ≡ length (without_slot b p.slot).overflow = ap (λ x. length x.overflow) new in
      let few = h.few in
      elim (dec_lt p.slot (length b.slots)) [
        | yes q ↦
            let z = lower q in
            let v = w.0 q in
            (table_set hash t n o (n - 1) (o - r) p.bucket bs b d h l at (subst (IsOwn hash t (length bs) p.bucket) (sym new) (own_without b p.slot lk hash t (length bs) p.bucket (h.own p.bucket b l at))) (let f = fewer in omega arith) (omega arith) (omega arith), omega arith)
        | no q ↦
            let far : length b.slots ≤ p.slot = omega arith in
            let z = upper far in
            let v = w.1 far in
            (table_set hash t n o (n - 1) (o - r) p.bucket bs b d h l at (subst (IsOwn hash t (length bs) p.bucket) (sym new) (own_without b p.slot lk hash t (length bs) p.bucket (h.own p.bucket b l at))) (let f = fewer in omega arith) (omega arith) (omega arith), omega arith)
      ]

  pub removed-exactly : HoldsExactly c (remove (entries c) (index_of_spot c p)) (view_of f (set bs p.bucket d) s)
  unfolding entries bucket_count settings_of index_of_spot
  removed-exactly =
      let ls : List (List E) = map shelf_entries bs in
      let ll : p.bucket < length ls = rw (length-map bs shelf_entries) l in
      let lq : p.slot < length (get_or ls p.bucket []) = rw list-there lk in
      let lists : map shelf_entries (set bs p.bucket d) ≡ set ls p.bucket (remove (get_or ls p.bucket []) p.slot) =
      map-set shelf_entries bs p.bucket d ∙ ap (set ls p.bucket) (ap shelf_entries new ∙ entries_without b p.slot lk ∙ ap (λ z. remove z p.slot) (sym list-there)) in
      record {
        exact = ap (flat_map (λ l. l)) lists ∙ flat-remove ls p.bucket p.slot ll lq
            ∙ ap (λ (x : Contents E S). remove (flat_map (λ l. l) x.lists) (length (flat_map (λ l. l) (take p.bucket x.lists)) + p.slot)) view;
        buckets = length-map (set bs p.bucket d) shelf_entries ∙ length-set bs p.bucket d ∙ sym (count-view bs s c view);
        settings = sym (settings-view bs s c view);
      }

  pub removed-unique : {K : Type 0} {eq : K → K → Bool} (laws : IsEquivalence eq) (key : E → K) (x : E) → slice_get (entries c) (index_of_spot c p) ≡ Some x → IsDistinct eq (map key (flat_map shelf_entries bs))
      → IsUniqueBy eq key (view_of f (set bs p.bucket d) s)
  removed-unique {eq = eq} laws key x got u =
      rw removed-exactly.exact (unique-removed laws key (entries c) (index_of_spot c p) x (get-below (entries c) (index_of_spot c p) x got) (get-is (entries c) (index_of_spot c p) x x got) (rw (entries-view bs s c view) u))

  pub removed-unique-flat : {K : Type 0} {eq : K → K → Bool} (laws : IsEquivalence eq) (key : E → K) (x : E) → slice_get (entries c) (index_of_spot c p) ≡ Some x → IsDistinct eq (map key (flat_map shelf_entries bs))
      → IsDistinct eq (map key (flat_map shelf_entries (set bs p.bucket d)))
  removed-unique-flat {eq = eq} laws key x got u =
      let w = removed-unique laws key x got u in
      subst (λ (z : List E). IsDistinct eq (map key z)) (entries-view (set bs p.bucket d) s (view_of f (set bs p.bucket d) s) refl) w
