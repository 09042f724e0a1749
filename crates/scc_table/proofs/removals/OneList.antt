-- An entry that is taken out of its list.
use Rattle.std.proofs.Common.{◌≡◌, ℕ, zero, suc, ◌+◌, ◌<◌, ◌≤◌, Bool, Some, None, List, [], ◌∷◌, length, take, map, set, get_or, refl, sym, ap, ◌∙◌, subst, arith, length-set, get_or-set_same}
use Rattle.std.specs.Cmp.{IsEquivalence}
use Rattle.std.specs.List.{flat_map, position, remove, slice_get, IsDistinct}
use Rattle.std.specs.List.Sorted.{IsPermutation}
use Rattle.std.proofs.lemmas.List.Edits.{length-remove}
use Rattle.std.proofs.lemmas.List.Sorted.{IsPermutation-append_left, IsPermutation-append_right, IsPermutation-map, IsPermutation-refl}
use Rattle.std.proofs.lemmas.Map.Keys.{IsDistinct-IsPermutation}
use Rattle.scc_array.proofs.ListsLemmas.{get-below, get-is}
use Rattle.scc_buckets.specs.Bounded.{HasList, IsBounded}
use Rattle.scc_common.specs.Contents.{Contents, entries, bucket_count, list_of, lists_of, IsUniqueBy}
use Rattle.scc_buckets.specs.OneList.{IsSwappedOutOf, IsTakenFrom}
use Rattle.scc_buckets.specs.Placed.{at, at-get}
use Rattle.scc_buckets.specs.Places.{IsSpot, index_of_spot}
use Rattle.scc_common.specs.Steps.{HoldsExactly}
use Rattle.scc_buckets.specs.declared.place.Place.{Place}
use Rattle.scc_buckets.proofs.Bounds as bounds
use Rattle.scc_buckets.proofs.Removes.{unique-removed}
use Rattle.scc_buckets.proofs.Spots.{flat-remove, place-get}
use Rattle.scc_table.proofs.relocations.Fields.{count-is, list-is}

pub entries-are : {E S : Type 0} (c : Contents E S) → entries c ≡ flat_map (λ l. l) (lists_of c)
unfolding entries lists_of
entries-are c = refl

pub index-is : {E S : Type 0} (c : Contents E S) (p : Place) → index_of_spot c p ≡ length (flat_map (λ l. l) (take p.bucket (lists_of c))) + p.slot
unfolding index_of_spot lists_of
index-is c p = refl

pub list-same : {E S : Type 0} (c d : Contents E S) (i : ℕ) (x : List E) → lists_of d ≡ set (lists_of c) i x → i < bucket_count c → list_of d i ≡ x
list-same c d i x lists l = list-is d i ∙ ap (λ ls. get_or ls i []) lists ∙ get_or-set_same (lists_of c) i x [] (omega (arith, count-is c))

pub flat-permuted : {X : Type 0} (ls : List (List X)) (i : ℕ) (xs ys : List X) → i < length ls → IsPermutation xs ys → IsPermutation (flat_map (λ l. l) (set ls i xs)) (flat_map (λ l. l) (set ls i ys))
flat-permuted [] i xs ys h p = absurd (omega arith)
flat-permuted (l ∷ ls) zero xs ys h p = IsPermutation-append_left (flat_map (λ l. l) ls) xs ys p
flat-permuted (l ∷ ls) (suc i) xs ys h p = IsPermutation-append_right l (flat_map (λ l. l) (set ls i xs)) (flat_map (λ l. l) (set ls i ys)) (flat-permuted ls i xs ys (omega arith) p)

module _ {E S : Type 0} (c d : Contents E S) (q : Place) (within : IsSpot c q) where
  -- if the entry at q is taken out of its list, all entries lose this entry alone
  pub removed-is : flat_map (λ l. l) (set (lists_of c) q.bucket (remove (list_of c q.bucket) q.slot)) ≡ remove (entries c) (index_of_spot c q)
  removed-is =
      let ls = lists_of c in
      let n = count-is c in
      let b = within.bucket in
      let s : q.slot < length (get_or ls q.bucket []) = subst (λ z. q.slot < length z) (list-is c q.bucket) within.slot in
      ap (λ z. flat_map (λ l. l) (set ls q.bucket (remove z q.slot))) (list-is c q.bucket) ∙ flat-remove ls q.bucket q.slot (omega arith) s
      ∙ ap (remove (flat_map (λ l. l) ls)) (sym (index-is c q)) ∙ ap (λ z. remove z (index_of_spot c q)) (sym (entries-are c))

  pub got-there : (e : E) → slice_get (entries c) (index_of_spot c q) ≡ Some e → slice_get (list_of c q.bucket) q.slot ≡ Some e
  got-there e got =
      let here = at-get (list_of c q.bucket) q.slot within.slot in
      let s : Some (at (list_of c q.bucket) q.slot within.slot) ≡ Some e = sym (place-get c q within (at (list_of c q.bucket) q.slot within.slot) here) ∙ got in
      here ∙ s

  module _ (t : IsTakenFrom c q d) where
    pub taken-exactly : HoldsExactly c (remove (entries c) (index_of_spot c q)) d
    taken-exactly = record {
      exact = entries-are d ∙ ap (flat_map (λ l. l)) t.lists ∙ removed-is;
      buckets = count-is d ∙ ap length t.lists ∙ length-set (lists_of c) q.bucket (remove (list_of c q.bucket) q.slot) ∙ sym (count-is c);
      settings = t.settings;
    }

    pub taken-list : list_of d q.bucket ≡ remove (list_of c q.bucket) q.slot
    taken-list = list-same c d q.bucket (remove (list_of c q.bucket) q.slot) t.lists within.bucket

    pub taken-short : length (list_of c q.bucket) ≤ 32 → length (list_of d q.bucket) < 32
    taken-short h = let n : length (list_of d q.bucket) ≡ length (remove (list_of c q.bucket) q.slot) = ap length taken-list in let m = length-remove (list_of c q.bucket) q.slot within.slot in omega arith

    pub taken-listed : IsBounded c → HasList c q.bucket (remove (list_of c q.bucket) q.slot) d
    taken-listed bounded = record { lists = t.lists; settings = t.settings; refused = t.refused; bounded = let s = t.spilled in omega arith }

    pub taken-swapped : IsSwappedOutOf c q d
    taken-swapped = record {
      left = remove (list_of c q.bucket) q.slot;
      moved = IsPermutation-refl (remove (list_of c q.bucket) q.slot);
      lists = t.lists;
      settings = t.settings;
      refused = t.refused;
      spilled = t.spilled;
    }

    module _ {K : Type 0} {eq : K → K → Bool} (laws : IsEquivalence eq) (key : E → K) (e : E) (got : slice_get (entries c) (index_of_spot c q) ≡ Some e) (unique : IsUniqueBy eq key c) where
      pub taken-unique : IsUniqueBy eq key d
      taken-unique = subst (λ z. IsDistinct eq (map key z)) (sym taken-exactly.exact)
          (unique-removed laws key (entries c) (index_of_spot c q) e (get-below (entries c) (index_of_spot c q) e got) (get-is (entries c) (index_of_spot c q) e e got) unique)

      pub taken-gone : position (λ x. eq (key e) (key x)) (entries d) ≡ None
      taken-gone = ap (position (λ x. eq (key e) (key x))) taken-exactly.exact ∙ bounds.gone laws key (entries c) (index_of_spot c q) e got unique

  module _ (t : IsSwappedOutOf c q d) where
    pub swapped-count : bucket_count d ≡ bucket_count c
    swapped-count = count-is d ∙ ap length t.lists ∙ length-set (lists_of c) q.bucket t.left ∙ sym (count-is c)

    pub swapped-moved : IsPermutation (remove (entries c) (index_of_spot c q)) (entries d)
    swapped-moved =
        let n = count-is c in
        let b = within.bucket in
        let moved = flat-permuted (lists_of c) q.bucket (remove (list_of c q.bucket) q.slot) t.left (omega arith) t.moved in
        subst (λ z. IsPermutation z (entries d)) removed-is (subst (IsPermutation (flat_map (λ l. l) (set (lists_of c) q.bucket (remove (list_of c q.bucket) q.slot)))) (sym (entries-are d ∙ ap (flat_map (λ l. l)) t.lists)) moved)

    pub swapped-unique : {K : Type 0} {eq : K → K → Bool} (laws : IsEquivalence eq) (key : E → K) (e : E) → slice_get (entries c) (index_of_spot c q) ≡ Some e → IsUniqueBy eq key c → IsUniqueBy eq key d
    swapped-unique {eq = eq} laws key e got unique =
        let less = unique-removed laws key (entries c) (index_of_spot c q) e (get-below (entries c) (index_of_spot c q) e got) (get-is (entries c) (index_of_spot c q) e e got) unique in
        IsDistinct-IsPermutation eq laws.symm (map key (remove (entries c) (index_of_spot c q))) (map key (entries d)) (IsPermutation-map key (remove (entries c) (index_of_spot c q)) (entries d) swapped-moved) less
