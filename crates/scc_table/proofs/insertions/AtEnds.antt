-- An entry is added at the end of the list of a bucket that doesn't wait, in a table with empty overflow lists.
use Rattle.std.proofs.Common.{◌≡◌, ℕ, zero, suc, ◌<◌, ◌≤◌, ◌≢◌, Bool, false, Option, Some, None, List, [], ◌∷◌, ◌++◌, length, map, set, get_or, refl, sym, ap, ◌∙◌, subst, arith, append_assoc, length-set, get_or-set_same, get_or-set_other}
use Rattle.std.specs.Cmp.{IsEquivalence}
use Rattle.std.specs.List.{flat_map, position, remove, slice_get}
use Rattle.std.specs.List.Sorted.{IsPermutation}
use Rattle.std.specs.Option.{option_map}
use Rattle.std.proofs.lemmas.List.{set-get_or, set-set}
use Rattle.std.proofs.lemmas.List.Sorted.{IsPermutation-append_right, IsPermutation-map, IsPermutation-middle, IsPermutation-remove, IsPermutation-sym, IsPermutation-to_front, IsPermutation-trans}
use Rattle.std.proofs.lemmas.Map.Keys.{IsDistinct-IsPermutation}
use native.Mathlib.Decide.{dec_lt}
use Rattle.scc_array.specs.Shelf.{Shelf}
use Rattle.scc_array.proofs.ListsLemmas.{get-below, get-is}
use Rattle.scc_buckets.specs.Bounded.{HasList, IsBounded, IsListed, PutsLast}
use Rattle.scc_common.specs.Contents.{Contents, entries, bucket_count, list_of, lists_of, settings_of, IsUniqueBy}
use Rattle.scc_buckets.specs.Places.{IsSpot, index_of_spot}
use Rattle.scc_common.specs.Routing.{bucket_number}
use Rattle.scc_common.specs.Sizes.{IsLawful}
use Rattle.scc_buckets.specs.declared.place.Place.{Place}
use Rattle.scc_buckets.proofs.Bounds as bounds
use Rattle.scc_buckets.proofs.FindingLemmas.{position_cons, position_hit}
use Rattle.scc_buckets.proofs.Inserts.{none_left, unique-inserted}
use Rattle.scc_buckets.proofs.PairSplits.{by_answer}
use Rattle.scc_buckets.proofs.Removes.{unique-removed}
use Rattle.scc_buckets.proofs.Spots.{place-get}
use Rattle.scc_table.specs.TwoArrays.{together, waits_at, TwoArrays}
use Rattle.scc_table.proofs.arrays.CurrentChanges.{count-same, own-list, own-lists, own-settings, own-refused, spilled-together}
use Rattle.scc_table.proofs.arrays.JoinedLists.{count-together, settings-together}
use Rattle.scc_table.proofs.relocations.Fields.{count-is, list-is}
use Rattle.scc_table.proofs.removals.OneList.{entries-are, flat-permuted, list-same, removed-is}

-- an entry that is added at the end of one list is one more among the entries of all lists
perm-last : {X : Type 0} (ls : List (List X)) (i : ℕ) (e : X) → i < length ls → IsPermutation (e ∷ flat_map (λ l. l) ls) (flat_map (λ l. l) (set ls i (get_or ls i [] ++ e ∷ [])))
perm-last [] i e h = absurd (omega arith)
perm-last (l ∷ ls) zero e h =
    let r = flat_map (λ x. x) ls in
    subst (IsPermutation (e ∷ (l ++ r))) (sym (append_assoc l (e ∷ []) r)) (IsPermutation-sym (l ++ e ∷ r) (e ∷ (l ++ r)) (IsPermutation-middle l e r))
perm-last (l ∷ ls) (suc i) e h =
    let r = flat_map (λ x. x) ls in
    let s = flat_map (λ x. x) (set ls i (get_or ls i [] ++ e ∷ [])) in
    IsPermutation-trans (e ∷ (l ++ r)) (l ++ e ∷ r) (l ++ s) (IsPermutation-sym (l ++ e ∷ r) (e ∷ (l ++ r)) (IsPermutation-middle l e r)) (IsPermutation-append_right l (e ∷ r) s (perm-last ls i e (omega arith)))

-- contents d, which are c after a change to the list of bucket i
module _ {E K S : Type 0} {eq : K → K → Bool} (laws : IsEquivalence eq) (key : E → K) (c d : Contents E S) (i : ℕ) (l : i < bucket_count c) (unique : IsUniqueBy eq key c) where
  -- keys stay distinct if a new entry is added at the end of the list of bucket i
  pub unique-last : (e : E) → lists_of d ≡ set (lists_of c) i (list_of c i ++ e ∷ []) → position (λ x. eq (key e) (key x)) (entries c) ≡ None → IsUniqueBy eq key d
  unique-last e lists absent =
      let ls = lists_of c in
      let put : IsPermutation (e ∷ flat_map (λ x. x) ls) (flat_map (λ x. x) (set ls i (get_or ls i [] ++ e ∷ []))) = perm-last ls i e (omega (arith, count-is c)) in
      let all : entries d ≡ flat_map (λ x. x) (set ls i (get_or ls i [] ++ e ∷ [])) = entries-are d ∙ ap (flat_map (λ x. x)) (lists ∙ ap (λ z. set ls i (z ++ e ∷ [])) (list-is c i)) in
      unique-inserted laws key e (entries c) (entries d) unique absent (subst (IsPermutation (e ∷ entries c)) (sym all) (subst (λ z. IsPermutation (e ∷ z) (flat_map (λ x. x) (set ls i (get_or ls i [] ++ e ∷ [])))) (sym (entries-are c)) put))

  -- keys stay distinct if an entry of the list of bucket i is moved to its end
  pub unique-moved : (s : ℕ) (e : E) → slice_get (list_of c i) s ≡ Some e → lists_of d ≡ set (lists_of c) i (remove (list_of c i) s ++ e ∷ []) → IsUniqueBy eq key d
  unique-moved s e got lists =
      let ls = lists_of c in
      let li = list_of c i in
      let there = get-below li s e got in
      let one : IsPermutation li (remove li s ++ e ∷ []) =
      IsPermutation-trans li (e ∷ remove li s) (remove li s ++ e ∷ []) (IsPermutation-remove li s e there (get-is li s e e got)) (IsPermutation-sym (remove li s ++ e ∷ []) (e ∷ remove li s) (IsPermutation-to_front (remove li s) e)) in
      let all = flat-permuted ls i li (remove li s ++ e ∷ []) (omega (arith, count-is c)) one in
      let same : set ls i li ≡ ls = ap (set ls i) (list-is c i) ∙ set-get_or ls i [] in
      let was : flat_map (λ x. x) (set ls i li) ≡ entries c = ap (flat_map (λ x. x)) same ∙ sym (entries-are c) in
      let now : flat_map (λ x. x) (set ls i (remove li s ++ e ∷ [])) ≡ entries d = sym (entries-are d ∙ ap (flat_map (λ x. x)) lists) in
      let moved : IsPermutation (entries c) (entries d) = subst (λ z. IsPermutation z (entries d)) was (subst (IsPermutation (flat_map (λ x. x) (set ls i li))) now all) in
      IsDistinct-IsPermutation eq laws.symm (map key (entries c)) (map key (entries d)) (IsPermutation-map key (entries c) (entries d) moved) unique

  -- keys stay distinct if the first entry of the list is removed and a new entry is added at its end
  pub unique-pushed : (x : E) (rest : List E) (e : E) → list_of c i ≡ x ∷ rest → lists_of d ≡ set (lists_of c) i (rest ++ e ∷ []) → position (λ y. eq (key e) (key y)) (entries c) ≡ None → IsUniqueBy eq key d
  unique-pushed x rest e is lists absent =
      let ls = lists_of c in
      let q : Place = record { bucket = i; slot = 0 } in
      let n : length (list_of c i) ≡ suc (length rest) = ap length is in
      let within : IsSpot c q = record { bucket = l; slot = omega arith } in
      let got : slice_get (list_of c i) 0 ≡ Some x = ap (λ z. slice_get z 0) is in
      let there = place-get c q within x got in
      let k = index_of_spot c q in
      let less = unique-removed laws key (entries c) k x (get-below (entries c) k x there) (get-is (entries c) k x x there) unique in
      let gone = bounds.absent-removed (λ y. eq (key e) (key y)) (entries c) k absent in
      let ms = set ls i rest in
      let lm : i < length ls = omega (arith, count-is c) in
      let left : flat_map (λ y. y) ms ≡ remove (entries c) k = ap (λ z. flat_map (λ y. y) (set ls i (remove z 0))) (sym is) ∙ removed-is c d q within in
      let here : get_or ms i [] ≡ rest = get_or-set_same ls i rest [] lm in
      let both : set ms i (get_or ms i [] ++ e ∷ []) ≡ lists_of d = ap (λ z. set ms i (z ++ e ∷ [])) here ∙ set-set ls i rest (rest ++ e ∷ []) ∙ sym lists in
      let put : IsPermutation (e ∷ flat_map (λ y. y) ms) (flat_map (λ y. y) (set ms i (get_or ms i [] ++ e ∷ []))) = perm-last ms i e (omega (arith, length-set ls i rest)) in
      let now : flat_map (λ y. y) (set ms i (get_or ms i [] ++ e ∷ [])) ≡ entries d = ap (flat_map (λ y. y)) both ∙ sym (entries-are d) in
      unique-inserted laws key e (remove (entries c) k) (entries d) less gone (subst (IsPermutation (e ∷ remove (entries c) k)) now (subst (λ z. IsPermutation (e ∷ z) (flat_map (λ y. y) (set ms i (get_or ms i [] ++ e ∷ [])))) left put))

-- bucket i doesn't wait: what its list becomes in the current array, it becomes in both arrays
module _ {E S : Type 0} (hash : E → ℕ) (c d : Contents E S) (ws : List Bool) (olds : List (Shelf E)) (i : ℕ) (down : waits_at ws i ≡ false) (bounded : IsBounded (together hash c ws olds)) where
  pub own-bounded : IsBounded c
  own-bounded = let z = spilled-together hash c ws olds in omega arith

  pub own-has_list : (es : List E) → HasList c i es d → HasList (together hash c ws olds) i es (together hash d ws olds)
  own-has_list es t = record {
    lists = own-lists c d i es t.lists t.settings hash ws olds down;
    settings = own-settings c d i es t.lists t.settings hash ws olds down;
    refused = own-refused c d i es t.lists t.settings hash ws olds down t.refused;
    bounded = let a = spilled-together hash c ws olds in let b = spilled-together hash d ws olds in let n = t.bounded in omega arith;
  }

  pub own-puts_last : (e : E) (o : Option E) → PutsLast c i e o d → PutsLast (together hash c ws olds) i e o (together hash d ws olds)
  own-puts_last e None t =
      let here = own-list hash c ws olds i down in
      (subst (λ z. length z < 32) (sym here) t.0, subst (λ z. HasList (together hash c ws olds) i (z ++ e ∷ []) (together hash d ws olds)) (sym here) (own-has_list (list_of c i ++ e ∷ []) t.1))
  own-puts_last e (Some x) t =
      let here = own-list hash c ws olds i down in
      (subst (λ z. 32 ≤ length z) (sym here) t.0, (t.1.0, here ∙ t.1.1, own-has_list (t.1.0 ++ e ∷ []) t.1.2))

-- `IsListed` stays if one list becomes a list of at most 32 entries, each in the bucket of its hash
pub listed-after : {E S : Type 0} (hash : E → ℕ) (c d : Contents E S) (i : ℕ) (es : List E) → i < bucket_count c → HasList c i es d → IsListed hash c → length es ≤ 32 → ((j : ℕ) (e : E) → slice_get es j ≡ Some e → bucket_number (settings_of d).skipped (bucket_count d) (hash e) ≡ i)
    → IsListed hash d
listed-after hash c d i es l t listed short routed =
    let count = count-same c d i es t.lists in
    let here : list_of d i ≡ es = list-same c d i es t.lists l in
    let there = λ (k : ℕ) (ne : k ≢ i). list-is d k ∙ ap (λ z. get_or z k []) t.lists ∙ get_or-set_other (lists_of c) i k es [] ne ∙ sym (list-is c k) in
    record {
      lawful = subst IsLawful (sym count) listed.lawful;
      bounded = t.bounded;
      short = λ k. elim (dec_lt k i) [
        | yes r ↦ let n : length (list_of d k) ≡ length (list_of c k) = ap length (there k (omega arith)) in let m = listed.short k in omega arith
        | no r ↦ elim (dec_lt i k) [
          | yes s ↦ let n : length (list_of d k) ≡ length (list_of c k) = ap length (there k (omega arith)) in let m = listed.short k in omega arith
          | no s ↦ let same : k ≡ i = omega arith in let n : length (list_of d k) ≡ length es = ap (λ m. length (list_of d m)) same ∙ ap length here in omega arith
        ]
      ];
      routed = λ k j e got.
          let apart = λ (ne : k ≢ i). ap (λ s. bucket_number s.skipped (bucket_count d) (hash e)) t.settings ∙ ap (λ m. bucket_number (settings_of c).skipped m (hash e)) count
          ∙ listed.routed k j e (ap (λ z. slice_get z j) (sym (there k ne)) ∙ got) in
          elim (dec_lt k i) [
            | yes r ↦ apart (omega arith)
            | no r ↦ elim (dec_lt i k) [
              | yes s ↦ apart (omega arith)
              | no s ↦ let same : k ≡ i = omega arith in routed j e (ap (λ z. slice_get z j) (sym (ap (list_of d) same ∙ here)) ∙ got) ∙ sym same
            ]
          ];
    }

-- an element of a list after a removal is an element of the list before
get-removed : {X : Type 0} (xs : List X) (s j : ℕ) (e : X) → slice_get (remove xs s) j ≡ Some e → (k : ℕ) × (slice_get xs k ≡ Some e)
get-removed [] zero j e got = (j, got)
get-removed [] (suc s) j e got = (j, got)
get-removed (x ∷ xs) zero j e got = (suc j, got)
get-removed (x ∷ xs) (suc s) zero e got = (zero, got)
get-removed (x ∷ xs) (suc s) (suc j) e got = let r = get-removed xs s j e got in (suc r.0, r.1)

removed-less : {X : Type 0} (xs : List X) (s : ℕ) → length (remove xs s) ≤ length xs
removed-less [] zero = omega arith
removed-less [] (suc s) = omega arith
removed-less (x ∷ xs) zero = omega arith
removed-less (x ∷ xs) (suc s) = let r = removed-less xs s in omega arith

-- `IsListed` stays if one entry is removed from a list
pub listed-removed : {E S : Type 0} (hash : E → ℕ) (c d : Contents E S) (i s : ℕ) → i < bucket_count c → HasList c i (remove (list_of c i) s) d → IsListed hash c → IsListed hash d
listed-removed hash c d i s l t listed =
    let es = remove (list_of c i) s in
    let count = count-same c d i es t.lists in
    let less = removed-less (list_of c i) s in
    let short = listed.short i in
    listed-after hash c d i es l t listed (omega arith)
    (λ j e got.
    let r = get-removed (list_of c i) s j e got in
    ap (λ z. bucket_number z.skipped (bucket_count d) (hash e)) t.settings ∙ ap (λ m. bucket_number (settings_of c).skipped m (hash e)) count ∙ listed.routed i r.0 e r.1)

module _ {X : Type 0} (p : X → Bool) where
  absent-first : (x : X) (xs : List X) → position p (x ∷ xs) ≡ None → (p x ≡ false) × (position p xs ≡ None)
  absent-first x xs n =
      by_answer (p x) (λ y. absurd (let z : Some 0 ≡ None = sym (position_hit p x xs y) ∙ n in cc))
      (λ y. (y, none_left (position p xs) (sym (position_cons p x xs y) ∙ n)))

  absent-parts : (xs ys : List X) → position p (xs ++ ys) ≡ None → (position p xs ≡ None) × (position p ys ≡ None)
  absent-parts [] ys n = (refl, n)
  absent-parts (x ∷ xs) ys n =
      let f = absent-first x (xs ++ ys) n in
      let r = absent-parts xs ys f.1 in
      (position_cons p x xs f.0 ∙ ap (option_map suc) r.0, r.1)

  absent-one : (ls : List (List X)) (i : ℕ) → position p (flat_map (λ l. l) ls) ≡ None → position p (get_or ls i []) ≡ None
  absent-one [] i n = refl
  absent-one (l ∷ ls) zero n = (absent-parts l (flat_map (λ x. x) ls) n).0
  absent-one (l ∷ ls) (suc i) n = absent-one ls i (absent-parts l (flat_map (λ x. x) ls) n).1

-- if no entry of c passes p, no entry of a list of c passes p
pub absent-list : {E S : Type 0} (c : Contents E S) (p : E → Bool) (i : ℕ) → position p (entries c) ≡ None → position p (list_of c i) ≡ None
absent-list c p i n = ap (position p) (list-is c i) ∙ absent-one p (lists_of c) i (ap (position p) (sym (entries-are c)) ∙ n)

-- `PutsLast` gives bucket i a new list
pub puts-list : {E S : Type 0} (c d : Contents E S) (i : ℕ) (e : E) (o : Option E) → PutsLast c i e o d → (es : List E) × HasList c i es d
puts-list c d i e None t = (list_of c i ++ e ∷ [], t.1)
puts-list c d i e (Some x) t = (t.1.0 ++ e ∷ [], t.1.2)

-- `PutsLast` keeps keys distinct if the key of e is missing
pub unique-puts : {E K S : Type 0} {eq : K → K → Bool} (laws : IsEquivalence eq) (key : E → K) (c d : Contents E S) (i : ℕ) → i < bucket_count c → IsUniqueBy eq key c → (e : E) (o : Option E) → PutsLast c i e o d
    → position (λ x. eq (key e) (key x)) (entries c) ≡ None → IsUniqueBy eq key d
unique-puts laws key c d i l unique e None t absent = unique-last laws key c d i l unique e t.1.lists absent
unique-puts laws key c d i l unique e (Some x) t absent = unique-pushed laws key c d i l unique x t.1.0 e t.1.1 t.1.2.lists absent

module _ {E S : Type 0} (hash : E → ℕ) (c d : Contents E S) (ws : List Bool) (olds : List (Shelf E)) (arrays : TwoArrays hash c ws olds) (i : ℕ) (down : waits_at ws i ≡ false) (l : i < bucket_count c) where
  -- `IsListed` holds of both arrays after the change if it held before, and holds of the current array afterwards
  pub own-listed : (es : List E) → HasList c i es d → IsListed hash (together hash c ws olds) → IsListed hash d → IsListed hash (together hash d ws olds)
  own-listed es t listed ours =
      let u = together hash c ws olds in
      let v = together hash d ws olds in
      let there = own-has_list hash c d ws olds i down listed.bounded es t in
      let here : list_of d i ≡ es = list-same c d i es t.lists l in
      let lu : i < bucket_count u = omega (arith, count-together hash c ws olds arrays.flags) in
      let settings = settings-together hash d ws olds in
      let count : bucket_count v ≡ bucket_count d = count-same u v i es there.lists ∙ count-together hash c ws olds arrays.flags ∙ sym (count-same c d i es t.lists) in
      listed-after hash u v i es lu there listed (let n : length (list_of d i) ≡ length es = ap length here in let m = ours.short i in omega arith)
      (λ j e got.
      ap (λ s. bucket_number s.skipped (bucket_count v) (hash e)) settings ∙ ap (λ m. bucket_number (settings_of d).skipped m (hash e)) count
      ∙ ours.routed i j e (ap (λ z. slice_get z j) here ∙ got))
