-- Tables without overflow, list by list.
use Rattle.std.proofs.Common.{◌≡◌, ℕ, zero, suc, ◌<◌, ◌≤◌, Bool, true, false, List, [], ◌∷◌, ◌++◌, length, map, set, get_or, refl, sym, ap, ◌∙◌, arith, rules, nat_lt, get_or-set_same, Some, None}
use Rattle.std.specs.Cmp.{IsEquivalence}
use Rattle.std.specs.List.{flat_map, insert, position, remove, slice_get, IsDistinct, AllByRecursion}
use Rattle.std.specs.Option.{option_map}
use Rattle.std.proofs.lemmas.List.{append-nil, get_or_default, get_or_past, length-map, map-set, nil_from_length}
use Rattle.std.proofs.lemmas.List.Sums.{sum_by-set, get_or-le-sum_by}
use Rattle.std.proofs.lemmas.List.Edits.{insert_end, length-remove}
use Rattle.std.proofs.lemmas.List.Sorted.{IsPermutation-remove, IsPermutation-map}
use Rattle.std.proofs.lemmas.Map.Keys.{IsDistinct-head, IsDistinct-IsPermutation}
use native.Mathlib.Decide.{dec_lt}
use Rattle.scc_array.proofs.ListsLemmas.{get-below, get-is}
use Rattle.scc_buckets.specs.Bounded.{IsBounded, IsListed, IsResized, IsUnlisted, HasList, HasListsOf}
use Rattle.scc_common.specs.Routing.{bucket_number}
use Rattle.scc_common.specs.Sizes.{IsBucketCount}
use Rattle.scc_common.specs.Contents.{Contents, Settings, entries, bucket_count, settings_of, notes_of, list_of, lists_of, overflow_of, IsRouted}
use Rattle.scc_buckets.specs.OneList.{IsPutIn}
use Rattle.scc_buckets.specs.declared.place.Place.{Place}
use Rattle.scc_buckets.specs.Tables.{AllEmpty, IsBuckets, overflow_in}
use Rattle.scc_array.specs.Shelf.{Shelf, shelf_entries, empty_shelf, with_slot, with_entry, next_slot, without_slot}
use Rattle.scc_buckets.proofs.FindingLemmas.{position_hit, position_cons}
use Rattle.scc_buckets.proofs.Inserts.{by_answer, none_left}
use Rattle.scc_buckets.proofs.MakingLemmas.{sums-empty}
use Rattle.scc_buckets.proofs.Removes.{entries_without, overflow_without}
use Rattle.scc_buckets.proofs.Views.{view_of, count-view, list-view, lists-view, refused-view, settings-view, spilled-view}

nowhere : {X : Type 0} (p : X → Bool) (i : ℕ) → position p (get_or [] i []) ≡ None
nowhere p zero = refl
nowhere p (suc i) = refl

-- if no element of a list passes, no element after the first passes
pub absent-rest : {X : Type 0} (p : X → Bool) (x : X) (xs : List X) → position p (x ∷ xs) ≡ None → position p xs ≡ None
absent-rest p x xs n = by_answer (p x)
    (λ y. absurd (let z : Some 0 ≡ None = sym (position_hit p x xs y) ∙ n in cc))
    (λ y. none_left (position p xs) (sym (position_cons p x xs y) ∙ n))

pub absent-removed : {X : Type 0} (p : X → Bool) (xs : List X) (i : ℕ) → position p xs ≡ None → position p (remove xs i) ≡ None
absent-removed p [] zero n = n
absent-removed p [] (suc i) n = n
absent-removed p (x ∷ xs) zero n = absent-rest p x xs n
absent-removed p (x ∷ xs) (suc i) n = by_answer (p x)
    (λ y. absurd (let z : Some 0 ≡ None = sym (position_hit p x xs y) ∙ n in cc))
    (λ y. position_cons p x (remove xs i) y ∙ ap (λ o. option_map suc o) (absent-removed p xs i (absent-rest p x xs n)))

-- if the bucket has a free slot, an entry that is put in stands in the next slot
pub slot-entry : {E : Type 0} (b : Shelf E) (e : E) (t : ℕ) → length b.slots < 32 → (with_slot b e t ≡ record (with_entry b e t) { room = (with_slot b e t).room }) × (next_slot b ≡ length b.slots)
slot-entry b e t l = let c : nat_lt (length b.slots) 32 ≡ true = search rules in rw c (refl, refl)

pub stored-slot : {E : Type 0} (b d : Shelf E) (e : E) (t : ℕ) → length b.slots < 32 → d ≡ with_slot b e t → d ≡ record (with_entry b e t) { room = d.room }
stored-slot b d e t l w = w ∙ (slot-entry b e t l).0 ∙ ap (λ x. let r : Shelf _ = record (with_entry b e t) { room = x.room } in r) (sym w)

apart-none : {E K : Type 0} (eq : K → K → Bool) (key : E → K) (k : K) (es : List E) → AllByRecursion (λ y. eq k y ≡ false) (map key es) → position (λ e. eq k (key e)) es ≡ None
apart-none eq key k [] h = refl
apart-none {E} eq key k (e ∷ es) h = position_cons (λ (x : E). eq k (key x)) e es h.0 ∙ ap (option_map suc) (apart-none eq key k es h.1)

-- no other entry has the key of an entry that is taken out
pub gone : {E K : Type 0} {eq : K → K → Bool} (laws : IsEquivalence eq) (key : E → K) (es : List E) (i : ℕ) (x : E) → slice_get es i ≡ Some x → IsDistinct eq (map key es) → position (λ e. eq (key x) (key e)) (remove es i) ≡ None
gone {eq = eq} laws key es i x got d =
    apart-none eq key (key x) (remove es i) (IsDistinct-head eq (key x) (map key (remove es i)) (IsDistinct-IsPermutation eq laws.symm (map key es) (key x ∷ map key (remove es i)) (IsPermutation-map key es (x ∷ remove es i) (IsPermutation-remove es i x (get-below es i x got) (get-is es i x x got))) d))

pub first-is : {X : Type 0} (xs : List X) (x : X) → slice_get xs 0 ≡ Some x → xs ≡ x ∷ remove xs 0
first-is [] x e = absurd (let n : None ≡ Some x = e in cc)
first-is (y ∷ xs) x e = let s : y ≡ x = cc in ap (λ z. z ∷ xs) s

set-twice : {X : Type 0} (xs : List X) (i : ℕ) (x y : X) → set (set xs i x) i y ≡ set xs i y
set-twice [] zero x y = refl
set-twice [] (suc i) x y = refl
set-twice (z ∷ xs) zero x y = refl
set-twice (z ∷ xs) (suc i) x y = ap (λ w. z ∷ w) (set-twice xs i x y)

module _ {E S : Type 0} (c d : Contents E S) (i : ℕ) (es : List E) (h : HasList c i es d) where
  pub has-list-of : i < bucket_count c → list_of d i ≡ es
  unfolding list_of lists_of bucket_count
  has-list-of l = ap (λ z. get_or z i []) h.lists ∙ get_or-set_same c.lists i es [] l

  -- if one list changes twice, the second change counts
  pub has-list-then : (f : Contents E S) (fs : List E) → HasList d i fs f → HasList c i fs f
  has-list-then f fs k = record {
    lists = k.lists ∙ ap (λ z. set z i fs) h.lists ∙ set-twice (lists_of c) i es fs;
    settings = k.settings ∙ h.settings;
    refused = k.refused ∙ h.refused;
    bounded = k.bounded;
  }

-- an entry that is put past the end of a short list stands at its end
pub put-last : {E S : Type 0} (c : Contents E S) (i : ℕ) (e : E) (p : Place) (d : Contents E S) → IsPutIn c i e d p → IsBounded c → p.slot ≡ length (list_of c i) → length (list_of c i) < 32 → HasList c i (list_of c i ++ e ∷ []) d
put-last c i e p d put bounded last short = record {
  lists = put.lists ∙ ap (set (lists_of c) i) (ap (λ k. insert (list_of c i) k e) last ∙ insert_end (list_of c i) e);
  settings = put.settings;
  refused = put.refused;
  bounded = let z = put.short short in omega (arith, bounded);
}

module _ {E S : Type 0} (bs : List (Shelf E)) (s : Settings S) (c : Contents E S) {f : Bool × Bool} (view : view_of f bs s ≡ c) (i : ℕ) (b : Shelf E) (l : i < length bs) (at : b ≡ get_or bs i b) (bounded : IsBounded c) where
  pub overflow-less : length b.overflow ≡ 0
  overflow-less =
      let over : Shelf E → ℕ = λ x. length x.overflow in
      let m = get_or-le-sum_by over bs i b l in
      let e : over (get_or bs i b) ≡ over b = ap over (sym at) in
      let n : overflow_in bs ≡ 0 = sym (spilled-view bs s c view) ∙ bounded in
      omega arith

  pub slots-are : shelf_entries b ≡ b.slots
  slots-are = ap (λ z. b.slots ++ z) (nil_from_length b.overflow overflow-less) ∙ append-nil b.slots

  -- a change of one bucket is a change of one list
  pub has-list : (d : Shelf E) (es : List E) → shelf_entries d ≡ es → length d.overflow ≡ length b.overflow → HasList c i es (view_of f (set bs i d) s)
  unfolding lists_of overflow_of settings_of notes_of
  has-list d es w o = record {
    lists = map-set shelf_entries bs i d ∙ ap (set (map shelf_entries bs) i) w ∙ ap (λ z. set z i es) (sym (lists-view bs s c view));
    settings = sym (settings-view bs s c view);
    refused = sym (refused-view bs s c view);
    bounded =
        let over : Shelf E → ℕ = λ x. length x.overflow in
        let sums = sum_by-set over bs i d b l in
        let e : over (get_or bs i b) ≡ over b = ap over (sym at) in
        let n : overflow_in bs ≡ 0 = sym (spilled-view bs s c view) ∙ bounded in
        omega (arith, o);
  }

  pub pushed-list : (d : Shelf E) (e : E) (t : ℕ) → d ≡ with_slot b e t → shelf_entries d ≡ shelf_entries b ++ e ∷ []
  pushed-list d e t w =
      let none = nil_from_length b.overflow overflow-less in
      ap shelf_entries w ∙ ap (λ z. (b.slots ++ e ∷ []) ++ z) none ∙ append-nil (b.slots ++ e ∷ []) ∙ ap (λ z. z ++ e ∷ []) (sym slots-are)

  pub removed-list : (d : Shelf E) (k : ℕ) → k < length (shelf_entries b) → d ≡ without_slot b k → HasList c i (remove (list_of c i) k) (view_of f (set bs i d) s)
  removed-list d k lk w =
      let none = overflow-less in
      let here = list-view bs s c view i b l at in
      let low : k < length b.slots = let m = ap length slots-are in omega arith in
      has-list d (remove (list_of c i) k) (ap shelf_entries w ∙ entries_without b k lk ∙ ap (λ z. remove z k) (sym here)) (ap (λ x. length x.overflow) w ∙ (overflow_without b k lk).0 low)

  pub removed-short : (d : Shelf E) (k : ℕ) → k < length (shelf_entries b) → d ≡ without_slot b k → length b.slots ≤ 32 → length (list_of (view_of f (set bs i d) s) i) < 32
  removed-short d k lk w h =
      let here = list-view bs s c view i b l at in
      let il : i < bucket_count c = rw (count-view bs s c view) l in
      let m = ap length slots-are in
      let n = length-remove (shelf_entries b) k lk in
      let r : length (remove (list_of c i) k) ≡ length (remove (shelf_entries b) k) = ap (λ z. length (remove z k)) here in
      rw (has-list-of c (view_of f (set bs i d) s) i (remove (list_of c i) k) (removed-list d k lk w) il) (omega arith)

-- an empty table is bounded, and is a resize of a table without entries
pub bounded-fresh : {E S : Type 0} (f : Bool × Bool) (bs : List (Shelf E)) (s : Settings S) → AllEmpty bs → IsBounded (view_of f bs s)
unfolding overflow_of
bounded-fresh f bs s h = (sums-empty bs h).1

pub resized-fresh : {E S : Type 0} (hash : E → ℕ) (f : Bool × Bool) (bs : List (Shelf E)) (s : Settings S) (c : Contents E S) → entries c ≡ [] → AllEmpty bs → IsBucketCount (length bs) → s ≡ settings_of c → IsResized hash c (view_of f bs s)
unfolding list_of
resized-fresh {E} {S} hash f bs s c none h a e =
    let d : Contents E S = view_of f bs s in
    record {
      array = rw (count-view bs s d refl) a;
      lists = record {
        count = refl;
        each = λ i l.
            let lb : i < length bs = rw (count-view bs s d refl) at l in
            let b : Shelf E = get_or bs i empty_shelf in
            let at : b ≡ get_or bs i b = get_or_default bs i empty_shelf b lb in
            list-view bs s d refl i b lb at ∙ (h.empty i b lb at).0 ∙ rw none refl;
        settings = settings-view bs s d refl ∙ e;
      };
      bounded = bounded-fresh f bs s h;
    }

-- without an array, no list has an entry that passes
pub unlisted-none : {E S : Type 0} (p : E → Bool) (c : Contents E S) (i : ℕ) → bucket_count c ≡ 0 → IsUnlisted p c i
unfolding list_of bucket_count entries
unlisted-none p c i n =
    let none : c.lists ≡ [] = nil_from_length c.lists n in
    record {
      list = ap (λ z. position p (get_or z i [])) none ∙ nowhere p i;
      all = ap (λ z. position p (flat_map (λ l. l) z)) none;
    }

-- an empty list has no element
pub none-there : {X : Type 0} {C : Type 0} (xs : List X) (j : ℕ) (x : X) → xs ≡ [] → slice_get xs j ≡ Some x → C
none-there xs j x none got = let l = get-below xs j x got in absurd (let n : length xs ≡ 0 = ap length none in omega arith)

-- the lists of a table, with overflow or without
module _ {E S : Type 0} (hash : E → ℕ) (n o : ℕ) (bs : List (Shelf E)) (s : Settings S) (c : Contents E S) {f : Bool × Bool} (view : view_of f bs s ≡ c) (h : IsBuckets hash s.skipped bs n o) where
  past-list : (i : ℕ) → length bs ≤ i → list_of c i ≡ []
  unfolding list_of
  past-list i l = ap (λ (x : Contents E S). get_or x.lists i []) (sym view) ∙ get_or_past (map shelf_entries bs) i [] (omega (arith, length-map bs shelf_entries))

  -- each entry lies in the bucket of its hash
  pub routed-view : IsRouted hash c
  routed-view = record {
    routed = λ i j e got. elim (dec_lt i (length bs)) [
      | yes l ↦
          let b : Shelf E = get_or bs i empty_shelf in
          let at : b ≡ get_or bs i b = get_or_default bs i empty_shelf b l in
          let here : slice_get (shelf_entries b) j ≡ Some e = rw (list-view bs s c view i b l at) at got in
          let is : e ≡ get_or (shelf_entries b) j e = get-is (shelf_entries b) j e e here in
          rw (settings-view bs s c view, count-view bs s c view) (ap (λ z. bucket_number s.skipped (length bs) (hash z)) is ∙ (h.own i b l at).routed j e (get-below (shelf_entries b) j e here))
      | no l ↦ none-there (list_of c i) j e (past-list i (omega arith)) got
    ];
  }

  pub listed-view : IsBounded c → IsListed hash c
  listed-view bounded = record {
    lawful = rw (count-view bs s c view) h.sized;
    bounded = bounded;
    short = λ i. elim (dec_lt i (length bs)) [
      | yes l ↦
          let b : Shelf E = get_or bs i empty_shelf in
          let at : b ≡ get_or bs i b = get_or_default bs i empty_shelf b l in
          let same = ap length (list-view bs s c view i b l at ∙ slots-are bs s c view i b l at bounded) in
          let few = (h.own i b l at).within in
          omega arith
      | no l ↦ let same : length (list_of c i) ≡ 0 = ap length (past-list i (omega arith)) in omega arith
    ];
    routed = routed-view.routed;
  }

pub keeps-count : {E S : Type 0} (c d : Contents E S) → HasListsOf c d → bucket_count d ≡ bucket_count c
unfolding bucket_count lists_of
keeps-count c d k = ap length k.lists

pub keeps-entries : {E S : Type 0} (c d : Contents E S) → HasListsOf c d → entries d ≡ entries c
unfolding entries lists_of
keeps-entries c d k = ap (flat_map (λ l. l)) k.lists
