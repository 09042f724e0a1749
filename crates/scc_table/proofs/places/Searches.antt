-- A search over two arrays.
use Rattle.std.proofs.Common.{◌≡◌, ◌≢◌, ◌==◌, ℕ, zero, suc, ◌+◌, ◌<◌, ◌≤◌, Bool, true, false, Option, Some, None, List, [], ◌∷◌, ◌++◌, length, take, get_or, refl, sym, ap, ◌∙◌, subst, arith}
use Rattle.std.specs.List.{filter, flat_map, position, slice_get}
use Rattle.std.specs.Option.{option_map}
use Rattle.std.proofs.lemmas.List.{get_or_past}
use native.Mathlib.Decide.{dec_lt}
use Rattle.scc_array.specs.Shelves.{shelf_of}
use Rattle.scc_array.specs.Shelf.{Shelf, shelf_entries}
use Rattle.scc_array.proofs.ListsLemmas.{get-index}
use Rattle.scc_array.proofs.Search.{none_is}
use Rattle.scc_common.specs.Contents.{Contents, entries, bucket_count, list_of, lists_of, settings_of, waiting_of, owed_of, IsRouted}
use Rattle.scc_buckets.specs.Places as spots
use Rattle.scc_buckets.specs.Pour.{destined_for}
use Rattle.scc_common.specs.Routing.{bucket_number}
use Rattle.scc_buckets.specs.Tables.{IsOwn}
use Rattle.scc_buckets.specs.declared.place.Place.{Place}
use Rattle.scc_buckets.proofs.FindingLemmas.{HashOf, NoneOf, position_cons, position_flat, position_hit, position-below}
use Rattle.scc_buckets.proofs.PairSplits.{by_answer}
use Rattle.scc_buckets.proofs.Pours.{destined_append, destined_here}
use Rattle.scc_table.specs.Places.{IsFoundAt, IsPlace, spot_of}
use Rattle.scc_draining.specs.Stepping.{entries_before}
use Rattle.scc_table.specs.TwoArrays.{target_by, together, TwoArrays, waits_at}
use Rattle.scc_table.proofs.arrays.JoinedLists.{count-together, settings-together}
use Rattle.scc_table.proofs.places.OneList.{destined-own}
use Rattle.scc_table.proofs.places.OldSpots.{old-spot, own-list, own-spot, split-old}
use Rattle.scc_table.proofs.relocations.Preparation.{long-flags, waiting-list}
use Rattle.scc_table.proofs.relocations.Fields.{count-is, list-is}

pub not_true : (b : Bool) → (b ≡ true → ⊥) → b ≡ false
not_true true h = absurd (h refl)
not_true false h = refl

some_left : (o : Option ℕ) (i : ℕ) → option_map suc o ≡ Some i → (j : ℕ) × (o ≡ Some j) × (i ≡ suc j)
some_left None i e = absurd (let z : None ≡ Some i = e in cc)
some_left (Some k) i e = let z : Some (suc k) ≡ Some i = e in let w : suc k ≡ i = cc in (k, refl, sym w)

none_left : (o : Option ℕ) → option_map suc o ≡ None → o ≡ None
none_left None e = refl
none_left (Some k) e = absurd (let z : Some (suc k) ≡ None = e in cc)

module _ {X : Type 0} (p : X → Bool) where
  absent-head : (x : X) (xs : List X) → position p (x ∷ xs) ≡ None → p x ≡ false
  absent-head x xs n = not_true (p x) (λ y. let z : Some 0 ≡ None = sym (position_hit p x xs y) ∙ n in cc)

  absent-tail : (x : X) (xs : List X) → position p (x ∷ xs) ≡ None → position p xs ≡ None
  absent-tail x xs n = none_left (position p xs) (sym (position_cons p x xs (absent-head x xs n)) ∙ n)

  absent-cons : (x : X) (xs : List X) → p x ≡ false → position p xs ≡ None → position p (x ∷ xs) ≡ None
  absent-cons x xs y n = position_cons p x xs y ∙ ap (option_map suc) n

  pub absent-append : (xs ys : List X) → position p xs ≡ None → position p ys ≡ None → position p (xs ++ ys) ≡ None
  absent-append [] ys a b = b
  absent-append (x ∷ xs) ys a b = absent-cons x (xs ++ ys) (absent-head x xs a) (absent-append xs ys (absent-tail x xs a) b)

  pub absent-filter : (q : X → Bool) (xs : List X) → position p xs ≡ None → position p (filter q xs) ≡ None
  absent-filter q [] n = n
  absent-filter q (x ∷ xs) n = by_answer (q x) (λ y. rw y (absent-cons x (filter q xs) (absent-head x xs n) (absent-filter q xs (absent-tail x xs n)))) (λ y. rw y (absent-filter q xs (absent-tail x xs n)))

  -- if no element of xs passes p and x passes p, x is the first element of xs, x and ys that passes p
  pub found-after : (xs : List X) (x : X) (ys : List X) → position p xs ≡ None → p x ≡ true → position p (xs ++ x ∷ ys) ≡ Some (length xs)
  found-after [] x ys n y = position_hit p x ys y
  found-after (z ∷ xs) x ys n y = position_cons p z (xs ++ x ∷ ys) (absent-head z xs n) ∙ ap (option_map suc) (found-after xs x ys (absent-tail z xs n) y)

  pub found-split : (xs : List X) (i : ℕ) → position p xs ≡ Some i → (x : X) × (slice_get xs i ≡ Some x) × (p x ≡ true) × (position p (take i xs) ≡ None)
  found-split [] i e = absurd (let z : None ≡ Some i = e in cc)
  found-split (x ∷ xs) i e = by_answer (p x)
      (λ y.
      let z : Some 0 ≡ Some i = sym (position_hit p x xs y) ∙ e in
      let w : 0 ≡ i = cc in
      (x, ap (slice_get (x ∷ xs)) (sym w), y, ap (λ k. position p (take k (x ∷ xs))) (sym w)))
      (λ y.
      let s = some_left (position p xs) i (sym (position_cons p x xs y) ∙ e) in
      let r = found-split xs s.0 s.1 in
      (r.0, ap (slice_get (x ∷ xs)) s.2 ∙ r.1, r.2, ap (λ k. position p (take k (x ∷ xs))) s.2 ∙ absent-cons x (take s.0 xs) y r.3))

  absent-flat : (bs : List (Shelf X)) → ((k : ℕ) → k < length bs → position p (shelf_entries (shelf_of bs k)) ≡ None) → position p (flat_map shelf_entries bs) ≡ None
  absent-flat [] f = refl
  absent-flat (b ∷ bs) f = absent-append (shelf_entries b) (flat_map shelf_entries bs) (f 0 (omega arith)) (absent-flat bs (λ k l. f (suc k) (omega arith)))

  absent-front : (bs : List (Shelf X)) (j : ℕ) → ((k : ℕ) → k < length bs → k < j → position p (shelf_entries (shelf_of bs k)) ≡ None) → position p (flat_map shelf_entries (take j bs)) ≡ None
  absent-front [] zero f = refl
  absent-front [] (suc j) f = refl
  absent-front (b ∷ bs) zero f = refl
  absent-front (b ∷ bs) (suc j) f = absent-append (shelf_entries b) (flat_map shelf_entries (take j bs)) (f 0 (omega arith) (omega arith)) (absent-front bs j (λ k l m. f (suc k) (omega arith) (omega arith)))

-- an old bucket other than that of the hash h has no entry that passes p
absent-own : {E : Type 0} (p : E → Bool) (hash : E → ℕ) (h t m j : ℕ) (b : Shelf E) → HashOf p hash h → IsOwn hash t m j b → j ≢ bucket_number t m h → position p (shelf_entries b) ≡ None
absent-own p hash h t m j b a o n = none_is p (shelf_entries b) (λ k d l. not_true _ (λ w. n (sym (o.routed k d l) ∙ ap (bucket_number t m) (a.same _ w))))

default-same : {X : Type 0} (xs : List X) (i : ℕ) (x y : X) → i < length xs → get_or xs i x ≡ get_or xs i y
default-same [] i x y l = absurd (omega arith)
default-same (z ∷ xs) zero x y l = refl
default-same (z ∷ xs) (suc i) x y l = default-same xs i x y (omega arith)

-- if each entry stands in the bucket of its hash, the first entry that passes p stands in bucket i, the bucket of h
module _ {E S : Type 0} (hash : E → ℕ) (d : Contents E S) (routed : IsRouted hash d) (p : E → Bool) (h i : ℕ) (a : HashOf p hash h) (at : i ≡ bucket_number (settings_of d).skipped (bucket_count d) h) (l : i < bucket_count d) where
  elsewhere : (j : ℕ) (e : List E) → j < length (lists_of d) → j ≢ i → NoneOf p (get_or (lists_of d) j e)
  elsewhere j e lj ne = record {
    fails = λ k x lk.
        let xs = get_or (lists_of d) j e in
        not_true (p (get_or xs k x)) (λ w.
        let y = get_or xs k x in
        let same : xs ≡ list_of d j = default-same (lists_of d) j e [] lj ∙ sym (list-is d j) in
        let got : slice_get (list_of d j) k ≡ Some y = ap (λ z. slice_get z k) (sym same) ∙ get-index xs k y lk (default-same xs k x y lk) in
        ne (sym (routed.routed j k y got) ∙ ap (bucket_number (settings_of d).skipped (bucket_count d)) (a.same y w) ∙ sym at));
  }

  pub position-routed : position p (entries d) ≡ option_map (λ k. length (flat_map (λ x. x) (take i (lists_of d))) + k) (position p (list_of d i))
  unfolding entries lists_of list_of bucket_count
  position-routed = position_flat p d.lists i [] l elsewhere

  pub found-listed : (k : ℕ) → position p (list_of d i) ≡ Some k → spots.IsFoundAtSpot p d (record { bucket = i; slot = k })
  unfolding spots.index_of_spot lists_of
  found-listed k e = record {
    within = record { bucket = l; slot = position-below p (list_of d i) k e };
    found = position-routed ∙ ap (option_map (λ m. length (flat_map (λ x. x) (take i (lists_of d))) + m)) e;
  }

  pub missed-listed : position p (list_of d i) ≡ None → position p (entries d) ≡ None
  missed-listed e = position-routed ∙ ap (option_map (λ m. length (flat_map (λ x. x) (take i (lists_of d))) + m)) e

module _ {E S : Type 0} (hash : E → ℕ) (c : Contents E S) (ws : List Bool) (olds : List (Shelf E)) (arrays : TwoArrays hash c ws olds) where
  beyond : (i : ℕ) → bucket_count c ≤ i → list_of (together hash c ws olds) i ≡ []
  beyond i l = let d = together hash c ws olds in list-is d i ∙ get_or_past (lists_of d) i [] (omega (arith, count-is d, count-together hash c ws olds arrays.flags))

  -- each entry of both arrays stands in the list of the bucket of its hash
  pub routed-together : IsRouted hash c → IsRouted hash (together hash c ws olds)
  routed-together routed = record {
    routed = λ i k e got.
        let d = together hash c ws olds in
        let n = bucket_count c in
        let t = (settings_of c).skipped in
        let goal-is : bucket_number (settings_of d).skipped (bucket_count d) (hash e) ≡ bucket_number t n (hash e) =
        ap (λ s. bucket_number s.skipped (bucket_count d) (hash e)) (settings-together hash c ws olds) ∙ ap (λ m. bucket_number t m (hash e)) (count-together hash c ws olds arrays.flags) in
        goal-is
        ∙ elim (dec_lt i n) [
          | no far ↦ absurd (let z : None ≡ Some e = ap (λ z. slice_get z k) (sym (beyond i (omega arith))) ∙ got in cc)
          | yes l ↦ by_answer (waits_at ws i)
              (λ up.
              let es = flat_map shelf_entries olds in
              let here : slice_get (destined_for hash t n i es) k ≡ Some e = ap (λ z. slice_get z k) (sym (waiting-list hash c ws olds arrays i up (long-flags c ws i arrays.flags up))) ∙ got in
              destined-own hash t n i es k e here)
              (λ down. routed.routed i k e (ap (λ z. slice_get z k) (sym (own-list hash c ws olds arrays i l down)) ∙ got))
        ];
  }

  -- then each entry of the current array stands in the list of the bucket of its hash, too
  pub routed-current : IsRouted hash (together hash c ws olds) → IsRouted hash c
  routed-current routed = record {
    routed = λ i k e got.
        let d = together hash c ws olds in
        let n = bucket_count c in
        let t = (settings_of c).skipped in
        let goal-is : bucket_number (settings_of d).skipped (bucket_count d) (hash e) ≡ bucket_number t n (hash e) =
        ap (λ s. bucket_number s.skipped (bucket_count d) (hash e)) (settings-together hash c ws olds) ∙ ap (λ m. bucket_number t m (hash e)) (count-together hash c ws olds arrays.flags) in
        let lost = λ (bare : list_of c i ≡ []). let z : None ≡ Some e = ap (λ l. slice_get l k) (sym bare) ∙ got in z in
        sym goal-is
        ∙ elim (dec_lt i n) [
          | no far ↦ absurd (let z = lost (list-is c i ∙ get_or_past (lists_of c) i [] (omega (arith, count-is c))) in cc)
          | yes l ↦ by_answer (waits_at ws i) (λ up. absurd (let z = lost (arrays.bare i up) in cc)) (λ down. routed.routed i k e (ap (λ z. slice_get z k) (own-list hash c ws olds arrays i l down) ∙ got))
        ];
  }

  module _ (routed : IsRouted hash c) (p : E → Bool) (h i : ℕ) (a : HashOf p hash h) (at : i ≡ bucket_number (settings_of c).skipped (bucket_count c) h) (l : i < bucket_count c) where
    at-together : i ≡ bucket_number (settings_of (together hash c ws olds)).skipped (bucket_count (together hash c ws olds)) h
    at-together =
        let d = together hash c ws olds in
        at ∙ ap (λ s. bucket_number s.skipped (bucket_count c) h) (sym (settings-together hash c ws olds)) ∙ ap (λ m. bucket_number (settings_of d).skipped m h) (sym (count-together hash c ws olds arrays.flags))

    within-together : i < bucket_count (together hash c ws olds)
    within-together = omega (arith, l, count-together hash c ws olds arrays.flags)

    -- if bucket i doesn't wait, the first entry that passes p stands in its list, or no entry passes p
    pub found-own : waits_at ws i ≡ false → (q : Place) → q.bucket ≡ i → position p (list_of c i) ≡ Some q.slot → IsFoundAt p (together hash c ws olds) q
    found-own down q here e =
        let d = together hash c ws olds in
        let same : record { bucket = i; slot = q.slot } ≡ q = ap (λ b. let r : Place = record { bucket = b; slot = q.slot } in r) (sym here) in
        let f = found-listed hash d (routed-together routed) p h i a at-together within-together q.slot (ap (position p) (own-list hash c ws olds arrays i l down) ∙ e) in
        subst (λ r. spots.IsFoundAtSpot p d r) (same ∙ sym (own-spot hash c ws olds arrays q (omega arith) (ap (waits_at ws) here ∙ down))) f

    pub missed-own : waits_at ws i ≡ false → position p (list_of c i) ≡ None → position p (entries (together hash c ws olds)) ≡ None
    missed-own down e = missed-listed hash (together hash c ws olds) (routed-together routed) p h i a at-together within-together (ap (position p) (own-list hash c ws olds arrays i l down) ∙ e)

    module _ (up : waits_at ws i ≡ true) (j : ℕ) (lj : j < length olds) (source : j ≡ bucket_number (settings_of c).skipped (length olds) h) where
      others-absent : (k : ℕ) → k < length olds → k ≢ j → position p (shelf_entries (shelf_of olds k)) ≡ None
      others-absent k lk ne = absent-own p hash h (settings_of c).skipped (length olds) k (shelf_of olds k) a (arrays.own.own k lk) (λ z. ne (z ∙ sym source))

      -- if no entry of the old bucket of h passes p, no entry of both arrays passes p
      pub missed-old : position p (shelf_entries (shelf_of olds j)) ≡ None → position p (entries (together hash c ws olds)) ≡ None
      missed-old e =
          let d = together hash c ws olds in
          let t = (settings_of c).skipped in
          let none : position p (flat_map shelf_entries olds) ≡ None = absent-flat p olds (λ k lk. elim (dec_lt k j) [
            | yes q ↦ others-absent k lk (omega arith)
            | no q ↦ elim (dec_lt j k) [
              | yes r ↦ others-absent k lk (omega arith)
              | no r ↦ let same : k ≡ j = omega arith in ap (λ m. position p (shelf_entries (shelf_of olds m))) same ∙ e
            ]
          ]) in
          missed-listed hash d (routed-together routed) p h i a at-together within-together
          (ap (position p) (waiting-list hash c ws olds arrays i up (long-flags c ws i arrays.flags up)) ∙ absent-filter p (λ x. bucket_number t (bucket_count c) (hash x) == i) (flat_map shelf_entries olds) none)

      -- the first entry of the old bucket of h that passes p is the first of both arrays that passes p
      pub found-old : (q : Place) → q.bucket ≡ bucket_count c + j → position p (shelf_entries (shelf_of olds j)) ≡ Some q.slot → IsFoundAt p (together hash c ws olds) q
      found-old q here e =
          let d = together hash c ws olds in
          let t = (settings_of c).skipped in
          let n = bucket_count c in
          let s = q.slot in
          let f = found-split p (shelf_entries (shelf_of olds j)) s e in
          let x = f.0 in
          let target : target_by hash c x ≡ i = ap (bucket_number t n) (a.same x f.2) ∙ sym at in
          let front : position p (entries_before olds j s) ≡ None =
          absent-append p (flat_map shelf_entries (take j olds)) (take s (shelf_entries (shelf_of olds j))) (absent-front p olds j (λ k lk low. others-absent k lk (omega arith))) f.3 in
          let split = split-old olds j s x lj f.1 in
          let xs = destined_for hash t n i (entries_before olds j s) in
          let ys = destined_for hash t n i split.0 in
          let list : list_of d i ≡ xs ++ x ∷ ys =
          waiting-list hash c ws olds arrays i up (long-flags c ws i arrays.flags up) ∙ ap (destined_for hash t n i) split.1 ∙ destined_append hash t n i (entries_before olds j s) (x ∷ split.0)
          ∙ ap (λ z. xs ++ z) (destined_here hash t n i x split.0 (sym target)) in
          let there : position p (list_of d i) ≡ Some (length xs) = ap (position p) list ∙ found-after p xs x ys (absent-filter p (λ y. bucket_number t n (hash y) == i) (entries_before olds j s) front) f.2 in
          let spot : spot_of d q ≡ record { bucket = i; slot = length xs } =
          old-spot hash c ws olds arrays j s x lj f.1 q here refl ∙ ap (λ b. let r : Place = record { bucket = b; slot = length (destined_for hash t n b (entries_before olds j s)) } in r) target in
          subst (λ r. spots.IsFoundAtSpot p d r) (sym spot) (found-listed hash d (routed-together routed) p h i a at-together within-together (length xs) there)

module _ {E S : Type 0} (hash : E → ℕ) (c : Contents E S) (olds : List (Shelf E)) where
  -- if no bucket waits, a search finds the place in both arrays that it finds in the current array
  pub found-not_waiting : (ws : List Bool) → ws ≡ [] → (p : E → Bool) (q : Place) → spots.IsFoundAtSpot p c q → IsFoundAt p (together hash c ws olds) q
  unfolding waiting_of owed_of bucket_count list_of entries spots.index_of_spot lists_of
  found-not_waiting [] z p q f = record { within = record { bucket = f.within.bucket; slot = f.within.slot }; found = f.found }
  found-not_waiting (w ∷ ws) z p q f = absurd (let y : w ∷ ws ≡ [] = z in cc)

  -- if no bucket waits, each place is a place of the current array
  pub near-not_waiting : (ws : List Bool) → ws ≡ [] → (q : Place) → IsPlace (together hash c ws olds) q → q.bucket < bucket_count c
  unfolding waiting_of owed_of bucket_count list_of lists_of
  near-not_waiting [] z q w = w.bucket
  near-not_waiting (w ∷ ws) z q p = absurd (let y : w ∷ ws ≡ [] = z in cc)

  pub entries-not_waiting : (ws : List Bool) → ws ≡ [] → entries (together hash c ws olds) ≡ entries c
  unfolding entries lists_of
  entries-not_waiting [] z = refl
  entries-not_waiting (w ∷ ws) z = absurd (let y : w ∷ ws ≡ [] = z in cc)
