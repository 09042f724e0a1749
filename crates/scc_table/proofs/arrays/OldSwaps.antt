-- An old array with more buckets than the current one loses an entry, whose slot the last entry of its bucket takes. All
-- entries of an old bucket then belong to one bucket of the current array, so only the order of one list changes.
use Rattle.std.proofs.Common.{◌≡◌, ◌≢◌, ◌==◌, ℕ, zero, suc, ◌+◌, ◌-◌, ◌*◌, ◌/◌, ◌<◌, ◌≤◌, Bool, true, false, cond, nat_lt, Some, List, [], ◌∷◌, ◌++◌, length, map, take, drop, set, get_or, refl, sym, ap, ◌∙◌, subst, arith, rules, append_assoc, length-set, eq-eqb}
use Rattle.std.specs.Cmp.{IsEquivalence}
use Rattle.std.specs.List.{filter, flat_map, remove, slice_get, sum_by, All}
use Rattle.std.specs.List.Sorted.{IsPermutation}
use Rattle.std.proofs.lemmas.List.{map-set, set-get_or}
use Rattle.std.proofs.lemmas.List.Elements.{filter-append}
use Rattle.std.proofs.lemmas.List.Sorted.{All-permutation, length_permutation, IsPermutation-append_left, IsPermutation-append_right}
use Rattle.std.proofs.lemmas.List.Sums.{sum_by-set}
use Rattle.scc_array.specs.Shelves.{shelf_of}
use Rattle.scc_array.specs.Shelf.{Shelf, shelf_entries, empty_shelf, without_slot, swapped_out}
use Rattle.scc_array.proofs.ListsLemmas.{get-below, get-is}
use Rattle.scc_array.proofs.Swaps.{entries-swapped, slots-swapped, overflow-swapped, tags-swapped}
use Rattle.scc_common.specs.Contents.{Contents, entries, bucket_count, list_of, owed_of, settings_of, IsUniqueBy}
use Rattle.scc_common.specs.Routing.{bucket_number, tag_of}
use Rattle.scc_buckets.specs.OneList.{IsSwappedOutOf}
use Rattle.scc_buckets.specs.Pour.{destined_for}
use Rattle.scc_buckets.specs.Tables.{IsOwn, overflow_in}
use Rattle.scc_buckets.specs.declared.place.Place.{Place}
use Rattle.scc_buckets.proofs.Removes.{own_without}
use Rattle.scc_draining.proofs.Numbers.{multiples-flip, number-div, quotient, some-quotient}
use Rattle.scc_table.specs.Places.{IsPlace, index_of, spot_of}
use Rattle.scc_table.specs.Removals.{SwapTakesAt}
use Rattle.scc_table.specs.Takes.{owed_taken}
use Rattle.scc_draining.specs.Drainings.{Draining}
use Rattle.scc_table.specs.TwoArrays.{owed_in, waits_at, target_by, together, TwoArrays, IsTable}
use Rattle.scc_table.proofs.arrays.CurrentChanges.{spilled-together}
use Rattle.scc_table.proofs.arrays.JoinedLists.{count-together, owed-together, refused-together, settings-together, waiting-together}
use Rattle.scc_table.proofs.arrays.OldChanges.{arrays-over, lists-over, old-fields}
use Rattle.scc_table.proofs.places.OldSpots.{old-get, old-long, old-spot, old-waits, old-within, rank_of}
use Rattle.scc_table.proofs.relocations.Preparation.{multiple-flags, waiting-list}
use Rattle.scc_draining.proofs.Others.{not_equal}
use Rattle.scc_table.proofs.removals.Fields.{arrays-less, none-either, old-taken, owed-less, owed-removed, spilled-less}
use Rattle.scc_table.proofs.removals.OneList.{list-same, swapped-count, swapped-moved, swapped-unique}
use Rattle.scc_table.proofs.arrays.Writes.{owed-same}

all-or-none : {X : Type 0} (b : Bool) (x : X) (xs : List X) → cond b (x ∷ cond b xs []) (cond b xs []) ≡ cond b (x ∷ xs) []
all-or-none true x xs = refl
all-or-none false x xs = refl

module _ {X : Type 0} (f : X → ℕ) (i : ℕ) where
  -- if all elements belong to i, all belong to k or none does
  picked : (xs : List X) → All (λ x. f x ≡ i) xs → (k : ℕ) → filter (λ x. f x == k) xs ≡ cond (i == k) xs []
  picked [] all k = none-either (i == k)
  picked (x ∷ xs) all k =
      let here : f x ≡ i = all 0 x (omega arith) in
      let q : X → Bool = λ y. f y == k in
      ap (λ (n : ℕ). cond (n == k) (x ∷ filter q xs) (filter q xs)) here
      ∙ ap (λ z. cond (i == k) (x ∷ z) z) (picked xs (λ n d l. all (suc n) d (omega arith)) k) ∙ all-or-none (i == k) x xs

  -- two lists of equal length whose elements all belong to i
  same-row : (xs ys : List X) → All (λ x. f x ≡ i) xs → All (λ x. f x ≡ i) ys → length xs ≡ length ys → map f xs ≡ map f ys
  same-row [] [] a b l = refl
  same-row [] (y ∷ ys) a b l = absurd (omega arith)
  same-row (x ∷ xs) [] a b l = absurd (omega arith)
  same-row (x ∷ xs) (y ∷ ys) a b l =
      let here : f x ≡ f y = a 0 x (omega arith) ∙ sym (b 0 y (omega arith)) in
      ap (λ z. z ∷ map f xs) here ∙ ap (λ z. f y ∷ z) (same-row xs ys (λ n d m. a (suc n) d (omega arith)) (λ n d m. b (suc n) d (omega arith)) (omega arith))

-- the entries of the old array if bucket j is b
flat-whole : {E : Type 0} (olds : List (Shelf E)) (j : ℕ) (b : Shelf E) → j < length olds
    → flat_map shelf_entries (set olds j b) ≡ flat_map shelf_entries (take j olds) ++ (shelf_entries b ++ flat_map shelf_entries (drop (suc j) olds))
flat-whole [] j b l = absurd (omega arith)
flat-whole (a ∷ olds) zero b l = refl
flat-whole (a ∷ olds) (suc j) b l =
    ap (λ z. shelf_entries a ++ z) (flat-whole olds j b (omega arith)) ∙ sym (append_assoc (shelf_entries a) (flat_map shelf_entries (take j olds)) (shelf_entries b ++ flat_map shelf_entries (drop (suc j) olds)))

module _ {E S : Type 0} (hash : E → ℕ) (c : Contents E S) (ws : List Bool) (olds : List (Shelf E)) (arrays : TwoArrays hash c ws olds) (j s : ℕ) (e : E) (lj : j < length olds) (got : slice_get (shelf_entries (shelf_of olds j)) s ≡ Some e) (fewer : bucket_count c < length olds) where
  -- the bucket of the current array that the entry belongs to
  abbrev target : ℕ
  target = target_by hash c e

  -- old bucket j after a removal in which the later entries move up
  abbrev moved_up : Shelf E
  moved_up = without_slot (shelf_of olds j) s

  -- old bucket j after a removal in which the last entry takes the slot
  abbrev swapped : Shelf E
  swapped = swapped_out (shelf_of olds j) s e

  abbrev belonging : ℕ → List E → List E
  belonging k es = destined_for hash (settings_of c).skipped (bucket_count c) k es

  -- the entries of the bucket of the current array that stand before old bucket j
  abbrev front : List E
  front = belonging target (flat_map shelf_entries (take j olds))

  abbrev back : List E
  back = belonging target (flat_map shelf_entries (drop (suc j) olds))

  inside : s < length (shelf_entries (shelf_of olds j))
  inside = get-below (shelf_entries (shelf_of olds j)) s e got

  up : waits_at ws target ≡ true
  up = old-waits hash c ws olds arrays j s e lj got

  within : target < bucket_count c
  within = old-within hash c ws olds arrays j s e lj got

  moved : IsPermutation (shelf_entries moved_up) (shelf_entries swapped)
  moved = entries-swapped (shelf_of olds j) s e inside

  own-up : IsOwn hash (settings_of c).skipped (length olds) j moved_up
  own-up = own_without (shelf_of olds j) s inside hash (settings_of c).skipped (length olds) j (arrays.own.own j lj)

  own-swapped : IsOwn hash (settings_of c).skipped (length olds) j swapped
  own-swapped = record {
    tagged = tags-swapped (shelf_of olds j) s e inside (λ x. tag_of (hash x)) (arrays.own.own j lj).tagged;
    routed = All-permutation (λ x. bucket_number (settings_of c).skipped (length olds) (hash x) ≡ j) (shelf_entries moved_up) (shelf_entries swapped) moved own-up.routed;
    within = let z = slots-swapped (shelf_of olds j) s e inside in let v = own-up.within in omega arith;
  }

  -- the bucket of the current array follows from the old bucket
  one-target : (h : ℕ) → bucket_number (settings_of c).skipped (length olds) h ≡ j → bucket_number (settings_of c).skipped (bucket_count c) h ≡ j / (length olds / bucket_count c)
  one-target h at =
      let t = (settings_of c).skipped in
      let m = length olds in
      let n = bucket_count c in
      let r = m / n in
      let many = multiples-flip m n (multiple-flags c ws olds target arrays.multiples up) in
      let w = within in
      let product : r * n ≡ m = quotient n m (omega arith) (omega arith) many in
      let some = some-quotient r n m product (omega arith) in
      sym (number-div t n r h some) ∙ ap (λ z. bucket_number t z h / r) product ∙ ap (λ z. z / r) at

  -- all entries of old bucket j belong to one bucket
  all-to : (b : Shelf E) → IsOwn hash (settings_of c).skipped (length olds) j b → All (λ x. target_by hash c x ≡ target) (shelf_entries b)
  all-to b own = λ k d l.
      let t = (settings_of c).skipped in
      let ours = arrays.own.own j lj in
      let at : bucket_number t (length olds) (hash e) ≡ j = ap (λ z. bucket_number t (length olds) (hash z)) (get-is (shelf_entries (shelf_of olds j)) s e e got) ∙ ours.routed s e inside in
      one-target (hash (get_or (shelf_entries b) k d)) (own.routed k d l) ∙ sym (one-target (hash e) at)

  module _ (b : Shelf E) (own : IsOwn hash (settings_of c).skipped (length olds) j b) where
    whole : (k : ℕ) → belonging k (flat_map shelf_entries (set olds j b)) ≡ belonging k (flat_map shelf_entries (take j olds)) ++ (cond (target == k) (shelf_entries b) [] ++ belonging k (flat_map shelf_entries (drop (suc j) olds)))
    whole k =
        let q : E → Bool = λ x. target_by hash c x == k in
        let xs = flat_map shelf_entries (take j olds) in
        let ys = flat_map shelf_entries (drop (suc j) olds) in
        ap (filter q) (flat-whole olds j b lj) ∙ filter-append q xs (shelf_entries b ++ ys)
        ∙ ap (λ z. filter q xs ++ z) (filter-append q (shelf_entries b) ys ∙ ap (λ z. z ++ filter q ys) (picked (target_by hash c) target (shelf_entries b) (all-to b own) k))

    here : belonging target (flat_map shelf_entries (set olds j b)) ≡ front ++ (shelf_entries b ++ back)
    here =
        let same : (target == target) ≡ true = eq-eqb _ _ refl in
        whole target ∙ ap (λ (v : Bool). front ++ (cond v (shelf_entries b) [] ++ back)) same

    elsewhere : (k : ℕ) → k ≢ target → belonging k (flat_map shelf_entries (set olds j b)) ≡ belonging k (flat_map shelf_entries (take j olds)) ++ belonging k (flat_map shelf_entries (drop (suc j) olds))
    elsewhere k ne =
        let xs = belonging k (flat_map shelf_entries (take j olds)) in
        let ys = belonging k (flat_map shelf_entries (drop (suc j) olds)) in
        let off : (target == k) ≡ false = not_equal _ _ (λ z. ne (sym z)) in
        whole k ∙ ap (λ (v : Bool). xs ++ (cond v (shelf_entries b) [] ++ ys)) off

  as-was : (k : ℕ) → k ≢ target → belonging k (flat_map shelf_entries olds) ≡ belonging k (flat_map shelf_entries (take j olds)) ++ belonging k (flat_map shelf_entries (drop (suc j) olds))
  as-was k ne = ap (λ (z : List (Shelf E)). belonging k (flat_map shelf_entries z)) (sym (set-get_or olds j empty_shelf)) ∙ elsewhere (shelf_of olds j) (arrays.own.own j lj) k ne

  others : (k : ℕ) → k ≢ target → belonging k (flat_map shelf_entries (set olds j swapped)) ≡ belonging k (flat_map shelf_entries olds)
  others k ne = elsewhere swapped own-swapped k ne ∙ sym (as-was k ne)

  pub arrays-swapped : TwoArrays hash c ws (set olds j swapped)
  arrays-swapped = arrays-over hash c ws olds arrays j lj swapped own-swapped (λ k down. others k (λ z. let q : false ≡ true = sym down ∙ ap (waits_at ws) z ∙ up in absurd (let q2 = q in cc)))

  -- the old array holds one entry fewer
  pub owed-swapped : sum_by (λ b. length (shelf_entries b)) (set olds j swapped) + 1 ≡ sum_by (λ b. length (shelf_entries b)) olds
  owed-swapped =
      let f : Shelf E → ℕ = λ b. length (shelf_entries b) in
      let less = owed-less hash c ws olds arrays j s e lj got in
      let a = sum_by-set f olds j moved_up empty_shelf lj in
      let b = sum_by-set f olds j swapped empty_shelf lj in
      let long : f swapped ≡ f moved_up = length_permutation (shelf_entries moved_up) (shelf_entries swapped) moved in
      let goal_is : sum_by f (set olds j swapped) + 1 ≡ sum_by f olds = omega arith in
      goal_is

  -- the overflow lists of the old array get no more entries
  pub spilled-swapped : overflow_in (set olds j swapped) ≤ overflow_in olds
  spilled-swapped =
      let f : Shelf E → ℕ = λ b. length b.overflow in
      let less = spilled-less hash c ws olds arrays j s e lj got in
      let a = sum_by-set f olds j moved_up empty_shelf lj in
      let b = sum_by-set f olds j swapped empty_shelf lj in
      let long : f swapped ≡ f moved_up = overflow-swapped (shelf_of olds j) s e inside in
      let goal_is : sum_by f (set olds j swapped) ≤ sum_by f olds = omega arith in
      goal_is

  -- the list of the bucket of e without e, if the later entries move up
  list-up : remove (list_of (together hash c ws olds) target) (rank_of hash c ws olds arrays j s e lj got) ≡ front ++ (shelf_entries moved_up ++ back)
  list-up =
      let u = together hash c ws olds in
      let ups = set olds j moved_up in
      let v = together hash c ws ups in
      let m : ℕ = rank_of hash c ws olds arrays j s e lj got in
      let long = old-long hash c ws olds arrays j s e lj got in
      let taken = old-taken hash c ws olds arrays j s e lj got in
      let less = arrays-less hash c ws olds arrays j s e lj got in
      sym (list-same u v target (remove (list_of u target) m) taken.lists (omega (arith, within, count-together hash c ws olds arrays.flags)))
      ∙ waiting-list hash c ws ups less target up long ∙ here moved_up own-up

  -- e is taken out of the list of its bucket, whose others are in some order
  pub old-swapped : IsSwappedOutOf (together hash c ws olds) (record { bucket = target; slot = rank_of hash c ws olds arrays j s e lj got }) (together hash c ws (set olds j swapped))
  old-swapped =
      let news = set olds j swapped in
      let left : List E = front ++ (shelf_entries swapped ++ back) in
      let order : IsPermutation (front ++ (shelf_entries moved_up ++ back)) left =
      IsPermutation-append_right front (shelf_entries moved_up ++ back) (shelf_entries swapped ++ back) (IsPermutation-append_left back (shelf_entries moved_up) (shelf_entries swapped) moved) in
      record {
        left = left;
        moved = subst (λ z. IsPermutation z left) (sym list-up) order;
        lists = lists-over hash c ws olds arrays j lj swapped target left up within (here swapped own-swapped) others;
        settings = settings-together hash c ws news ∙ sym (settings-together hash c ws olds);
        refused = refused-together hash c ws news ∙ sym (refused-together hash c ws olds);
        spilled = let o = spilled-swapped in let a = spilled-together hash c ws news in let z = spilled-together hash c ws olds in omega arith;
      }

  -- what the old array owes loses e
  pub owed-in-swapped : owed_in (target_by hash c) ws (set olds j swapped) ≡ set (owed_in (target_by hash c) ws olds) j (remove (get_or (owed_in (target_by hash c) ws olds) j []) s)
  owed-in-swapped =
      let f = target_by hash c in
      let g : Shelf E → List ℕ = λ x. map f (shelf_entries x) in
      let long : length (shelf_entries swapped) ≡ length (shelf_entries moved_up) = length_permutation (shelf_entries moved_up) (shelf_entries swapped) moved in
      let row : g swapped ≡ g moved_up = same-row f target (shelf_entries swapped) (shelf_entries moved_up) (all-to swapped own-swapped) (all-to moved_up own-up) long in
      let rows : map g (set olds j swapped) ≡ map g (set olds j moved_up) = map-set g olds j swapped ∙ ap (set (map g olds) j) row ∙ sym (map-set g olds j moved_up) in
      owed-same f ws (set olds j moved_up) (set olds j swapped) rows ∙ owed-removed f ws olds j s lj inside

-- a table of two arrays after the entry e, at the place p of the old array, is taken out
module _ {E K S : Type 0} {eq : K → K → Bool} (laws : IsEquivalence eq) {key : E → K} {hash : K → ℕ} {c : Contents E S} {drain : Draining E} (inv : IsTable eq key hash c drain) (p : Place)
    (within : IsPlace (together (λ e. hash (key e)) c drain.waiting drain.array) p) (j : ℕ) (at : p.bucket ≡ bucket_count c + j) (lj : j < length drain.array) (e : E) (got : slice_get (shelf_entries (shelf_of drain.array j)) p.slot ≡ Some e) (fewer : bucket_count c < length drain.array) where
  abbrev news : List (Shelf E)
  news = set drain.array j (swapped_out (shelf_of drain.array j) p.slot e)

  abbrev both : List (Shelf E) → Contents E S
  both olds = together (λ x. hash (key x)) c drain.waiting olds

  there : slice_get (entries (both drain.array)) (index_of (both drain.array) p) ≡ Some e
  there = old-get (λ x. hash (key x)) c drain.waiting drain.array inv.arrays j p.slot e lj got p at refl

  exact : IsSwappedOutOf (both drain.array) (spot_of (both drain.array) p) (both news)
  exact =
      subst (λ q. IsSwappedOutOf (both drain.array) q (both news)) (sym (old-spot (λ x. hash (key x)) c drain.waiting drain.array inv.arrays j p.slot e lj got p at refl))
      (old-swapped (λ x. hash (key x)) c drain.waiting drain.array inv.arrays j p.slot e lj got fewer)

  unique : IsUniqueBy eq key (both news)
  unique = swapped-unique (both drain.array) (both news) (spot_of (both drain.array) p) within exact laws key e there inv.unique

  owed : owed_of (both news) ≡ owed_taken (bucket_count (both drain.array)) (owed_of (both drain.array)) p
  owed =
      let h : E → ℕ = λ x. hash (key x) in
      let f = target_by h c in
      let n = bucket_count c in
      let count = count-together h c drain.waiting drain.array inv.arrays.flags in
      let past : nat_lt p.bucket n ≡ false = let far : n ≤ p.bucket = omega arith in search rules in
      let number : p.bucket - n ≡ j = omega arith in
      let hs = owed_in f drain.waiting drain.array in
      owed-together h c drain.waiting news ∙ owed-in-swapped h c drain.waiting drain.array inv.arrays j p.slot e lj got fewer
      ∙ sym (ap (λ m. owed_taken m (owed_of (both drain.array)) p) count ∙ ap (λ z. owed_taken n z p) (owed-together h c drain.waiting drain.array)
      ∙ ap (λ (b : Bool). cond b hs (set hs (p.bucket - n) (remove (get_or hs (p.bucket - n) []) p.slot))) past ∙ ap (λ k. set hs k (remove (get_or hs k []) p.slot)) number)

  pub swap-takes : SwapTakesAt eq key (both drain.array) p e (both news)
  swap-takes =
      let h : E → ℕ = λ x. hash (key x) in
      let u = both drain.array in
      let v = both news in
      let q = spot_of u p in
      record {
        entry = there;
        others = swapped-moved u v q within exact;
        buckets = swapped-count u v q within exact;
        noted = exact.refused;
        settings = exact.settings;
        waiting = waiting-together h c drain.waiting news ∙ sym (waiting-together h c drain.waiting drain.array);
        owed = owed;
        exact = exact;
        unique = unique;
      }

  -- the invariant `IsTable` holds afterwards
  pub swap-table : IsTable eq key hash c (record drain { array = news; left = drain.left - 1 })
  swap-table =
      let h : E → ℕ = λ x. hash (key x) in
      let less = owed-swapped h c drain.waiting drain.array inv.arrays j p.slot e lj got fewer in
      let over = spilled-swapped h c drain.waiting drain.array inv.arrays j p.slot e lj got fewer in
      let m = inv.left_is in
      let o = inv.overflow_is in
      old-fields eq key hash c drain news (drain.left - 1) inv (arrays-swapped h c drain.waiting drain.array inv.arrays j p.slot e lj got fewer)
      (length-set drain.array j (swapped_out (shelf_of drain.array j) p.slot e)) (omega arith) (omega arith) unique
