-- Where the entries of a waiting bucket stand, and where the entries of another bucket stand.
use Rattle.std.proofs.Common.{◌≡◌, ◌==◌, ℕ, zero, suc, ◌+◌, ◌-◌, ◌<◌, ◌≤◌, inl, inr, Bool, true, false, cond, nat_lt, Some, None, List, [], ◌∷◌, ◌++◌, length, map, take, get_or, refl, sym, ap, ◌∙◌, subst, arith, rules, append_assoc, length-append}
use Rattle.std.specs.List.{filter, flat_map, count_by, slice_get}
use Rattle.std.proofs.lemmas.List.{get_or-map, length-map, get_or_past}
use Rattle.std.proofs.lemmas.List.Sums.{length-filter}
use native.Mathlib.Decide.{dec_lt}
use Rattle.scc_array.specs.Shelves.{shelf_of}
use Rattle.scc_array.specs.Shelf.{Shelf, shelf_entries, empty_shelf}
use Rattle.scc_array.proofs.ListsLemmas.{get-below, get-right}
use Rattle.scc_common.specs.Contents.{Contents, entries, bucket_count, list_of, lists_of, settings_of, owed_of}
use Rattle.scc_buckets.specs.Places as spots
use Rattle.scc_buckets.specs.Pour.{destined_for}
use Rattle.scc_buckets.specs.declared.place.Place.{Place}
use Rattle.scc_buckets.proofs.PairSplits.{by_answer}
use Rattle.scc_buckets.proofs.Pours.{destined_append, destined_here}
use Rattle.scc_buckets.proofs.Spots.{place-get}
use Rattle.scc_table.specs.Places.{IsPlace, owed_before, index_of, spot_by, spot_in, spot_of}
use Rattle.scc_draining.specs.Stepping.{entries_before}
use Rattle.scc_table.specs.TwoArrays.{owed_in, joined, target_by, together, TwoArrays, waits_at}
use Rattle.scc_table.proofs.arrays.JoinedLists.{count-together, get-joined, owed-together, waiting-together}
use Rattle.scc_table.proofs.relocations.Preparation.{long-flags, waiting-list}
use Rattle.scc_table.proofs.relocations.Fields.{count-is}
use Rattle.scc_draining.proofs.Flags.{up-within}

map-append : {X Y : Type 0} (f : X → Y) (xs ys : List X) → map f (xs ++ ys) ≡ map f xs ++ map f ys
map-append f [] ys = refl
map-append f (x ∷ xs) ys = ap (λ z. f x ∷ z) (map-append f xs ys)

map-take : {X Y : Type 0} (f : X → Y) (n : ℕ) (xs : List X) → take n (map f xs) ≡ map f (take n xs)
map-take f zero [] = refl
map-take f zero (x ∷ xs) = refl
map-take f (suc n) [] = refl
map-take f (suc n) (x ∷ xs) = ap (λ z. f x ∷ z) (map-take f n xs)

get-map : {X Y : Type 0} (f : X → Y) (xs : List X) (i : ℕ) (x : X) → slice_get xs i ≡ Some x → slice_get (map f xs) i ≡ Some (f x)
get-map f [] i x e = absurd (let n : None ≡ Some x = e in cc)
get-map f (y ∷ xs) zero x e = let s : y ≡ x = cc in ap (λ z. Some (f z)) s
get-map f (y ∷ xs) (suc i) x e = get-map f xs i x e

filter-map : {E : Type 0} (f : E → ℕ) (t : ℕ) (xs : List E) → filter (λ u. u == t) (map f xs) ≡ map f (filter (λ e. f e == t) xs)
filter-map f t [] = refl
filter-map f t (x ∷ xs) = by_answer (f x == t) (λ q. rw q (ap (λ z. f x ∷ z) (filter-map f t xs))) (λ q. rw q (filter-map f t xs))

-- the count of t among the bucket numbers of xs is the number of entries of xs that belong to bucket t
pub count-map : {E : Type 0} (f : E → ℕ) (t : ℕ) (xs : List E) → count_by (λ u. u == t) (map f xs) ≡ length (filter (λ e. f e == t) xs)
count-map f t xs = sym (length-filter (λ u. u == t) (map f xs)) ∙ ap length (filter-map f t xs) ∙ length-map (filter (λ e. f e == t) xs) f

-- a list is the elements before number i, element x at number i, and the rest
pub split-list : {X : Type 0} (xs : List X) (i : ℕ) (x : X) → slice_get xs i ≡ Some x → (rest : List X) × (xs ≡ take i xs ++ x ∷ rest)
split-list [] i x e = absurd (let n : None ≡ Some x = e in cc)
split-list (y ∷ xs) zero x e = let s : y ≡ x = cc in (xs, ap (λ z. z ∷ xs) s)
split-list (y ∷ xs) (suc i) x e = let r = split-list xs i x e in (r.0, ap (λ z. y ∷ z) r.1)

-- the entries of the old array are those before the entry e, e itself, and the rest
pub split-old : {E : Type 0} (olds : List (Shelf E)) (j s : ℕ) (e : E) → j < length olds → slice_get (shelf_entries (shelf_of olds j)) s ≡ Some e
    → (rest : List E) × (flat_map shelf_entries olds ≡ entries_before olds j s ++ e ∷ rest)
split-old [] j s e l got = absurd (omega arith)
split-old (b ∷ olds) zero s e l got =
    let r = split-list (shelf_entries b) s e got in
    let os = flat_map shelf_entries olds in
    (r.0 ++ os, ap (λ z. z ++ os) r.1 ∙ append_assoc (take s (shelf_entries b)) (e ∷ r.0) os)
split-old (b ∷ olds) (suc j) s e l got =
    let r = split-old olds j s e (omega arith) got in
    let bs = shelf_entries b in
    let xs = flat_map shelf_entries (take j olds) in
    let ys = take s (shelf_entries (shelf_of olds j)) in
    (r.0, ap (λ z. bs ++ z) r.1 ∙ sym (append_assoc bs (xs ++ ys) (e ∷ r.0)) ∙ ap (λ z. z ++ e ∷ r.0) (sym (append_assoc bs xs ys)))

-- `owed_before` lists the buckets of the entries that stand before slot s of old bucket j
pub owed-before : {E : Type 0} (f : E → ℕ) (olds : List (Shelf E)) (j s : ℕ) → j < length olds → owed_before (map (λ b. map f (shelf_entries b)) olds) j s ≡ map f (entries_before olds j s)
owed-before f [] j s l = absurd (omega arith)
owed-before f (b ∷ olds) zero s l = map-take f s (shelf_entries b)
owed-before f (b ∷ olds) (suc j) s l =
    let bs = shelf_entries b in
    let xs = flat_map shelf_entries (take j olds) in
    let ys = take s (shelf_entries (shelf_of olds j)) in
    let hs = map (λ a. map f (shelf_entries a)) olds in
    append_assoc (map f bs) (flat_map (λ l. l) (take j hs)) (take s (get_or hs j [])) ∙ ap (λ z. map f bs ++ z) (owed-before f olds j s (omega arith)) ∙ sym (map-append f bs (xs ++ ys)) ∙ ap (map f) (sym (append_assoc bs xs ys))

pub owed-some : {E : Type 0} (f : E → ℕ) (ws : List Bool) (olds : List (Shelf E)) → 0 < length ws → owed_in f ws olds ≡ map (λ b. map f (shelf_entries b)) olds
owed-some f [] olds some = absurd (omega arith)
owed-some f (w ∷ ws) olds some = refl

-- a place of a bucket that doesn't wait is its own spot
pub spot-own : (ws : List Bool) (hs : List (List ℕ)) (n : ℕ) (p : Place) → p.bucket < n → waits_at ws p.bucket ≡ false → spot_in ws hs n p ≡ p
spot-own [] hs n p l down = refl
spot-own (w ∷ ws) hs n p l down =
    let before : nat_lt p.bucket n ≡ true = search rules in
    let none : Place = record { bucket = n; slot = 0 } in
    let after : Place = spot_by n (slice_get (get_or hs (p.bucket - n) []) p.slot) (owed_before hs (p.bucket - n) p.slot) in
    ap (λ b. cond b (cond (get_or (w ∷ ws) p.bucket false) none p) after) before ∙ ap (λ b. cond b none p) down

-- a place in a waiting bucket has no spot in any of the n buckets
pub spot-none : (ws : List Bool) (hs : List (List ℕ)) (n : ℕ) (p : Place) → p.bucket < n → waits_at ws p.bucket ≡ true → spot_in ws hs n p ≡ record { bucket = n; slot = 0 }
spot-none [] hs n p l up = absurd (let z : false ≡ true = up in cc)
spot-none (w ∷ ws) hs n p l up =
    let before : nat_lt p.bucket n ≡ true = search rules in
    let none : Place = record { bucket = n; slot = 0 } in
    let after : Place = spot_by n (slice_get (get_or hs (p.bucket - n) []) p.slot) (owed_before hs (p.bucket - n) p.slot) in
    ap (λ b. cond b (cond (get_or (w ∷ ws) p.bucket false) none p) after) before ∙ ap (λ b. cond b none p) up

-- the spot of a place of the old array is in the bucket that the entry belongs to
pub spot-old : (ws : List Bool) (hs : List (List ℕ)) (n j : ℕ) (p : Place) → 0 < length ws → p.bucket ≡ n + j → spot_in ws hs n p ≡ spot_by n (slice_get (get_or hs j []) p.slot) (owed_before hs j p.slot)
spot-old [] hs n j p some at = absurd (omega arith)
spot-old (w ∷ ws) hs n j p some at =
    let past : nat_lt p.bucket n ≡ false = let l : n ≤ p.bucket = omega arith in search rules in
    let number : p.bucket - n ≡ j = omega arith in
    let none : Place = record { bucket = n; slot = 0 } in
    let after : Place = spot_by n (slice_get (get_or hs (p.bucket - n) []) p.slot) (owed_before hs (p.bucket - n) p.slot) in
    ap (λ b. cond b (cond (get_or (w ∷ ws) p.bucket false) none p) after) past ∙ ap (λ m. spot_by n (slice_get (get_or hs m []) p.slot) (owed_before hs m p.slot)) number

nothing : {X : Type 0} (xs : List X) → length xs ≡ 0 → xs ≡ []
nothing [] h = refl
nothing (x ∷ xs) h = absurd (omega arith)

by_get : {X P : Type 0} (xs : List X) (i : ℕ) → (slice_get xs i ≡ None → P) → (i < length xs → P) → P
by_get [] i n s = n refl
by_get (x ∷ xs) zero n s = s (omega arith)
by_get (x ∷ xs) (suc i) n s = by_get xs i n (λ l. s (omega arith))

owed-within : {E : Type 0} (f : E → ℕ) (olds : List (Shelf E)) (j s : ℕ) → s < length (get_or (map (λ b. map f (shelf_entries b)) olds) j []) → (j < length olds) × (s < length (shelf_entries (shelf_of olds j)))
owed-within f [] j s l = absurd (let z : s < 0 = l in omega arith)
owed-within f (b ∷ olds) zero s l = let m = length-map (shelf_entries b) f in (omega arith, omega arith)
owed-within f (b ∷ olds) (suc j) s l = let r = owed-within f olds j s l in (let q = r.0 in omega arith, r.1)

-- a place is in the list of a bucket of the current array that doesn't wait, or in the old array
pub data PlaceKind {E S : Type 0} (c : Contents E S) (ws : List Bool) (olds : List (Shelf E)) (p : Place) : Type 0 where
  own : spots.IsSpot c p → waits_at ws p.bucket ≡ false → PlaceKind c ws olds p
  old : (j : ℕ) → p.bucket ≡ bucket_count c + j → j < length olds → p.slot < length (shelf_entries (shelf_of olds j)) → PlaceKind c ws olds p

module _ {E S : Type 0} (hash : E → ℕ) (c : Contents E S) (ws : List Bool) (olds : List (Shelf E)) (arrays : TwoArrays hash c ws olds) where
  pub spot-is : (p : Place) → spot_of (together hash c ws olds) p ≡ spot_in ws (owed_in (target_by hash c) ws olds) (bucket_count c) p
  spot-is p =
      let d = together hash c ws olds in
      ap (λ w. spot_in w (owed_of d) (bucket_count d) p) (waiting-together hash c ws olds) ∙ ap (λ h. spot_in ws h (bucket_count d) p) (owed-together hash c ws olds)
      ∙ ap (λ m. spot_in ws (owed_in (target_by hash c) ws olds) m p) (count-together hash c ws olds arrays.flags)

  -- in the contents of both arrays, a bucket that doesn't wait has its own list
  pub own-list : (i : ℕ) → i < bucket_count c → waits_at ws i ≡ false → list_of (together hash c ws olds) i ≡ list_of c i
  unfolding list_of lists_of
  own-list i l down = elim arrays.flags [
    | inl z ↦ ap (λ w. get_or (joined (target_by hash c) 0 w c.lists (flat_map shelf_entries olds)) i []) z
    | inr z ↦
        let es = flat_map shelf_entries olds in
        let m = count-is c in
        get-joined (target_by hash c) es 0 i ws c.lists (z ∙ m) (omega arith) ∙ ap (λ b. cond b (filter (λ e. target_by hash c e == 0 + i) es) (get_or c.lists i [])) down
  ]

  module _ (p : Place) (l : p.bucket < bucket_count c) (down : waits_at ws p.bucket ≡ false) where
    pub own-spot : spot_of (together hash c ws olds) p ≡ p
    own-spot = spot-is p ∙ spot-own ws (owed_in (target_by hash c) ws olds) (bucket_count c) p l down

    pub own-place : p.slot < length (list_of c p.bucket) → IsPlace (together hash c ws olds) p
    own-place q =
        let d = together hash c ws olds in
        let at : spots.IsSpot d p = record {
          bucket = omega (arith, count-together hash c ws olds arrays.flags);
          slot = subst (λ z. p.slot < length z) (sym (own-list p.bucket l down)) q;
        } in
        subst (λ z. spots.IsSpot d z) (sym own-spot) at

    -- the entry at p in the current array stands at p among all entries
    pub own-get : (e : E) → slice_get (list_of c p.bucket) p.slot ≡ Some e → slice_get (entries (together hash c ws olds)) (index_of (together hash c ws olds) p) ≡ Some e
    own-get e got =
        let d = together hash c ws olds in
        let at : spots.IsSpot d p = record {
          bucket = omega (arith, count-together hash c ws olds arrays.flags);
          slot = subst (λ z. p.slot < length z) (sym (own-list p.bucket l down)) (get-below (list_of c p.bucket) p.slot e got);
        } in
        ap (λ q. slice_get (entries d) (spots.index_of_spot d q)) own-spot ∙ place-get d p at e (ap (λ z. slice_get z p.slot) (own-list p.bucket l down) ∙ got)

  module _ (j s : ℕ) (e : E) (lj : j < length olds) (got : slice_get (shelf_entries (shelf_of olds j)) s ≡ Some e) where
    -- how many entries of the bucket of e stand before e in the old array
    abbrev pub rank_of : ℕ
    rank_of = length (destined_for hash (settings_of c).skipped (bucket_count c) (target_by hash c e) (entries_before olds j s))

    destined-split : (rest : List E) × (destined_for hash (settings_of c).skipped (bucket_count c) (target_by hash c e) (flat_map shelf_entries olds)
        ≡ destined_for hash (settings_of c).skipped (bucket_count c) (target_by hash c e) (entries_before olds j s) ++ e ∷ rest)
    destined-split =
        let t = (settings_of c).skipped in
        let n = bucket_count c in
        let i = target_by hash c e in
        let r = split-old olds j s e lj got in
        let bs = entries_before olds j s in
        (destined_for hash t n i r.0, ap (destined_for hash t n i) r.1 ∙ destined_append hash t n i bs (e ∷ r.0) ∙ ap (λ z. destined_for hash t n i bs ++ z) (destined_here hash t n i e r.0 refl))

    -- the bucket of e waits
    pub old-waits : waits_at ws (target_by hash c e) ≡ true
    old-waits = by_answer (waits_at ws (target_by hash c e)) (λ q. q)
        (λ q.
        let r = destined-split in
        let i = target_by hash c e in
        let bs = destined_for hash (settings_of c).skipped (bucket_count c) i (entries_before olds j s) in
        let none = arrays.not_waiting i q in
        let m : length (bs ++ e ∷ r.0) ≡ 0 = ap length (sym r.1 ∙ none) in
        let n = length-append bs (e ∷ r.0) in
        absurd (omega arith))

    pub old-long : length ws ≡ bucket_count c
    old-long = long-flags c ws (target_by hash c e) arrays.flags old-waits

    pub old-within : target_by hash c e < bucket_count c
    old-within = let l = up-within ws (target_by hash c e) old-waits in omega (arith, old-long)

    -- the list of the bucket of e has e at the slot `rank_of`
    pub old-list : slice_get (list_of (together hash c ws olds) (target_by hash c e)) rank_of ≡ Some e
    old-list =
        let i = target_by hash c e in
        let r = destined-split in
        let bs = destined_for hash (settings_of c).skipped (bucket_count c) i (entries_before olds j s) in
        let z : length bs + 0 ≡ length bs = omega arith in
        ap (λ l. slice_get l (length bs)) (waiting-list hash c ws olds arrays i old-waits old-long ∙ r.1) ∙ ap (slice_get (bs ++ e ∷ r.0)) (sym z) ∙ get-right bs (e ∷ r.0) 0

    module _ (p : Place) (at : p.bucket ≡ bucket_count c + j) (slot : p.slot ≡ s) where
      pub old-spot : spot_of (together hash c ws olds) p ≡ record { bucket = target_by hash c e; slot = rank_of }
      old-spot =
          let f = target_by hash c in
          let some : 0 < length ws = let l = up-within ws (f e) old-waits in omega arith in
          let hs = map (λ b. map f (shelf_entries b)) olds in
          let here : get_or hs j [] ≡ map f (shelf_entries (shelf_of olds j)) = get_or-map (λ b. map f (shelf_entries b)) olds j empty_shelf [] lj in
          spot-is p ∙ ap (λ h. spot_in ws h (bucket_count c) p) (owed-some f ws olds some) ∙ spot-old ws hs (bucket_count c) j p some at
          ∙ ap (λ m. spot_by (bucket_count c) (slice_get (get_or hs j []) m) (owed_before hs j m)) slot
          ∙ ap (λ o. spot_by (bucket_count c) o (owed_before hs j s)) (ap (λ z. slice_get z s) here ∙ get-map f (shelf_entries (shelf_of olds j)) s e got)
          ∙ ap (λ h. spot_by (bucket_count c) (Some (f e)) h) (owed-before f olds j s lj)
          ∙ ap (λ m. let q : Place = record { bucket = f e; slot = m } in q) (count-map f (f e) (entries_before olds j s))

      old-there : spots.IsSpot (together hash c ws olds) (record { bucket = target_by hash c e; slot = rank_of })
      old-there = record {
        bucket = omega (arith, old-within, count-together hash c ws olds arrays.flags);
        slot = get-below (list_of (together hash c ws olds) (target_by hash c e)) rank_of e old-list;
      }

      pub old-place : IsPlace (together hash c ws olds) p
      old-place = subst (λ q. spots.IsSpot (together hash c ws olds) q) (sym old-spot) old-there

      -- e stands at p among all entries
      pub old-get : slice_get (entries (together hash c ws olds)) (index_of (together hash c ws olds) p) ≡ Some e
      old-get =
          let d = together hash c ws olds in
          let q : Place = record { bucket = target_by hash c e; slot = rank_of } in
          ap (λ z. slice_get (entries d) (spots.index_of_spot d z)) old-spot ∙ place-get d q old-there e old-list

  -- each place is of one of the two kinds of `PlaceKind`
  pub place-kind : (p : Place) → IsPlace (together hash c ws olds) p → PlaceKind c ws olds p
  place-kind p h =
      let d = together hash c ws olds in
      let n = bucket_count c in
      let f = target_by hash c in
      let count = count-together hash c ws olds arrays.flags in
      let lost = λ (e : spot_of d p ≡ record { bucket = n; slot = 0 }). let l : (spot_of d p).bucket < bucket_count d = h.bucket in let m : (spot_of d p).bucket ≡ n = ap (λ q. q.bucket) e in let z : n < n = omega arith in z in
      elim (dec_lt p.bucket n) [
        | yes l ↦ by_answer (waits_at ws p.bucket)
            (λ up. let z : n < n = lost (spot-is p ∙ spot-none ws (owed_in f ws olds) n p l up) in absurd (omega arith))
            (λ down.
            let at : spots.IsSpot d p = subst (λ q. spots.IsSpot d q) (own-spot p l down) h in
            own (record { bucket = l; slot = subst (λ z. p.slot < length z) (own-list p.bucket l down) at.slot }) down)
        | no far ↦ elim (dec_lt 0 (length ws)) [
          | no none ↦
              let down : waits_at ws p.bucket ≡ false = get_or_past ws p.bucket false (omega arith) in
              let z : ws ≡ [] = nothing ws (omega arith) in
              let same : spot_of d p ≡ p = spot-is p ∙ ap (λ w. spot_in w (owed_in f ws olds) n p) z in
              let l : (spot_of d p).bucket < bucket_count d = h.bucket in
              let m : (spot_of d p).bucket ≡ p.bucket = ap (λ q. q.bucket) same in
              absurd (omega arith)
          | yes some ↦
              let j = p.bucket - n in
              let at : p.bucket ≡ n + j = omega arith in
              let hs = map (λ b. map f (shelf_entries b)) olds in
              let path = spot-is p ∙ ap (λ h. spot_in ws h n p) (owed-some f ws olds some) ∙ spot-old ws hs n j p some at in
              by_get (get_or hs j []) p.slot
              (λ e. let z : n < n = lost (path ∙ ap (λ o. spot_by n o (owed_before hs j p.slot)) e) in absurd (omega arith))
              (λ l. let r = owed-within f olds j p.slot l in old j at r.0 r.1)
        ]
      ]

module _ {E S : Type 0} (hash : E → ℕ) (c : Contents E S) (ws : List Bool) (olds : List (Shelf E)) (arrays : TwoArrays hash c ws olds) (d : Contents E S) (view : together hash c ws olds ≡ d) (p : Place) (h : IsPlace d p) where
  kind-at : PlaceKind c ws olds p
  kind-at = place-kind hash c ws olds arrays p (subst (λ x. IsPlace x p) (sym view) h)

  -- if the bucket of p is below the number of buckets, p is a place of the current array
  pub own-at : p.bucket < bucket_count c → spots.IsSpot c p × (waits_at ws p.bucket ≡ false)
  own-at l = elim kind-at [
    | own at down ↦ (at, down)
    | old j at lj ls ↦ absurd (omega arith)
  ]

  -- if the bucket of p is not below the number of buckets, p is a place of the old array
  pub old-at : (n : ℕ) → n ≡ bucket_count c → n ≤ p.bucket → (p.bucket ≡ bucket_count c + (p.bucket - n)) × (p.bucket - n < length olds) × (p.slot < length (shelf_entries (shelf_of olds (p.bucket - n))))
  old-at n count far = elim kind-at [
    | own at down ↦ absurd (let l = at.bucket in omega arith)
    | old j at lj ls ↦
        let same : p.bucket - n ≡ j = omega arith in
        (omega arith, omega arith, subst (λ k. p.slot < length (shelf_entries (shelf_of olds k))) (sym same) ls)
  ]
