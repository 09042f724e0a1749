-- Steps of the table, as steps of a cache.
use Rattle.std.proofs.Common.{◌≡◌, ℕ, zero, suc, ◌+◌, ◌*◌, ◌^◌, ◌<◌, ◌≤◌, Bool, true, false, List, [], ◌∷◌, ◌++◌, length, refl, sym, ap, ◌∙◌, subst, arith, inl, inr, length-set, length-append, Option, None, Some, MatchOption}
use Rattle.std.specs.Int.{IsPowerOfTwo}
use Rattle.std.specs.List.{IsDistinct, flat_map, remove, slice_get, slice_set, slice_index_or, position}
use Rattle.std.specs.Option.{option_map}
use native.Mathlib.Decide.{dec_lt}
use lib.Pow.{pow_mono, pow-add}
use Rattle.scc_buckets.specs.Pour.{IsRegrouped}
use Rattle.scc_buckets.specs.Bounded.{HasList, IsUnlisted, PutsLast, IsListed, ShrinksBounded, stays_wide, denied_narrow, narrows}
use Rattle.scc_common.specs.Contents.{Contents, entries, bucket_count, settings_of, notes_of, minimum_of, list_of, lists_of, waiting_of, owed_of}
use Rattle.scc_common.specs.Pairs.{IsUnique}
use Rattle.scc_buckets.proofs.Bounds.{absent-rest, has-list-of, keeps-count, keeps-entries}
use Rattle.scc_buckets.proofs.FindingLemmas.{position_hit, position_cons}
use Rattle.scc_buckets.proofs.Inserts.{by_answer}
use Rattle.scc_buckets.specs.Places as spots
use Rattle.scc_buckets.specs.declared.place.Place.{Place}
use Rattle.scc_table.specs.Bounded.{IsListedAt, IsPreparedBelow, GrowsBelow, makes, has_room, is_full, stays, denied, doubles}
use Rattle.scc_table.specs.Places.{IsPlace, spot_of}
use Rattle.scc_table.specs.TwoArrays.{waits_at}
use Rattle.scc_table.proofs.places.OldSpots.{spot-own}
use Rattle.scc_table.proofs.places.Searches.{absent-filter}
use Rattle.scc_table.proofs.resizes.Installation.{number-within}
use Rattle.scc_owned_cache.specs.CacheSteps.{IsAbsent, IsFound, IsLacking, IsPresent, TakesAt, TakesThen, list_number}
use Rattle.scc_owned_cache.specs.Caches.{Cached, IsCacheState}
use Rattle.scc_owned_cache.specs.ListSteps.{list_for, with_list, IsMissing, IsThere, PutsPair}

pub there : {X : Type 0} (xs : List X) (i : ℕ) → i < length xs → (x : X) × (slice_get xs i ≡ Some x)
there [] i h = absurd (omega arith)
there (x ∷ xs) zero h = (x, refl)
there (x ∷ xs) (suc i) h = there xs i (omega arith)

no-zero : (o : Option ℕ) → option_map suc o ≡ Some 0 → ⊥
no-zero None e = let z : None ≡ Some 0 = e in cc
no-zero (Some k) e = let z : Some (suc k) ≡ Some 0 = e in cc

one-less : (o : Option ℕ) (i : ℕ) → option_map suc o ≡ Some (suc i) → o ≡ Some i
one-less None i e = absurd (let z : None ≡ Some (suc i) = e in cc)
one-less (Some k) i e = let z : Some (suc k) ≡ Some (suc i) = e in let w : suc k ≡ suc i = cc in let v : k ≡ i = omega arith in ap (λ x. Some x) v

-- if `position` finds an element, the element passes the test
pub position-passes : {X : Type 0} (p : X → Bool) (xs : List X) (i : ℕ) (e : X) → position p xs ≡ Some i → slice_get xs i ≡ Some e → p e ≡ true
position-passes p [] i e found got = absurd (let n : None ≡ Some e = got in cc)
position-passes p (x ∷ xs) zero e found got =
    let s : x ≡ e = cc in
    by_answer (p x) (λ y. ap p (sym s) ∙ y) (λ y. absurd (no-zero (position p xs) (sym (position_cons p x xs y) ∙ found)))
position-passes p (x ∷ xs) (suc i) e found got =
    by_answer (p x)
    (λ y. absurd (let z : Some 0 ≡ Some (suc i) = sym (position_hit p x xs y) ∙ found in cc))
    (λ y. position-passes p xs i e (one-less (position p xs) i (sym (position_cons p x xs y) ∙ found)) got)

-- if no element of `xs ++ ys` passes, no element of xs passes
absent-left : {X : Type 0} (p : X → Bool) (xs ys : List X) → position p (xs ++ ys) ≡ None → position p xs ≡ None
absent-left p [] ys n = refl
absent-left p (x ∷ xs) ys n = by_answer (p x)
    (λ y. absurd (let z : Some 0 ≡ None = sym (position_hit p x (xs ++ ys) y) ∙ n in cc))
    (λ y. position_cons p x xs y ∙ ap (λ o. option_map suc o) (absent-left p xs ys (absent-rest p x (xs ++ ys) n)))

absent-right : {X : Type 0} (p : X → Bool) (xs ys : List X) → position p (xs ++ ys) ≡ None → position p ys ≡ None
absent-right p [] ys n = n
absent-right p (x ∷ xs) ys n = absent-right p xs ys (absent-rest p x (xs ++ ys) n)

absent-list : {X : Type 0} (p : X → Bool) (ls : List (List X)) (i : ℕ) → position p (flat_map (λ l. l) ls) ≡ None → position p (slice_index_or ls i []) ≡ None
absent-list p [] zero n = refl
absent-list p [] (suc i) n = refl
absent-list p (l ∷ ls) zero n = absent-left p l (flat_map (λ l. l) ls) n
absent-list p (l ∷ ls) (suc i) n = absent-list p ls i (absent-right p l (flat_map (λ l. l) ls) n)

-- if each list has at most 32 elements, all lists together have at most 32 times the number of lists
flat-short : {X : Type 0} (ls : List (List X)) → ((i : ℕ) → length (slice_index_or ls i []) ≤ 32) → length (flat_map (λ l. l) ls) ≤ 32 * length ls
flat-short [] h = omega arith
flat-short (l ∷ ls) h =
    let one = h 0 in
    let rest = flat-short ls (λ i. h (suc i)) in
    let both = length-append l (flat_map (λ l. l) ls) in
    omega arith

-- if a and b are powers of two, and a is less than the double of b, a is at most b
below-double : (a b j k : ℕ) → a ≡ 2 ^ j → b ≡ 2 ^ k → a < 2 * b → a ≤ b
below-double a b j k ea eb l = elim (dec_lt k j) [
  | yes h ↦
      let m : 2 ^ (k + 1) ≤ 2 ^ j = pow_mono {i = k + 1} {j = j} (omega arith) in
      let p : 2 ^ (k + 1) ≡ 2 ^ k * 2 ^ 1 = pow-add 2 k 1 in
      absurd (omega arith)
  | no h ↦ let m : 2 ^ j ≤ 2 ^ k = pow_mono {i = j} {j = k} (omega arith) in omega arith
]

slots-power : (n k : ℕ) → n ≡ 2 ^ k → 32 * n ≡ 2 ^ (k + 5)
slots-power n k e = let p : 2 ^ (k + 5) ≡ 2 ^ k * 2 ^ 5 = pow-add 2 k 5 in omega arith

module _ {E S : Type 0} where
  pub listed-most : (hash : E → ℕ) (c : Contents E S) → IsListed hash c → length (entries c) ≤ 32 * bucket_count c
  unfolding entries bucket_count list_of
  listed-most hash c h = flat-short c.lists h.short

  pub list-count : (c d : Contents E S) (i : ℕ) (es : List E) → HasList c i es d → bucket_count d ≡ bucket_count c
  unfolding bucket_count lists_of
  list-count c d i es h = ap length h.lists ∙ length-set c.lists i es

  pub puts-count : (c d : Contents E S) (i : ℕ) (e : E) (x : Option E) → PutsLast c i e x d → (bucket_count d ≡ bucket_count c) × (settings_of d ≡ settings_of c)
  puts-count c d i e None h = (list-count c d i _ h.1, h.1.settings)
  puts-count c d i e (Some x) h = (list-count c d i _ h.1.2, h.1.2.settings)

  pub grown-within : (hash : E → ℕ) (c d : Contents E S) (m i : ℕ) → GrowsBelow hash m i c d → IsPowerOfTwo m → 64 ≤ m → 32 * bucket_count c ≤ m → minimum_of c ≤ m → 32 * bucket_count d ≤ m
  grown-within hash c d m i (makes none size noted r) w least within least_slots = size.fewest m w least (omega arith)
  grown-within hash c d m i (has_room some room e) w least within least_slots = subst (λ z. 32 * bucket_count z ≤ m) (sym e) within
  grown-within hash c d m i (is_full some full (stays due e)) w least within least_slots = subst (λ z. 32 * bucket_count z ≤ m) (sym e) within
  grown-within hash c d m i (is_full some full (denied due up k)) w least within least_slots = let e = keeps-count c d k in omega arith
  grown-within hash c d m i (is_full some full (doubles due untried down twice r)) w least within least_slots =
      let p = r.array.power in
      let below = due.below in
      below-double (32 * bucket_count d) m (p.0 + 5) w.0 (slots-power (bucket_count d) p.0 p.1) w.1 (omega arith)

  -- if the insertion of a new entry is prepared, its growth keeps the number of buckets
  pub once-grown : (hash : E → ℕ) (c d : Contents E S) (m i : ℕ) → GrowsBelow hash m i c d → IsPreparedBelow m i c → bucket_count d ≡ bucket_count c
  once-grown hash c d m i (makes none size noted r) ready = absurd (let some = ready.0 in omega arith)
  once-grown hash c d m i (has_room some room e) ready = ap bucket_count e
  once-grown hash c d m i (is_full some full (stays due e)) ready = ap bucket_count e
  once-grown hash c d m i (is_full some full (denied due up k)) ready = keeps-count c d k
  once-grown hash c d m i (is_full some full (doubles due untried down twice r)) ready = elim ready.1 as (λ _. bucket_count d ≡ bucket_count c) [
    | inl room ↦ absurd (omega arith)
    | inr q ↦ elim q as (λ _. bucket_count d ≡ bucket_count c) [
      | inl undue ↦ absurd (undue due)
      | inr tried ↦ absurd (let z : true ≡ false = sym tried ∙ untried in cc)
    ]
  ]

  pub shrunk-within : (hash : E → ℕ) (c d : Contents E S) → ShrinksBounded hash c d → (bucket_count d ≤ bucket_count c) × (settings_of d ≡ settings_of c)
  shrunk-within hash c d (stays_wide due e) = (subst (λ z. bucket_count z ≤ bucket_count c) (sym e) (omega arith), ap settings_of e)
  shrunk-within hash c d (denied_narrow n s up marked k) = (let e = keeps-count c d k in omega arith, k.settings)
  shrunk-within hash c d (narrows s least down marked r) = (let f = s.fewer in omega arith, r.lists.settings)

module _ {K V S : Type 0} (eq : K → K → Bool) where
  -- if lists, slots and minimum stay lawful, d still meets `IsCacheState`
  pub state-after : (hash hash' : K → ℕ) (c d : Contents (K × V) S) (m : ℕ) → IsCacheState eq hash (record { contents = c; maximum = m }) → IsListed (λ p. hash' p.0) d → IsUnique eq d → settings_of d ≡ settings_of c → 32 * bucket_count d ≤ m
      → IsCacheState eq hash' (record { contents = d; maximum = m })
  state-after hash hash' c d m h lists unique settings within =
      let least = h.minimum in
      let same : minimum_of d ≡ minimum_of c = ap (λ s. s.asked + s.reserved) settings in
      record { lists = lists; unique = unique; within = within; power = h.power; least = h.least; most = h.most; minimum = omega arith }

  pub missing-grown : (number : ℕ → K → ℕ) (c : Contents (K × V) S) (k : K) → position (λ p. eq k p.0) (entries c) ≡ None → IsMissing number eq (lists_of c) k
  unfolding entries lists_of
  missing-grown number c k none = absent-list (λ p. eq k p.0) c.lists (number (length c.lists) k) none

  -- a put of an entry at the end of its list is a put of a pair
  pub puts-pair : (number : ℕ → K → ℕ) (c d : Contents (K × V) S) (i : ℕ) (p : K × V) (x : Option (K × V)) → IsMissing number eq (lists_of c) p.0 → i ≡ number (bucket_count c) p.0 → 0 < bucket_count c → PutsLast c i p x d
      → PutsPair number eq p x (lists_of c) (lists_of d)
  unfolding list_of lists_of bucket_count
  puts-pair number c d i p None missing e some h =
      (missing, some, subst (λ j. length (slice_index_or c.lists j []) < 32) e h.0, subst (λ j. d.lists ≡ slice_set c.lists j (slice_index_or c.lists j [] ++ p ∷ [])) e h.1.lists)
  puts-pair number c d i p (Some x) missing e some h =
      (missing, subst (λ j. 32 ≤ length (slice_index_or c.lists j [])) e h.0, (h.1.0, subst (λ j. slice_index_or c.lists j [] ≡ x ∷ h.1.0) e h.1.1, subst (λ j. d.lists ≡ slice_set c.lists j (h.1.0 ++ p ∷ [])) e h.1.2.lists))

  pub puts-refused : (c d : Contents (K × V) S) (i : ℕ) (p : K × V) (x : Option (K × V)) → PutsLast c i p x d → notes_of d ≡ notes_of c
  puts-refused c d i p None h = h.1.refused
  puts-refused c d i p (Some x) h = h.1.2.refused

  -- facts about list i, the list of k, as facts about all lists
  module _ (number : ℕ → K → ℕ) (c : Contents (K × V) S) (k : K) (i : ℕ) (e : i ≡ number (bucket_count c) k) where
    pub list-is : list_of c i ≡ list_for number (lists_of c) k
    unfolding list_of lists_of bucket_count
    list-is = ap (λ j. slice_index_or c.lists j []) e

    pub is-there : (j : ℕ) (p : K × V) → position (λ q. eq k q.0) (list_of c i) ≡ Some j → slice_get (list_of c i) j ≡ Some p → IsThere number eq (lists_of c) k j p
    is-there j p found got = record {
      first = subst (λ es. position (λ (q : K × V). eq k q.0) es ≡ Some j) list-is found;
      pair = subst (λ es. slice_get es j ≡ Some p) list-is got;
    }

    pub is-missing : position (λ q. eq k q.0) (list_of c i) ≡ None → IsMissing number eq (lists_of c) k
    is-missing none = subst (λ es. position (λ (q : K × V). eq k q.0) es ≡ None) list-is none

    pub sets-list : (F : List (K × V) → List (K × V)) (d : Contents (K × V) S) → HasList c i (F (list_of c i)) d → lists_of d ≡ with_list number (lists_of c) k (F (list_for number (lists_of c) k))
    unfolding list_of lists_of bucket_count
    sets-list F d h = subst (λ j. d.lists ≡ slice_set c.lists j (F (slice_index_or c.lists j []))) e h.lists

  pub state-empty : (hash : K → ℕ) (c : Contents (K × V) S) (m : ℕ) → IsListed (λ p. hash p.0) c → entries c ≡ [] → IsPowerOfTwo m → 64 ≤ m → m ≤ 2 ^ 63 → 32 * bucket_count c ≤ m → minimum_of c ≤ m → IsCacheState eq hash (record { contents = c; maximum = m })
  unfolding IsDistinct
  state-empty hash c m lists none power least most within minimum =
      record { lists = lists; unique = rw none tt; within = within; power = power; least = least; most = most; minimum = minimum }

module _ {K V S : Type 0} (hash : K → ℕ) (eq : K → K → Bool) (c : Contents (K × V) S) (k : K) where
  pub is-lacking : (i : ℕ) → i ≡ list_number hash c (bucket_count c) k → IsUnlisted (λ p. eq k p.0) c i → IsLacking hash eq c k
  is-lacking i e h = record { absent = is-missing eq (list_number hash c) c k i e h.list; all = h.all }

  pub is-found : (i : ℕ) (p : Place) → i ≡ list_number hash c (bucket_count c) k → IsListedAt (λ q. eq k q.0) c i p → IsFound hash eq c k p
  is-found i p e h =
      let s = spot_of c p in
      let q = there (list_of c s.bucket) s.slot h.within.slot in
      let same : s.bucket ≡ list_number hash c (bucket_count c) k = h.bucket ∙ e in
      record {
        within = h.within;
        bucket = same;
        pair = q.0;
        there = is-there eq (list_number hash c) c k s.bucket same s.slot q.0 (ap (λ j. position (λ (x : K × V). eq k x.0) (list_of c j)) h.bucket ∙ h.found) q.1;
        here = q.1;
      }

  pub found-or-lacking : (i : ℕ) (r : Option Place) → i ≡ list_number hash c (bucket_count c) k → MatchOption r (IsUnlisted (λ p. eq k p.0) c i) (IsListedAt (λ q. eq k q.0) c i) → MatchOption r (IsLacking hash eq c k) (IsFound hash eq c k)
  found-or-lacking i None e m = is-lacking i e m
  found-or-lacking i (Some p) e m = is-found i p e m

-- the last element of `xs ++ x ∷ []` is x
pub last-is : {X : Type 0} (xs : List X) (x : X) (n : ℕ) → suc n ≡ length (xs ++ x ∷ []) → slice_get (xs ++ x ∷ []) n ≡ Some x
last-is [] x zero e = refl
last-is [] x (suc n) e = absurd (omega arith)
last-is (y ∷ xs) x zero e = absurd (let z = length-append xs (x ∷ []) in omega arith)
last-is (y ∷ xs) x (suc n) e = last-is xs x n (omega arith)

module _ {E S : Type 0} (c d : Contents E S) (i : ℕ) (es : List E) (e : E) (h : HasList c i (es ++ e ∷ []) d) (l : i < bucket_count c) where
  pub last-length : length (list_of d i) ≡ suc (length es)
  last-length = let z = length-append es (e ∷ []) in ap length (has-list-of c d i (es ++ e ∷ []) h l) ∙ (let y : length (es ++ e ∷ []) ≡ suc (length es) = omega arith in y)

  -- the entry that was put at the end of list i stands at the last slot of the list
  pub last-place : (n : ℕ) → suc n ≡ length (list_of d i) → spots.IsSpot d (record { bucket = i; slot = n }) × (slice_get (list_of d i) n ≡ Some e)
  last-place n s = (
    record { bucket = rw (list-count c d i (es ++ e ∷ []) h) l; slot = omega arith },
    rw (has-list-of c d i (es ++ e ∷ []) h l) (last-is es e n (s ∙ ap length (has-list-of c d i (es ++ e ∷ []) h l))),
  )

pub put-place : {E S : Type 0} (c d : Contents E S) (i : ℕ) (e : E) (x : Option E) → PutsLast c i e x d → i < bucket_count c → (n : ℕ) → suc n ≡ length (list_of d i) → spots.IsSpot d (record { bucket = i; slot = n }) × (slice_get (list_of d i) n ≡ Some e)
put-place c d i e None h l = last-place c d i _ e h.1 l
put-place c d i e (Some x) h l = last-place c d i _ e h.1.2 l

-- if a bucket doesn't wait, a place in the bucket is its own spot
pub at-spot : {E S : Type 0} (d : Contents E S) (p : Place) (e : E) → spots.IsSpot d p × (slice_get (list_of d p.bucket) p.slot ≡ Some e) → waits_at (waiting_of d) p.bucket ≡ false
    → IsPlace d p × (slice_get (list_of d (spot_of d p).bucket) (spot_of d p).slot ≡ Some e)
at-spot d p e h down = subst (λ (q : Place). spots.IsSpot d q × (slice_get (list_of d q.bucket) q.slot ≡ Some e)) (sym (spot-own (waiting_of d) (owed_of d) (bucket_count d) p h.0.bucket down)) h

-- a change of list i, as a change of all lists
pub lists-set : {E S : Type 0} (c d : Contents E S) (i : ℕ) (F : List E → List E) → HasList c i (F (list_of c i)) d → lists_of d ≡ slice_set (lists_of c) i (F (slice_index_or (lists_of c) i []))
unfolding list_of lists_of
lists-set c d i F h = h.lists

-- a removal at the place of k removes the pair of k
pub takes-found : {K V S : Type 0} (hash : K → ℕ) (eq : K → K → Bool) (c d : Cached (K × V) S) (k : K) (p : Place) (x : K × V) → IsFound hash eq c.contents k p → slice_get (list_of c.contents (spot_of c.contents p).bucket) (spot_of c.contents p).slot ≡ Some x → TakesAt hash c p d → TakesThen hash eq c k x d
unfolding bucket_count lists_of list_of
takes-found hash eq c d k p x f got (left, change, shrinks) =
    let e = f.bucket in
    let t : (f.pair ≡ x) = let s : Some f.pair ≡ Some x = sym f.here ∙ got in cc in (
      left,
      record {
        lists = ((spot_of c.contents p).slot, subst (λ y. IsThere (list_number hash c.contents) eq (lists_of c.contents) k (spot_of c.contents p).slot y) t f.there, change.lists ∙ ap (λ j. slice_set c.contents.lists j (remove (slice_index_or c.contents.lists j []) (spot_of c.contents p).slot)) e);
        settings = change.settings;
        refused = change.refused;
        maximum = change.maximum;
      },
      shrinks,
    )

-- the entry at the place of k is the pair of k
pub shows-pair : {K V S : Type 0} (hash : K → ℕ) (eq : K → K → Bool) (c : Contents (K × V) S) (k : K) (p : Place) (x : K × V) → IsFound hash eq c k p → slice_get (list_of c (spot_of c p).bucket) (spot_of c p).slot ≡ Some x → IsPresent hash eq c k x
shows-pair hash eq c k p x f got =
    let t : f.pair ≡ x = let s : Some f.pair ≡ Some x = sym f.here ∙ got in cc in
    ((spot_of c p).slot, subst (λ y. IsThere (list_number hash c) eq (lists_of c) k (spot_of c p).slot y) t f.there)

-- the key of the entry at the place of k equals k
pub found-equal : {K V S : Type 0} (hash : K → ℕ) (eq : K → K → Bool) (c : Contents (K × V) S) (k : K) (p : Place) (x : K × V) → IsFound hash eq c k p → slice_get (list_of c (spot_of c p).bucket) (spot_of c p).slot ≡ Some x → eq k x.0 ≡ true
found-equal hash eq c k p x f got = let s = shows-pair hash eq c k p x f got in position-passes (λ q. eq k q.0) _ s.0 x s.1.first s.1.pair

module _ {K V S : Type 0} (eq : K → K → Bool) (hash : K → ℕ) (c d : Contents (K × V) S) (k : K) where
  missing-regrouped : IsRegrouped (λ p. hash p.0) (bucket_count d) c d → 0 < bucket_count d → position (λ p. eq k p.0) (entries c) ≡ None → IsAbsent hash eq d k
  missing-regrouped r some gone =
      let i = list_number hash d (bucket_count d) k in
      let moved = r.each i (number-within _ _ _ some) in
      is-missing eq (list_number hash d) d k i refl (ap (position (λ p. eq k p.0)) moved ∙ absent-filter (λ p. eq k p.0) _ (entries c) gone)

  -- a key that is missing is missing after the growth that a put makes first
  pub missing-made : (m i : ℕ) → GrowsBelow (λ p. hash p.0) m i c d → 0 < bucket_count d → position (λ p. eq k p.0) (entries c) ≡ None → IsAbsent hash eq d k
  missing-made m i (makes none size noted r) some gone = missing-regrouped r.lists some gone
  missing-made m i (has_room there room e) some gone = subst (λ x. IsAbsent hash eq x k) (sym e) (missing-grown eq (list_number hash c) c k gone)
  missing-made m i (is_full there full (stays due e)) some gone = subst (λ x. IsAbsent hash eq x k) (sym e) (missing-grown eq (list_number hash c) c k gone)
  missing-made m i (is_full there full (denied due up h)) some gone = missing-grown eq (list_number hash d) d k (ap (position (λ p. eq k p.0)) (keeps-entries c d h) ∙ gone)
  missing-made m i (is_full there full (doubles due untried down twice r)) some gone = missing-regrouped r.lists some gone
