-- Tables of two arrays whose lists hold at most 32 entries each.
use Rattle.std.proofs.Common.{◌≡◌, ◌==◌, ◌≢◌, ℕ, zero, suc, ◌+◌, ◌*◌, ◌/◌, ◌<◌, ◌≤◌, ◌⊎◌, inl, inr, Bool, true, false, Option, None, Some, List, [], ◌∷◌, ◌++◌, length, set, get_or, take, drop, refl, sym, ap, ◌∙◌, subst, arith, div-lt_iff_lt-mul, eqb-true, eq-eqb, get_or-take, get_or-drop, length-append, length-take, mul_comm}
use Rattle.std.specs.List.{count_by, filter, flat_map, slice_get}
use Rattle.std.proofs.lemmas.List.{append-nil, get_or_past, take_more, take-append-drop}
use Rattle.std.proofs.lemmas.List.Concat.{flat_map-append}
use native.Mathlib.Decide.{dec_lt}
use Rattle.scc_buckets.specs.Bounded.{HasList, IsBounded, IsListed, IsResized, PutsLast}
use Rattle.scc_common.specs.Contents.{Contents, Settings, entries, bucket_count, list_of, lists_of, notes_of, settings_of}
use Rattle.scc_buckets.specs.Pour.{destined_for}
use Rattle.scc_common.specs.Routing.{bucket_number}
use Rattle.scc_common.specs.Sizes.{IsBucketCount, IsLawful}
use Rattle.scc_buckets.proofs.Bounds.{none-there}
use Rattle.scc_buckets.proofs.PairSplits.{by_answer}
use Rattle.scc_buckets.proofs.Pours.{destined_append}
use Rattle.scc_table.specs.Relocates.{AreShort}
use Rattle.scc_draining.specs.Waiting.{cleared}
use Rattle.scc_table.specs.TwoArrays.{IsWaiting, waits_at}
use Rattle.scc_buckets.proofs.Bare.{nil-left}
use Rattle.scc_draining.proofs.Counted.{destined-le}
use Rattle.scc_table.proofs.resizes.Doubling.{filter-both}
use Rattle.scc_table.proofs.places.OneList.{destined-own, filter-all, filter-no, listed-is}
use Rattle.scc_draining.proofs.Numbers.{number-div, quotient, some-quotient}
use Rattle.scc_table.proofs.relocations.Fields.{count-is, list-is}
use Rattle.scc_table.proofs.arrays.SameParts.{list-same, listed-same}
use Rattle.scc_table.proofs.resizes.Installation.{powers-multiples}

none-in : {X : Type 0} (ls : List (List X)) (i : ℕ) → flat_map (λ l. l) ls ≡ [] → get_or ls i [] ≡ []
none-in [] i h = refl
none-in (l ∷ ls) zero h = (nil-left l (flat_map (λ x. x) ls) h).0
none-in (l ∷ ls) (suc i) h = none-in ls i (nil-left l (flat_map (λ x. x) ls) h).1

module _ {E S : Type 0} where
  pub short-listed : (hash : E → ℕ) (c : Contents E S) → IsListed hash c → AreShort c
  short-listed hash c h = record { short = λ i up. h.short i }

  -- `AreShort` stays if the lists stay and no bucket starts to wait
  pub short-later : (c d : Contents E S) → lists_of d ≡ lists_of c → ((i : ℕ) → IsWaiting d i → IsWaiting c i) → AreShort c → AreShort d
  short-later c d lists fewer s = record { short = λ i up. subst (λ z. length z ≤ 32) (sym (list-same c d lists i)) (s.short i (fewer i up)) }

  -- `IsListed` stays if the lists and the settings, and so the hasher, stay
  pub listed-later : (hash : Settings S → E → ℕ) (c d : Contents E S) → lists_of d ≡ lists_of c → settings_of d ≡ settings_of c → IsBounded d → IsListed (hash (settings_of c)) c → IsListed (hash (settings_of d)) d
  listed-later hash c d lists settings bounded h = subst (λ s. IsListed (hash s) d) (sym settings) (listed-same c d lists (hash (settings_of c)) settings (bounded ∙ sym h.bounded) h)

  -- if the settings stay, `IsListed` by the hash of c is `IsListed` by the hash of d
  pub listed-anew : (hash : Settings S → E → ℕ) (c d : Contents E S) → settings_of d ≡ settings_of c → IsListed (hash (settings_of c)) d → IsListed (hash (settings_of d)) d
  listed-anew hash c d settings h = subst (λ s. IsListed (hash s) d) (sym settings) h

  -- after a resize, `IsListed` holds if each bucket gets at most 32 entries
  pub listed-resized : (hash : E → ℕ) (c d : Contents E S) → IsResized hash c d → ((i : ℕ) → i < bucket_count d → length (destined_for hash (settings_of c).skipped (bucket_count d) i (entries c)) ≤ 32) → IsListed hash d
  listed-resized hash c d r short = record {
    lawful = inr r.array;
    bounded = r.bounded;
    short = λ i. elim (dec_lt i (bucket_count d)) [
      | yes l ↦ subst (λ z. length z ≤ 32) (sym (r.lists.each i l)) (short i l)
      | no l ↦ let none : list_of d i ≡ [] = list-is d i ∙ get_or_past (lists_of d) i [] (omega (arith, count-is d)) in subst (λ z. length z ≤ 32) (sym none) (omega arith)
    ];
    routed = λ i j e got. elim (dec_lt i (bucket_count d)) [
      | yes l ↦ ap (λ s. bucket_number s.skipped (bucket_count d) (hash e)) r.lists.settings ∙ destined-own hash (settings_of c).skipped (bucket_count d) i (entries c) j e (rw (r.lists.each i l) at got)
      | no l ↦ none-there (list_of d i) j e (list-is d i ∙ get_or_past (lists_of d) i [] (omega (arith, count-is d))) got
    ];
  }

  -- if there are no entries, each list is empty
  pub list-none : (d : Contents E S) → entries d ≡ [] → (i : ℕ) → list_of d i ≡ []
  unfolding entries list_of
  list-none d none i = none-in d.lists i none

  pub listed-none : (hash : E → ℕ) (d : Contents E S) → IsBucketCount (bucket_count d) → IsBounded d → entries d ≡ [] → IsListed hash d
  listed-none hash d array bounded none = record {
    lawful = inr array;
    bounded = bounded;
    short = λ i. subst (λ z. length z ≤ 32) (sym (list-none d none i)) (omega arith);
    routed = λ i j e got. none-there (list_of d i) j e (list-none d none i) got;
  }

  -- making the first array, without entries, is a resize as `IsResized` says
  pub first-resized : (hash : E → ℕ) (a d : Contents E S) → entries a ≡ [] → entries d ≡ [] → settings_of d ≡ settings_of a → IsBucketCount (bucket_count d) → IsBounded d → IsResized hash a d
  first-resized hash a d bare still settings array bounded = record {
    array = array;
    lists = record { count = refl; each = λ i l. list-none d still i ∙ sym (ap (destined_for hash (settings_of a).skipped (bucket_count d) i) bare); settings = settings };
    bounded = bounded;
  }

  -- after the number of buckets doubles, each bucket has at most 32 entries
  pub short-doubled : (hash : E → ℕ) (c : Contents E S) → IsListed hash c → (i : ℕ) → length (destined_for hash (settings_of c).skipped (2 * bucket_count c) i (entries c)) ≤ 32
  short-doubled hash c h i =
      let s = (settings_of c).skipped in
      let n = bucket_count c in
      let p : E → Bool = λ e. bucket_number s (2 * n) (hash e) == i in
      let q : E → Bool = λ e. bucket_number s n (hash e) == i / 2 in
      let shrink_sparse_within = λ (e : E) (a : p e ≡ true). eq-eqb (bucket_number s n (hash e)) (i / 2) (sym (number-div s n 2 (hash e) (omega arith)) ∙ ap (λ z. z / 2) (eqb-true _ _ a)) in
      let same : filter p (entries c) ≡ filter p (list_of c (i / 2)) = sym (filter-both p q shrink_sparse_within (entries c)) ∙ ap (filter p) (listed-is hash c (i / 2) (record { routed = h.routed })) in
      let few = destined-le hash s (2 * n) i (list_of c (i / 2)) in
      let less = h.short (i / 2) in
      let count : length (filter p (entries c)) ≡ length (filter p (list_of c (i / 2))) = ap length same in
      omega arith

-- a bucket that is relocated doesn't wait
set-here : (ws : List Bool) (i : ℕ) → waits_at (set ws i false) i ≡ false
set-here [] i = refl
set-here (w ∷ ws) zero = refl
set-here (w ∷ ws) (suc i) = set-here ws i

pub settle-here : (ws : List Bool) (i : ℕ) → waits_at (cleared ws i) i ≡ false
settle-here ws i = by_answer (count_by (λ w. w) (set ws i false) == 0) (λ q. rw q refl) (λ q. rw q (set-here ws i))

-- if j is at least i * r and below i * r + r, the quotient of j by r is i
quotient-is : (j i r : ℕ) → 0 < r → i * r ≤ j → j < i * r + r → j / r ≡ i
quotient-is j i r pos low high =
    let more : suc i * r ≡ r + i * r = omega arith in
    let up : j / r < suc i = (div-lt_iff_lt-mul {k = r} {x = j} {y = suc i} pos).1 (omega arith) in
    elim (dec_lt (j / r) i) [
      | yes q ↦ absurd (let w : j < i * r = (div-lt_iff_lt-mul {k = r} {x = j} {y = i} pos).0 q in omega arith)
      | no q ↦ omega arith
    ]

quotient-other : (j i r : ℕ) → 0 < r → (j < i * r) ⊎ (i * r + r ≤ j) → j / r ≢ i
quotient-other j i r pos (inl low) same = absurd (let w : j / r < i = (div-lt_iff_lt-mul {k = r} {x = j} {y = i} pos).1 low in omega arith)
quotient-other j i r pos (inr high) same =
    let more : suc i * r ≡ r + i * r = omega arith in
    absurd (let w : j < suc i * r = (div-lt_iff_lt-mul {k = r} {x = j} {y = suc i} pos).0 (omega arith) in omega arith)

-- if i is below n, row number i of r numbers ends within n rows
pub row-within : (i n r : ℕ) → i < n → i * r + r ≤ n * r
row-within i zero r l = absurd (omega arith)
row-within zero (suc n) r l = let z : suc n * r ≡ r + n * r = omega arith in omega arith
row-within (suc i) (suc n) r l =
    let less = row-within i n r (omega arith) in
    let a : suc i * r ≡ r + i * r = omega arith in
    let z : suc n * r ≡ r + n * r = omega arith in
    omega arith

destined-none : {E : Type 0} (hash : E → ℕ) (t n i : ℕ) (ls : List (List E)) → ((j : ℕ) → destined_for hash t n i (get_or ls j []) ≡ []) → destined_for hash t n i (flat_map (λ l. l) ls) ≡ []
destined-none hash t n i [] h = refl
destined-none hash t n i (l ∷ ls) h =
    destined_append hash t n i l (flat_map (λ x. x) ls) ∙ ap (λ z. z ++ destined_for hash t n i (flat_map (λ x. x) ls)) (h 0) ∙ destined-none hash t n i ls (λ j. h (suc j))

-- the entries of the lists before list k
abbrev pub entries_until : {E S : Type 0} → Contents E S → ℕ → List E
entries_until c k = flat_map (λ l. l) (take k (lists_of c))

-- with n buckets instead of n * r, bucket i has the entries of r lists in a row, from list i * r on
module _ {E S : Type 0} (hash : E → ℕ) (c : Contents E S) (listed : IsListed hash c) (n r : ℕ) (even : n * r ≡ bucket_count c) (pos : 0 < r) (i : ℕ) where
  target-of : (j m : ℕ) (e : E) → slice_get (list_of c j) m ≡ Some e → bucket_number (settings_of c).skipped n (hash e) ≡ j / r
  target-of j m e got =
      let t = (settings_of c).skipped in
      sym (number-div t n r (hash e) pos) ∙ ap (λ k. bucket_number t k (hash e) / r) (mul_comm r n ∙ even) ∙ ap (λ z. z / r) (listed.routed j m e got)

  list-own : (j : ℕ) → i * r ≤ j → j < i * r + r → destined_for hash (settings_of c).skipped n i (list_of c j) ≡ list_of c j
  list-own j low high = filter-all (λ e. bucket_number (settings_of c).skipped n (hash e)) i (list_of c j) (λ m e got. target-of j m e got ∙ quotient-is j i r pos low high)

  list-other : (j : ℕ) → (j < i * r) ⊎ (i * r + r ≤ j) → destined_for hash (settings_of c).skipped n i (list_of c j) ≡ []
  list-other j out = filter-no (λ e. bucket_number (settings_of c).skipped n (hash e)) i (j / r) (quotient-other j i r pos out) (list_of c j) (target-of j)

  listed-get : (j : ℕ) → destined_for hash (settings_of c).skipped n i (get_or (lists_of c) j []) ≡ destined_for hash (settings_of c).skipped n i (list_of c j)
  listed-get j = ap (destined_for hash (settings_of c).skipped n i) (sym (list-is c j))

  pub joined-start : length (destined_for hash (settings_of c).skipped n i (entries_until c (i * r))) ≡ 0
  joined-start = ap length (destined-none hash (settings_of c).skipped n i (take (i * r) (lists_of c)) (λ j. elim (dec_lt j (i * r)) [
    | yes q ↦ ap (destined_for hash (settings_of c).skipped n i) (get_or-take (i * r) (lists_of c) j [] q) ∙ listed-get j ∙ list-other j (inl q)
    | no q ↦ ap (destined_for hash (settings_of c).skipped n i) (get_or_past (take (i * r) (lists_of c)) j [] (omega (arith, length-take (i * r) (lists_of c))))
  ]))

  pub joined-more : (k : ℕ) → i * r ≤ k → k < i * r + r → k < bucket_count c → length (destined_for hash (settings_of c).skipped n i (entries_until c (k + 1))) ≡ length (destined_for hash (settings_of c).skipped n i (entries_until c k)) + length (list_of c k)
  joined-more k low high within =
      let t = (settings_of c).skipped in
      let ls = lists_of c in
      let xs = entries_until c k in
      let l : k < length ls = omega (arith, count-is c) in
      let more : entries_until c (k + 1) ≡ xs ++ list_of c k = ap (flat_map (λ x. x)) (take_more ls k [] l) ∙ flat_map-append (λ x. x) (take k ls) (get_or ls k [] ∷ []) ∙ ap (λ z. xs ++ z) (append-nil (get_or ls k []) ∙ sym (list-is c k)) in
      ap (λ z. length (destined_for hash t n i z)) more ∙ ap length (destined_append hash t n i xs (list_of c k)) ∙ ap (λ z. length (destined_for hash t n i xs ++ z)) (list-own k low high) ∙ length-append (destined_for hash t n i xs) (list_of c k)

  pub joined-end : length (destined_for hash (settings_of c).skipped n i (entries_until c (i * r + r))) ≡ length (destined_for hash (settings_of c).skipped n i (entries c))
  unfolding entries lists_of
  joined-end =
      let t = (settings_of c).skipped in
      let k = i * r + r in
      let xs = entries_until c k in
      let ys = flat_map (λ l. l) (drop k (lists_of c)) in
      let parts : entries c ≡ xs ++ ys = ap (flat_map (λ l. l)) (sym (take-append-drop k (lists_of c))) ∙ flat_map-append (λ l. l) (take k (lists_of c)) (drop k (lists_of c)) in
      let none : destined_for hash t n i ys ≡ [] = destined-none hash t n i (drop k (lists_of c)) (λ j. ap (destined_for hash t n i) (get_or-drop k (lists_of c) j []) ∙ listed-get (k + j) ∙ list-other (k + j) (inr (omega arith))) in
      sym (ap (λ z. length (destined_for hash t n i z)) parts ∙ ap length (destined_append hash t n i xs ys) ∙ ap (λ z. length (destined_for hash t n i xs ++ z)) none ∙ ap length (append-nil (destined_for hash t n i xs)))

-- c and m have equal lists: `HasList` and `PutsLast` hold from c if they hold from m, and to m if they hold to c
module _ {E S : Type 0} (c m : Contents E S) (lists : lists_of m ≡ lists_of c) (settings : settings_of m ≡ settings_of c) (refused : notes_of m ≡ notes_of c) where
  has-from : (d : Contents E S) (i : ℕ) (es : List E) → HasList m i es d → HasList c i es d
  has-from d i es h = record { lists = h.lists ∙ ap (λ ls. set ls i es) lists; settings = h.settings ∙ settings; refused = h.refused ∙ refused; bounded = h.bounded }

  pub puts-from : (d : Contents E S) (i : ℕ) (e : E) (o : Option E) → PutsLast m i e o d → PutsLast c i e o d
  puts-from d i e None t =
      let same = list-same c m lists i in
      (subst (λ z. length z < 32) same t.0, subst (λ z. HasList c i (z ++ e ∷ []) d) same (has-from d i (list_of m i ++ e ∷ []) t.1))
  puts-from d i e (Some x) t =
      let same = list-same c m lists i in
      (subst (λ z. 32 ≤ length z) same t.0, (t.1.0, sym same ∙ t.1.1, has-from d i (t.1.0 ++ e ∷ []) t.1.2))

  has-later : (b : Contents E S) (i : ℕ) (es : List E) → IsBounded m → HasList b i es c → HasList b i es m
  has-later b i es bounded h = record { lists = lists ∙ h.lists; settings = settings ∙ h.settings; refused = refused ∙ h.refused; bounded = bounded }

  pub puts-later : (b : Contents E S) (i : ℕ) (e : E) (o : Option E) → IsBounded m → PutsLast b i e o c → PutsLast b i e o m
  puts-later b i e None bounded t = (t.0, has-later b i (list_of b i ++ e ∷ []) bounded t.1)
  puts-later b i e (Some x) bounded t = (t.0, (t.1.0, t.1.1, has-later b i (t.1.0 ++ e ∷ []) bounded t.1.2))

-- if n is below m, and both are lawful numbers of buckets, n divides m without a rest
pub even-parts : (m n : ℕ) → IsLawful m → IsBucketCount n → n < m → ((m / n) * n ≡ m) × (0 < m / n)
even-parts m n lawful array less = elim lawful [
  | inl z ↦ absurd (omega arith)
  | inr z ↦
      let many = powers-multiples n m array.power z.power (λ e. absurd (omega arith)) in
      let least = array.least in
      let e = quotient n m (omega arith) (omega arith) many in
      (e, some-quotient (m / n) n m e (omega arith))
]
