-- A new current array: each of its buckets waits for entries of the old array.
use Rattle.std.proofs.Common.{◌≡◌, ◌==◌, ◌≢◌, ℕ, suc, ◌+◌, ◌*◌, ◌-◌, ◌%◌, ◌^◌, ◌<◌, ◌≤◌, inr, Bool, true, false, not, cond, List, [], ◌∷◌, ◌++◌, length, map, get_or, replicate, refl, sym, ap, ◌∙◌, subst, arith, rules, eqb-true}
use Rattle.std.specs.Cmp.{IsEquivalence}
use Rattle.std.specs.Int.{IsPowerOfTwo}
use Rattle.std.specs.List.{filter, flat_map, count_by, All, IsDistinct}
use Rattle.std.specs.List.Sorted.{IsPermutation}
use Rattle.std.proofs.Math.Nat.{mod-lt, div-lt_iff_lt-mul}
use Rattle.std.proofs.lemmas.List.{get_or-replicate, length-replicate, get_or_past}
use Rattle.std.proofs.lemmas.List.Elements.{All-filter, filter_passes}
use Rattle.std.proofs.lemmas.List.Folds.{sum_by-replicate}
use Rattle.std.proofs.lemmas.List.Sorted.{IsPermutation-refl, IsPermutation-trans, IsPermutation-map, IsPermutation-append_right, IsPermutation-filter_both}
use Rattle.std.proofs.lemmas.Map.Keys.{IsDistinct-IsPermutation}
use Rattle.std.proofs.Math.Nat.{mul-lt-mul_of_pos_right}
use lib.Pow.{pow_mono, pow-add}
use native.Mathlib.Decide.{dec_lt}
use Rattle.scc_array.specs.Shelves.{shelf_of}
use Rattle.scc_array.specs.Shelf.{Shelf, shelf_entries, empty_shelf}
use Rattle.scc_common.specs.Contents.{Contents, entries, bucket_count, list_of, lists_of, settings_of, overflow_of}
use Rattle.scc_buckets.specs.Pour.{destined_for, IsRegrouped}
use Rattle.scc_common.specs.Routing.{bucket_number}
use Rattle.scc_common.specs.Sizes.{IsBucketCount}
use Rattle.scc_buckets.specs.Tables.{IsBuckets}
use Rattle.scc_buckets.proofs.Arrays.{shelf-at}
use Rattle.scc_buckets.proofs.PairSplits.{by_answer}
use Rattle.scc_draining.specs.Moves.{AreMultiples, grown, shrunk}
use Rattle.scc_table.specs.TwoArrays.{IsTable, joined, target_by, together, TwoArrays, waits_at}
use Rattle.scc_draining.proofs.Arriving.{list-were}
use Rattle.scc_table.proofs.arrays.JoinedLists.{count-together, settings-together}
use Rattle.scc_table.proofs.relocations.Preparation.{waiting-list}
use Rattle.scc_table.proofs.relocations.Fields.{count-is, list-is}
use Rattle.scc_draining.proofs.Others.{not_equal}
use Rattle.scc_draining.proofs.Sublists.{filter-none}

greater : (a b m n : ℕ) → a < b → m ≡ 2 ^ a → n ≡ 2 ^ b → (1 < 2 ^ (b - a)) × (n ≡ 2 ^ (b - a) * m)
greater a b m n less em en =
    let least : 2 ^ 1 ≤ 2 ^ (b - a) = pow_mono {i = 1} {j = b - a} (omega arith) in
    let split : b ≡ (b - a) + a = omega arith in
    (omega arith, en ∙ ap (λ j. 2 ^ j) split ∙ pow-add 2 (b - a) a ∙ ap (λ z. 2 ^ (b - a) * z) (sym em))

-- if two powers of two differ, one is a multiple of the other
pub powers-multiples : (m n : ℕ) → IsPowerOfTwo m → IsPowerOfTwo n → n ≢ m → AreMultiples m n
powers-multiples m n p q ne = elim (dec_lt p.0 q.0) [
  | yes h ↦ let g = greater p.0 q.0 m n h p.1 q.1 in grown (2 ^ (q.0 - p.0)) g.0 g.1
  | no h ↦ elim (dec_lt q.0 p.0) [
    | yes k ↦ let g = greater q.0 p.0 n m k q.1 p.1 in shrunk (2 ^ (p.0 - q.0)) g.0 g.1
    | no k ↦ let same : q.0 ≡ p.0 = omega arith in absurd (ne (q.1 ∙ ap (λ j. 2 ^ j) same ∙ sym p.1))
  ]
]

-- the number of the bucket of a hash is below n, the number of buckets
pub number-within : (t n h : ℕ) → 0 < n → bucket_number t n h < n
number-within t n h some =
    let x : ℕ = (h * 2 ^ t) % 2 ^ 64 in
    let low : x < 2 ^ 64 = mod-lt (h * 2 ^ t) (omega arith) in
    let less : x * n < 2 ^ 64 * n = mul-lt-mul_of_pos_right low some in
    let turned : x * n < n * 2 ^ 64 = omega arith in
    (div-lt_iff_lt-mul {k = 2 ^ 64} {x = x * n} {y = n} (omega arith)).1 turned

equal : (a b : ℕ) → a ≡ b → (a == b) ≡ true
equal a b h = search rules

module _ {E : Type 0} (f : E → ℕ) where
  -- leaving out the entries of bucket i leaves out no entry of another bucket k
  filter-others : (k i : ℕ) → k ≢ i → (es : List E) → filter (λ e. f e == k) (filter (λ e. not (f e == i)) es) ≡ filter (λ e. f e == k) es
  filter-others k i ne [] = refl
  filter-others k i ne (e ∷ es) = by_answer (f e == i)
      (λ q.
      let other : (f e == k) ≡ false = not_equal _ _ (λ z. ne (sym z ∙ eqb-true (f e) i q)) in
      rw (q, other) (filter-others k i ne es))
      (λ q. rw q (ap (λ z. cond (f e == k) (e ∷ z) z) (filter-others k i ne es)))

  joined-like : (a : ℕ) (ws : List Bool) (ls : List (List E)) (es os : List E) → ((k : ℕ) → a ≤ k → filter (λ e. f e == k) es ≡ filter (λ e. f e == k) os) → joined f a ws ls es ≡ joined f a ws ls os
  joined-like a [] ls es os h = refl
  joined-like a (w ∷ ws) [] es os h = refl
  joined-like a (w ∷ ws) (l ∷ ls) es os h =
      ap (λ z. cond w z l ∷ joined f (suc a) ws ls es) (h a (omega arith)) ∙ ap (λ z. cond w (filter (λ e. f e == a) os) l ∷ z) (joined-like (suc a) ws ls es os (λ k q. h k (omega arith)))

  -- if all buckets wait, the joined lists hold all entries of es, in some order
  pub joined-all : (a : ℕ) (ws : List Bool) (ls : List (List E)) (es : List E) → length ws ≡ length ls → ((k : ℕ) → k < length ws → waits_at ws k ≡ true) → All (λ e. (a ≤ f e) × (f e < a + length ws)) es
      → IsPermutation es (flat_map (λ l. l) (joined f a ws ls es))
  joined-all a [] [] [] l up h = IsPermutation-refl []
  joined-all a [] [] (e ∷ es) l up h = absurd (let z = h 0 e (omega arith) in omega (arith, z.0, z.1))
  joined-all a [] (x ∷ ls) es l up h = absurd (omega arith)
  joined-all a (w ∷ ws) [] es l up h = absurd (omega arith)
  joined-all a (w ∷ ws) (x ∷ ls) es l up h =
      let p : E → Bool = λ e. f e == a in
      let q : E → Bool = λ e. not (f e == a) in
      let here : w ≡ true = up 0 (omega arith) in
      let left = filter q es in
      let inner = All-filter q (λ e. (a ≤ f e) × (f e < a + suc (length ws))) es h in
      let outer = filter_passes q es in
      let rest : IsPermutation left (flat_map (λ l. l) (joined f (suc a) ws ls left)) =
      joined-all (suc a) ws ls left (omega arith) (λ k m. up (suc k) (omega arith))
      (λ j d m.
      let i = inner j d m in
      let o : q (get_or left j d) ≡ true = outer j d m in
      let apart : f (get_or left j d) ≢ a = λ z. by_answer {P = ⊥} (f (get_or left j d) == a)
      (λ y. let b : q (get_or left j d) ≡ false = ap not y in absurd (let s : true ≡ false = sym o ∙ b in cc))
      (λ y. absurd (let s : true ≡ false = sym (equal _ _ z) ∙ y in cc)) in
      (omega (arith, i.0, apart), omega (arith, i.1))) in
      let like : joined f (suc a) ws ls left ≡ joined f (suc a) ws ls es = joined-like (suc a) ws ls left es (λ k m. filter-others k a (omega arith) es) in
      let both : IsPermutation es (filter p es ++ left) = IsPermutation-filter_both p q (λ e. refl) es in
      let all : IsPermutation (filter p es ++ left) (filter p es ++ flat_map (λ l. l) (joined f (suc a) ws ls es)) = IsPermutation-append_right (filter p es) left (flat_map (λ l. l) (joined f (suc a) ws ls es)) (subst (λ z. IsPermutation left (flat_map (λ l. l) z)) like rest) in
      rw here (IsPermutation-trans es (filter p es ++ left) (filter p es ++ flat_map (λ l. l) (joined f (suc a) ws ls es)) both all)

pub count-up : (n : ℕ) → count_by (λ w. w) (replicate n true) ≡ n
count-up n =
    let s : count_by (λ w. w) (replicate n true) ≡ n * 1 = sum_by-replicate (λ (w : Bool). cond {A = ℕ} w 1 0) n true in
    omega arith

-- d is the contents of the new array, which has n buckets without entries
module _ {E S : Type 0} (hash : E → ℕ) (d : Contents E S) (n : ℕ) (olds : List (Shelf E)) (counted : bucket_count d ≡ n) (none : lists_of d ≡ map shelf_entries (replicate n empty_shelf)) where
  pub flags-up : (k : ℕ) → k < n → waits_at (replicate n true) k ≡ true
  flags-up k l = get_or-replicate n k true false l

  pub flags-long : length (replicate n true) ≡ bucket_count d
  flags-long = length-replicate n true ∙ sym counted

  pub bare-lists : (i : ℕ) → list_of d i ≡ []
  bare-lists i = elim (dec_lt i n) [
    | yes l ↦ list-were d (replicate n empty_shelf) none i empty_shelf (let z = length-replicate n (empty_shelf {E = E}) in omega arith) (sym (get_or-replicate n i empty_shelf empty_shelf l))
    | no l ↦ list-is d i ∙ get_or_past (lists_of d) i [] (omega (arith, counted, count-is d))
  ]

  -- both arrays together hold the entries of the old array, in some order
  pub permuted-all : 0 < n → IsPermutation (flat_map shelf_entries olds) (entries (together hash d (replicate n true) olds))
  unfolding entries lists_of
  permuted-all some =
      let es = flat_map shelf_entries olds in
      let long = length-replicate n true in
      joined-all (target_by hash d) 0 (replicate n true) d.lists es (flags-long ∙ count-is d) (λ k l. flags-up k (omega arith))
      (λ j e l. let w : target_by hash d (get_or es j e) < bucket_count d = number-within (settings_of d).skipped (bucket_count d) (hash (get_or es j e)) (omega arith) in (omega arith, omega arith))

  module _ (left over : ℕ) (table : IsBuckets hash (settings_of d).skipped olds left over) (was : IsBucketCount (length olds)) (will : IsBucketCount n) (differ : n ≢ length olds) where
    pub started-arrays : TwoArrays hash d (replicate n true) olds
    started-arrays = record {
      flags = inr flags-long;
      multiples = inr (subst (AreMultiples (length olds)) (sym counted) (powers-multiples (length olds) n was.power will.power differ));
      sized = inr was;
      own = record { own = λ j l. table.own j (shelf_of olds j) l (shelf-at olds j l) };
      not_waiting = λ i down. elim (dec_lt i n) [
        | yes l ↦ absurd (let z : true ≡ false = sym (flags-up i l) ∙ down in cc)
        | no l ↦
            let es = flat_map shelf_entries olds in
            filter-none (λ e. bucket_number (settings_of d).skipped (bucket_count d) (hash e) == i) es
            (λ j e q. let w = number-within (settings_of d).skipped (bucket_count d) (hash (get_or es j e)) (omega (arith, will.least)) in not_equal _ _ (λ z. absurd (omega arith)))
      ];
      bare = λ i up. bare-lists i;
    }

    -- each list has the entries of c that belong to its bucket
    pub started-lists : (c : Contents E S) → entries c ≡ flat_map shelf_entries olds → settings_of d ≡ settings_of c → IsRegrouped hash n c (together hash d (replicate n true) olds)
    started-lists c all settings =
        record {
          count = count-together hash d (replicate n true) olds (inr flags-long) ∙ counted;
          each = λ i l.
              waiting-list hash d (replicate n true) olds started-arrays i (flags-up i l) flags-long ∙ ap (λ m. destined_for hash (settings_of d).skipped m i (flat_map shelf_entries olds)) counted ∙ ap (λ s. destined_for hash s.skipped n i (flat_map shelf_entries olds)) settings
              ∙ ap (destined_for hash (settings_of c).skipped n i) (sym all);
          settings = settings-together hash d (replicate n true) olds ∙ settings;
        }

-- the invariant `IsTable` holds after the new array is installed
pub started-fields : {E K S : Type 0} (eq : K → K → Bool) (laws : IsEquivalence eq) (key : E → K) (hash : K → ℕ) (d : Contents E S) (n : ℕ) (olds : List (Shelf E)) (counted : bucket_count d ≡ n) (none : lists_of d ≡ map shelf_entries (replicate n empty_shelf)) (left over : ℕ)
    → IsBuckets (λ e. hash (key e)) (settings_of d).skipped olds left over → IsBucketCount (length olds) → IsBucketCount n → n ≢ length olds → overflow_of d ≡ 0 → IsDistinct eq (map key (flat_map shelf_entries olds))
    → IsTable eq key hash d (record { array = olds; waiting = replicate n true; pending = n; next = 0; left = left; left_overflow = over })
started-fields {E} eq laws key hash d n olds counted none left over table was will differ nothing unique =
    let h : E → ℕ = λ e. hash (key e) in
    record {
      arrays = started-arrays h d n olds counted none left over table was will differ;
      counted = sym (count-up n);
      none = λ z. absurd (omega (arith, will.least));
      given_back = λ z. absurd (omega (arith, will.least));
      nothing_left = λ z. absurd (omega (arith, will.least));
      below = λ i l. absurd (omega arith);
      left_is = table.counted;
      overflow_is = omega (arith, table.spilled);
      few = omega (arith, table.few);
      unique =
          let all = permuted-all h d n olds counted none (omega (arith, will.least)) in
          IsDistinct-IsPermutation eq laws.symm (map key (flat_map shelf_entries olds)) (map key (entries (together h d (replicate n true) olds))) (IsPermutation-map key (flat_map shelf_entries olds) (entries (together h d (replicate n true) olds)) all) unique;
    }
