-- Changes before a resize, and changes after a resize.
use Rattle.std.proofs.Common.{◌≡◌, ◌≢◌, ℕ, ◌+◌, ◌*◌, ◌^◌, ◌<◌, ◌≤◌, inl, inr, Bool, false, true, List, [], ◌∷◌, length, sym, ap, ◌∙◌, subst, max, arith, Some, None, ap, Bool}
use Rattle.std.specs.List.{All, position}
use Rattle.std.specs.List.Sorted.{IsPermutation}
use Rattle.std.proofs.lemmas.List.Elements.{All-cons}
use Rattle.std.proofs.lemmas.List.Sorted.{length_permutation, All-permutation, IsPermutation-cons, IsPermutation-refl, IsPermutation-trans}
use native.Mathlib.Decide.{dec_lt}
use Rattle.scc_common.specs.Contents.{Contents, entries, bucket_count, settings_of, minimum_of, notes_of}
use Rattle.scc_buckets.specs.Places.{IsInsertedAtSpot}
use Rattle.scc_buckets.specs.Pour.{IsRegrouped}
use Rattle.scc_common.specs.Sizes.{IsBucketCount, IsArraySize, IsSmaller}
use Rattle.scc_common.specs.Steps.{Holds, IsShrinkDueFor, KeepsSize, IsShrunk, IsUnchanged, Resizes, ReachesMinimumWhenDue, Rests, Shrinks, ShrinksWhenDue}
use Rattle.scc_buckets.specs.declared.place.Place.{Place}
use Rattle.scc_buckets.proofs.FindingLemmas.{position_hit, position_cons, position_none}
use Rattle.scc_buckets.proofs.Inserts.{by_answer, none_left}
use Rattle.scc_buckets.proofs.Powers.{max-array, size-once}

all-absent : {X : Type 0} (p : X → Bool) (xs : List X) → position p xs ≡ None → All (λ x. p x ≡ false) xs
all-absent p [] n = λ k d l. absurd (omega arith)
all-absent p (x ∷ xs) n = by_answer (p x)
    (λ y. absurd (let z : Some 0 ≡ None = sym (position_hit p x xs y) ∙ n in cc))
    (λ y. All-cons (λ z. p z ≡ false) x xs y (all-absent p xs (none_left (position p xs) (sym (position_cons p x xs y) ∙ n))))

-- an entry that is absent from a list is absent from each permutation of the list
pub absent-permuted : {X : Type 0} (p : X → Bool) (xs ys : List X) → IsPermutation xs ys → position p xs ≡ None → position p ys ≡ None
absent-permuted p xs ys h n = position_none p ys (record { fails = All-permutation (λ x. p x ≡ false) xs ys h (all-absent p xs n) })

module _ {E S : Type 0} where
  pub keeps-size_then : (a b c : Contents E S) → settings_of b ≡ settings_of a → KeepsSize a b → KeepsSize b c → KeepsSize a c
  keeps-size_then a b c e p q = record {
    lawful = elim q.lawful [ inl z ↦ elim p.lawful [ inl y ↦ inl (z ∙ y) | inr y ↦ inr (subst IsBucketCount (sym z) y) ] | inr z ↦ inr z ];
    minimum = λ less.
        let same : minimum_of b ≡ minimum_of a = ap (λ s. s.asked + s.reserved) e in
        elim (dec_lt (bucket_count c) (bucket_count b)) [
          | yes h ↦ let m = q.minimum h in omega arith
          | no h ↦ let l : bucket_count b < bucket_count a = omega arith in let m = p.minimum l in omega arith
        ];
  }

  pub resizes-then : (a b c : Contents E S) (es ds : List E) → Resizes a b → IsPermutation es ds → Holds b ds c → Holds a es c
  resizes-then a b c es ds p h q = record {
    same = IsPermutation-trans es ds (entries c) h q.same;
    size = keeps-size_then a b c p.settings p.size q.size;
    settings = q.settings ∙ p.settings;
  }

  -- a resize after a change that kept the number of buckets
  pub then-resized : (a b c : Contents E S) (es : List E) → IsPermutation es (entries b) → bucket_count b ≡ bucket_count a → settings_of b ≡ settings_of a → Resizes b c → Holds a es c
  then-resized a b c es h n e q = record {
    same = IsPermutation-trans es (entries b) (entries c) h q.same;
    size = record {
      lawful = elim q.size.lawful [ inl z ↦ inl (z ∙ n) | inr z ↦ inr z ];
      minimum = λ less. let same : minimum_of b ≡ minimum_of a = ap (λ s. s.asked + s.reserved) e in let m = q.size.minimum (omega arith) in omega arith;
    };
    settings = q.settings ∙ e;
  }

  -- if nothing changed, that is a resize to an equal number of buckets
  pub unchanged-resizes : (a b : Contents E S) → IsUnchanged a b → Resizes a b
  unchanged-resizes a b u = record {
    same = rw u.exact (IsPermutation-refl (entries a));
    size = record { lawful = inl u.buckets; minimum = λ less. absurd (omega (arith, u.buckets)) };
    settings = u.settings;
  }

  pub rests-resizes : (a b : Contents E S) → Rests a b → Resizes a b
  rests-resizes a b r = elim r [ inl u ↦ unchanged-resizes a b u | inr q ↦ q.1 ]

  pub rests-inserted : (a b c : Contents E S) (e : E) (p : Place) → Rests a b → IsInsertedAtSpot b e c p → IsInsertedAtSpot a e c p
  rests-inserted a b c e p r i = record {
    holds = resizes-then a b c (e ∷ entries a) (e ∷ entries b) (rests-resizes a b r) (IsPermutation-cons e (entries a) (entries b) (rests-resizes a b r).same) i.holds;
    within = i.within;
    here = i.here;
  }

  -- a resize to a lawful number of buckets, not below the minimum
  pub regrouped-resizes : (hash : E → ℕ) (n : ℕ) (a b : Contents E S) → IsRegrouped hash n a b → IsPermutation (entries a) (entries b) → IsBucketCount n → (n < bucket_count a → minimum_of a ≤ 32 * n) → Resizes a b
  regrouped-resizes hash n a b g h w m = record {
    same = h;
    size = record { lawful = inr (rw g.count w); minimum = λ less. rw g.count (m (rw g.count at less)) };
    settings = g.settings;
  }

  -- a resize to fewer buckets, whose number is the greater of two sizes
  pub regrouped-shrunk : (hash : E → ℕ) (k l : ℕ) (a b : Contents E S) → IsRegrouped hash (max k l) a b → IsPermutation (entries a) (entries b) → IsBucketCount k → IsBucketCount l → IsArraySize (minimum_of a) (32 * k) → IsArraySize (2 * length (entries a)) (32 * l)
      → minimum_of a ≤ 2 ^ 63 → length (entries a) ≤ 4 * bucket_count a → max k l < bucket_count a → IsShrunk a b
  regrouped-shrunk hash k l a b g h w v sm sl small few less = record {
    resizes = regrouped-resizes hash (max k l) a b g h (max-array k l w v) (λ z. omega (arith, sm.enough));
    smaller = record {
      few = omega arith;
      fewer = omega (arith, g.count);
      size = λ m n am an. let em = size-once _ _ _ sm am in let en = size-once _ _ _ sl an in omega (arith, g.count);
    };
  }

  -- a try to shrink that follows the two sizes does all that is due
  pub shrinks-due : (k l : ℕ) (a b : Contents E S) → IsArraySize (minimum_of b) (32 * k) → IsArraySize (2 * length (entries b)) (32 * l) → ((length (entries b) ≤ 4 * bucket_count a → max k l < bucket_count a → ⊥) → notes_of b ≡ notes_of a) → (bucket_count b ≢ bucket_count a → (bucket_count b ≡ max k l) × (notes_of b ≡ (false, false)))
      → (length (entries b) ≤ 4 * bucket_count a → max k l < bucket_count a → bucket_count b ≡ bucket_count a → notes_of b ≡ (true, false)) → ShrinksWhenDue a b
  shrinks-due k l a b sm sl kept made left = record {
    still = λ none. kept (λ few less. none (32 * k) (32 * l) record { least = sm; fitting = sl; few = omega arith; smaller = omega arith });
    shrunk = λ ne. (made ne).1;
    size = λ ne m n am an.
        let em = size-once _ _ _ sm am in
        let en = size-once _ _ _ sl an in
        let e = (made ne).0 in
        omega arith;
    denied = λ m n due same.
        let em = size-once _ _ _ sm due.least in
        let en = size-once _ _ _ sl due.fitting in
        left (omega (arith, due.few)) (omega (arith, due.smaller)) same;
  }

  -- a shrink that is due by the number of buckets is due for as many
  shrink-due-same : (a b c : Contents E S) (m n : ℕ) → bucket_count b ≡ bucket_count a → IsShrinkDueFor a c m n → IsShrinkDueFor b c m n
  shrink-due-same a b c m n same due = record { least = due.least; fitting = due.fitting; few = omega (arith, same, due.few); smaller = omega (arith, same, due.smaller) }

  -- after a change that kept the buckets, the note and the mark, a try to shrink still does all that is due
  pub shrinks-after : (a b c : Contents E S) → bucket_count b ≡ bucket_count a → notes_of b ≡ notes_of a → ShrinksWhenDue b c → ShrinksWhenDue a c
  shrinks-after a b c same noted h = record {
    still = λ none. h.still (λ m n due. none m n (shrink-due-same b a c m n (sym same) due)) ∙ noted;
    shrunk = λ ne. h.shrunk (λ e. ne (e ∙ same));
    size = λ ne. h.size (λ e. ne (e ∙ same));
    denied = λ m n due e. h.denied m n (shrink-due-same a b c m n same due) (e ∙ sym same);
  }

  -- a try to grow that follows the size k does all that is due
  pub reaches-due : (k : ℕ) (a b : Contents E S) → IsArraySize (minimum_of b) (32 * k) → ((0 < bucket_count a → bucket_count a < k → ⊥) → notes_of b ≡ notes_of a) → (bucket_count b ≢ bucket_count a → (bucket_count b ≡ k) × (notes_of b ≡ (false, false)))
      → (0 < bucket_count a → bucket_count a < k → bucket_count b ≡ bucket_count a → notes_of b ≡ (true, false)) → ReachesMinimumWhenDue a b
  reaches-due k a b size kept made left = record {
    still = λ none. kept (λ some less. none (32 * k) record { least = size; array = some; fewer = omega arith });
    grown = λ ne. (made ne).1;
    size = λ ne m am.
        let e = size-once _ _ _ size am in
        let z = (made ne).0 in
        omega arith;
    denied = λ m due same.
        let e = size-once _ _ _ size due.least in
        left due.array (omega (arith, due.fewer)) same;
  }

  -- after a change that kept the buckets, the note and the mark, a try to grow still does all that is due
  pub reaches-after : (a b c : Contents E S) → bucket_count b ≡ bucket_count a → notes_of b ≡ notes_of a → ReachesMinimumWhenDue b c → ReachesMinimumWhenDue a c
  reaches-after a b c same noted h = record {
    still = λ none. h.still (λ m due. none m record { least = due.least; array = omega (arith, same, due.array); fewer = omega (arith, same, due.fewer) }) ∙ noted;
    grown = λ ne. h.grown (λ e. ne (e ∙ same));
    size = λ ne. h.size (λ e. ne (e ∙ same));
    denied = λ m due e. h.denied m record { least = due.least; array = omega (arith, same, due.array); fewer = omega (arith, same, due.fewer) } (e ∙ sym same);
  }

  -- a try to shrink that changed the number of buckets made it smaller
  pub smaller-by : (b c : Contents E S) (m k : ℕ) → Shrinks b c → minimum_of b ≡ m → bucket_count b ≡ k → bucket_count c ≢ k → IsSmaller m (length (entries c)) k (bucket_count c)
  smaller-by b c m k h em ek ne = elim h [
    | inl u ↦ absurd (ne (u.buckets ∙ ek))
    | inr s ↦
        let same : length (entries c) ≡ length (entries b) = length_permutation (entries b) (entries c) s.resizes.same in
        subst (λ z. IsSmaller z (length (entries c)) k (bucket_count c)) em (subst (λ z. IsSmaller (minimum_of b) (length (entries c)) z (bucket_count c)) ek (subst (λ z. IsSmaller (minimum_of b) z (bucket_count b) (bucket_count c)) (sym same) s.smaller))
  ]
