-- There is one stamp order.
use Rattle.std.proofs.Common.{◌≡◌, ℕ, zero, suc, ◌+◌, ◌<◌, List, [], ◌∷◌, length, map, get_or, Some, ◌⊎◌, inl, inr, refl, sym, ap, ◌∙◌, subst, arith}
use Rattle.std.specs.Prelude.{slice_get, slice_set, slice_index}
use Rattle.std.specs.List.{AllPairs}
use Rattle.std.proofs.lemmas.Bool.{cases_eq}
use Rattle.scc_calls.specs.declared.steps.Step.{Step}
use Rattle.scc_history.specs.Orders.{MergeFrom, IsStampOrder, Comes}

get_index : (xs : List ℕ) (i j : ℕ) → slice_get xs i ≡ Some j → slice_index xs i ≡ j
get_index [] i j e = cc
get_index (x ∷ xs) zero j e = cc
get_index (x ∷ xs) (suc i) j e = get_index xs i j e

get_other : (xs : List ℕ) (i k n : ℕ) → (k ≡ i → ⊥) → slice_get (slice_set xs i n) k ≡ slice_get xs k
get_other [] i k n h = refl
get_other (x ∷ xs) zero zero n h = absurd (h refl)
get_other (x ∷ xs) zero (suc k) n h = refl
get_other (x ∷ xs) (suc i) zero n h = refl
get_other (x ∷ xs) (suc i) (suc k) n h = get_other xs i k n (λ e. h (ap suc e))

some_is : {i j : ℕ} → Some i ≡ Some j → i ≡ j
some_is e = cc

pair_is : (p : ℕ × ℕ) (i j : ℕ) → p.0 ≡ i → p.1 ≡ j → p ≡ (i, j)
pair_is p i j e f = rw (sym e, sym f) refl

-- if list k has a next step, the rest of the merge has that step
stands : (lengths done : List ℕ) (places : List (ℕ × ℕ)) (k j : ℕ) (d : ℕ × ℕ) → MergeFrom lengths done places → slice_get done k ≡ Some j → j < slice_index lengths k → (n : ℕ) × (n < length places) × (get_or places n d ≡ (k, j))
stands lengths done [] k j d m e h = absurd (omega (arith, get_index done k j e, h, ap (λ l. slice_index l k) m))
stands lengths done (place ∷ places) k j d m e h =
    by_list (cases_eq k place.0) (λ s. stands lengths (slice_set done place.0 (place.1 + 1)) places k j d m.2 (get_other done place.0 k (place.1 + 1) s ∙ e) h)
  where
    by_list : (k ≡ place.0) ⊎ (k ≡ place.0 → ⊥) → ((k ≡ place.0 → ⊥) → (n : ℕ) × (n < length places) × (get_or places n d ≡ (k, j))) → (n : ℕ) × (n < length (place ∷ places)) × (get_or (place ∷ places) n d ≡ (k, j))
    by_list (inl s) later = let f : place.1 ≡ j = some_is (sym m.0 ∙ ap (λ i. slice_get done i) (sym s) ∙ e) in (0, omega arith, pair_is place k j (sym s) f)
    by_list (inr s) later = let r = later s in (suc r.0, omega (arith, r.1), r.2)

module _ (A R : Type 0) (hs : List (List (Step A R))) where
  both_ways : (p q : ℕ × ℕ) → Comes hs p q → Comes hs q p → p.0 ≡ q.0
  both_ways p q (inl a) (inl b) = absurd (omega (arith, a, b))
  both_ways p q (inl a) (inr b) = absurd (omega (arith, a, b.0))
  both_ways p q (inr a) (inl b) = absurd (omega (arith, a.0, b))
  both_ways p q (inr a) (inr b) = omega (arith, a.1, b.1)

  rest_pairs : (p : ℕ × ℕ) (ps : List (ℕ × ℕ)) → AllPairs (Comes hs) (p ∷ ps) → AllPairs (Comes hs) ps
  rest_pairs p ps a i j d h k = a (suc i) (suc j) d (omega (arith, h)) (omega (arith, k))

  -- the first place of one order comes no later than the first of the other, unless both are of one list
  first_comes : (lengths done : List ℕ) (p q : ℕ × ℕ) (ps : List (ℕ × ℕ)) → MergeFrom lengths done (p ∷ ps) → AllPairs (Comes hs) (p ∷ ps) → slice_get done q.0 ≡ Some q.1 → q.1 < slice_index lengths q.0 → (p.0 ≡ q.0 → ⊥) → Comes hs p q
  first_comes lengths done p q ps m a e h n = at_place (stands lengths done (p ∷ ps) q.0 q.1 p m e h)
    where
      at_place : (i : ℕ) × (i < length (p ∷ ps)) × (get_or (p ∷ ps) i p ≡ (q.0, q.1)) → Comes hs p q
      at_place (zero, f, g) = absurd (n (ap (λ x. x.0) g))
      at_place (suc i, f, g) = rw g at (a 0 (suc i) p (omega arith) f)

  one_from : (lengths done : List ℕ) (ps qs : List (ℕ × ℕ)) → MergeFrom lengths done ps → MergeFrom lengths done qs → AllPairs (Comes hs) ps → AllPairs (Comes hs) qs → ps ≡ qs
  one_from lengths done [] [] m n a b = refl
  one_from lengths done [] (q ∷ qs) m n a b = absurd (omega (arith, get_index done q.0 q.1 n.0, n.1, ap (λ l. slice_index l q.0) m))
  one_from lengths done (p ∷ ps) [] m n a b = absurd (omega (arith, get_index done p.0 p.1 m.0, m.1, ap (λ l. slice_index l p.0) n))
  one_from lengths done (p ∷ ps) (q ∷ qs) m n a b =
      by_list (cases_eq p.0 q.0) (λ s. one_from lengths (slice_set done p.0 (p.1 + 1)) ps qs m.2 (same_next s) (rest_pairs p ps a) (rest_pairs q qs b))
    where
      second : p.0 ≡ q.0 → p.1 ≡ q.1
      second s = sym (get_index done p.0 p.1 m.0) ∙ ap (λ i. slice_index done i) s ∙ get_index done q.0 q.1 n.0

      same_next : p.0 ≡ q.0 → MergeFrom lengths (slice_set done p.0 (p.1 + 1)) qs
      same_next s = subst (λ i. MergeFrom lengths (slice_set done i (p.1 + 1)) qs) (sym s) (subst (λ j. MergeFrom lengths (slice_set done q.0 (j + 1)) qs) (sym (second s)) n.2)

      by_list : (p.0 ≡ q.0) ⊎ (p.0 ≡ q.0 → ⊥) → (p.0 ≡ q.0 → ps ≡ qs) → p ∷ ps ≡ q ∷ qs
      by_list (inl s) rest = let e : p ≡ q = pair_is p q.0 q.1 s (second s) in rw (e, rest s) refl
      by_list (inr s) rest = absurd (s (both_ways p q (first_comes lengths done p q ps m a n.0 n.1 s) (first_comes lengths done q p qs n b m.0 m.1 (λ e. s (sym e)))))

  -- two stamp orders of the same histories are equal
  pub only_order : (ps qs : List (ℕ × ℕ)) → IsStampOrder hs ps → IsStampOrder hs qs → ps ≡ qs
  only_order ps qs a b = one_from (map length hs) (map (λ _. 0) hs) ps qs a.0 b.0 a.1 b.1
