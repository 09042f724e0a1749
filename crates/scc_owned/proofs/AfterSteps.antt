-- Look-ups after a step.
use Rattle.std.proofs.Common.{◌≡◌, Bool, true, false, cond, List, [], ◌∷◌, None, Some, refl, sym, ap, ◌∙◌, inl, inr}
use Rattle.std.specs.Cmp.{IsEquivalence}
use Rattle.std.specs.List.{IsDistinct, remove}
use Rattle.std.specs.List.Sorted.{IsPermutation}
use Rattle.std.specs.Map.{keys_of, lookup_entry, set_value}
use Rattle.scc_common.specs.Contents.{Contents, entries}
use Rattle.scc_common.specs.Pairs.{find, without, FindsInstead, IsUnique}
use Rattle.scc_common.specs.Steps.{Holds, HoldsExactly, Rests}
use Rattle.scc_buckets.proofs.Lookups.{along, apart-none, get-read, place-of_find, find-IsPermutation, find-without, distinct-IsPermutation, finds-added}
pub use Rattle.scc_buckets.proofs.PairSplits.{by_answer, cond-true, cond-false}
use Rattle.scc_buckets.proofs.PairSplits.{found-place, without-at, distinct-without, place-below}
use Rattle.std.proofs.lemmas.List.Sorted.{IsPermutation-refl, IsPermutation-sym, IsPermutation-cons, IsPermutation-trans, IsPermutation-remove}
use Rattle.std.proofs.lemmas.Map.Keys.{IsDistinct-head, IsDistinct-tail}

module _ {K V : Type 0} {eq : K → K → Bool} (laws : IsEquivalence eq) where
  -- after the value of k is set to w, a look-up of k finds its stored key with w, and other look-ups find what they found
  pub find-written : (es : List (K × V)) (k q : K) (p : K × V) (w : V) → find eq es k ≡ Some p → find eq (set_value (eq k) es w) q ≡ cond (eq q k) (Some (p.0, w)) (find eq es q)
  find-written [] k q p w f = absurd (let h : None ≡ Some p = f in cc)
  find-written (x ∷ es) k q p w f = by_answer (eq k x.0)
      (λ y.
      let same : Some x ≡ Some p = sym (cond-true (Some x) (lookup_entry (eq k) es) y) ∙ f in
      let here : x ≡ p = cc in
      ap (lookup_entry (eq q)) (cond-true ((x.0, w) ∷ es) (x ∷ set_value (eq k) es w) y)
      ∙ by_answer (eq q k)
      (λ z. cond-true (Some (x.0, w)) (lookup_entry (eq q) es) (laws.congr q k x.0 z ∙ y) ∙ ap (λ (e : K × V). Some (e.0, w)) here ∙ sym (cond-true (Some (p.0, w)) (lookup_entry (eq q) (x ∷ es)) z))
      (λ z.
      let far : eq q x.0 ≡ false = laws.symm q x.0 ∙ sym (laws.congr k x.0 q y) ∙ laws.symm k q ∙ z in
      cond-false (Some (x.0, w)) (lookup_entry (eq q) es) far ∙ sym (cond-false (Some x) (lookup_entry (eq q) es) far) ∙ sym (cond-false (Some (p.0, w)) (lookup_entry (eq q) (x ∷ es)) z)))
      (λ y.
      let rest = find-written es k q p w (sym (cond-false (Some x) (lookup_entry (eq k) es) y) ∙ f) in
      ap (lookup_entry (eq q)) (cond-false ((x.0, w) ∷ es) (x ∷ set_value (eq k) es w) y)
      ∙ by_answer (eq q x.0)
      (λ z. by_answer (eq q k)
      (λ a. absurd (let h : true ≡ false = sym (sym (laws.congr q k x.0 a) ∙ z) ∙ y in cc))
      (λ a. cond-true (Some x) (lookup_entry (eq q) (set_value (eq k) es w)) z ∙ sym (cond-false (Some (p.0, w)) (lookup_entry (eq q) (x ∷ es)) a ∙ cond-true (Some x) (lookup_entry (eq q) es) z)))
      (λ z. cond-false (Some x) (lookup_entry (eq q) (set_value (eq k) es w)) z ∙ rest ∙ ap (cond (eq q k) (Some (p.0, w))) (sym (cond-false (Some x) (lookup_entry (eq q) es) z))))

  module _ {S : Type 0} (c d : Contents (K × V) S) where
    -- after a step that sets the value of k, a look-up of k finds the stored key with the new value
    pub finds-set_value : (k : K) (p : K × V) (w : V) → find eq (entries c) k ≡ Some p → HoldsExactly c (set_value (eq k) (entries c) w) d → FindsInstead eq (entries c) k (Some (p.0, w)) (entries d)
    finds-set_value k p w f h = record { finds = λ q. rw h.exact (find-written (entries c) k q p w f) }

    -- after a step that adds a pair, a look-up of its key finds the pair
    pub finds-inserted : (p : K × V) → Holds c (p ∷ entries c) d → IsUnique eq d → FindsInstead eq (entries c) p.0 (Some p) (entries d)
    finds-inserted p h u = finds-added laws (entries c) (entries d) p h.same u

    -- after a step that removes the pair of k, a look-up of k finds nothing
    pub finds-without : (k : K) → Holds c (without eq (entries c) k) d → IsUnique eq c → IsUnique eq d → FindsInstead eq (entries c) k None (entries d)
    finds-without k h u v = record {
      finds = λ q.
          find-IsPermutation laws (without eq (entries c) k) (entries d) q h.same (distinct-IsPermutation laws (entries d) (without eq (entries c) k) (IsPermutation-sym (without eq (entries c) k) (entries d) h.same) v)
          ∙ find-without laws (entries c) k q u;
    }

    -- after a refused call, look-ups find what they found before the call
    pub finds-rearranged : Rests c d → IsUnique eq d → (q : K) → find eq (entries d) q ≡ find eq (entries c) q
    finds-rearranged (inl h) u q = ap (λ es. find eq es q) h.exact
    finds-rearranged (inr h) u q = find-IsPermutation laws (entries c) (entries d) q h.1.same (distinct-IsPermutation laws (entries d) (entries c) (IsPermutation-sym (entries c) (entries d) h.1.same) u)

    -- if nothing changed, look-ups find what they found before
    pub finds-unchanged : HoldsExactly c (entries c) d → (q : K) → find eq (entries d) q ≡ find eq (entries c) q
    finds-unchanged h q = ap (λ es. find eq es q) h.exact

module _ {K V : Type 0} {eq : K → K → Bool} (laws : IsEquivalence eq) where
  tail-find : (x : K × V) (xs : List (K × V)) (q : K) → IsDistinct eq (keys_of (x ∷ xs)) → find eq xs q ≡ cond (eq q x.0) None (find eq (x ∷ xs) q)
  tail-find x xs q u = by_answer (eq q x.0)
      (λ y.
      let near : eq x.0 q ≡ true = laws.symm x.0 q ∙ y in
      apart-none (eq q) xs (along (λ w h. sym (laws.congr x.0 q w near) ∙ h) (keys_of xs) (IsDistinct-head eq x.0 (keys_of xs) u)) ∙ sym (cond-true None (find eq (x ∷ xs) q) y))
      (λ y. sym (cond-false (Some x) (find eq xs q) y) ∙ sym (cond-false None (find eq (x ∷ xs) q) y))

  -- if two lists have distinct keys, and each look-up finds the same pair in both, one list is a rearrangement of the other
  pub same-finds : (xs ys : List (K × V)) → IsDistinct eq (keys_of xs) → IsDistinct eq (keys_of ys) → ((q : K) → find eq ys q ≡ find eq xs q) → IsPermutation xs ys
  same-finds [] [] u v f = IsPermutation-refl []
  same-finds [] (y ∷ ys) u v f = absurd (let h : Some y ≡ None = sym (cond-true (Some y) (find eq ys y.0) (laws.refl y.0)) ∙ f y.0 in cc)
  same-finds (x ∷ xs) ys u v f =
      let here : find eq ys x.0 ≡ Some x = f x.0 ∙ cond-true (Some x) (find eq xs x.0) (laws.refl x.0) in
      let at = place-of_find (eq x.0) ys x here in
      let place = found-place laws x.0 ys at.0 x v at.1 (laws.refl x.0) in
      let rest = without-at laws x.0 ys at.0 v place in
      let inner = same-finds xs (remove ys at.0) (IsDistinct-tail eq x.0 (keys_of xs) u) (distinct-without laws ys at.0 v)
      (λ q. ap (lookup_entry (eq q)) (sym rest) ∙ find-without laws ys x.0 q v ∙ ap (cond (eq q x.0) None) (f q) ∙ sym (tail-find x xs q u)) in
      IsPermutation-trans (x ∷ xs) (x ∷ remove ys at.0) ys (IsPermutation-cons x xs (remove ys at.0) inner)
      (IsPermutation-sym ys (x ∷ remove ys at.0) (IsPermutation-remove ys at.0 x (place-below ys at.0 x at.1) (sym (get-read ys at.0 x at.1))))

  -- if q equals k, a look-up of q finds what a look-up of k finds
  pub find-equal : (es : List (K × V)) (q k : K) → eq q k ≡ true → find eq es q ≡ find eq es k
  find-equal [] q k y = refl
  find-equal (x ∷ es) q k y = (λ i. cond (laws.congr q k x.0 y i) (Some x) (find-equal es q k y i))
