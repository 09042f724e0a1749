-- From places to look-ups, and look-ups after a change.
use Rattle.std.proofs.Common.{◌≡◌, ℕ, zero, suc, Bool, true, false, cond, List, [], ◌∷◌, get_or, Option, None, Some, refl, sym, ap, subst, ◌∙◌, Contains}
use Rattle.std.specs.Cmp.{IsEquivalence}
use Rattle.std.specs.List.{IsDistinct, AllByRecursion, position, slice_get, remove}
use Rattle.std.specs.List.Sorted.{IsPermutation}
use Rattle.std.specs.Map.{keys_of, lookup_entry, remove_entry}
use Rattle.std.specs.Option.{option_map}
use Rattle.std.proofs.lemmas.List.Sorted.{IsPermutation-map, IsPermutation-sym, Contains-permutation}
use Rattle.std.proofs.lemmas.Map.Keys.{IsDistinct-IsPermutation, IsDistinct-head, IsDistinct-tail}
use Rattle.scc_common.specs.Pairs.{FindsInstead}
use Rattle.scc_buckets.proofs.FindingLemmas.{position_cons, position_hit}
use Rattle.scc_buckets.proofs.PairWrites.{IsPlaceOf}
use Rattle.scc_buckets.proofs.PairSplits.{by_answer, cond-true, cond-false, get-index, found-place, place-below, without-at, distinct-without}

pub by_option : {X P : Type 0} (o : Option X) → (o ≡ None → P) → ((x : X) → o ≡ Some x → P) → P
by_option None n s = n refl
by_option (Some x) n s = s x refl

none_left : (o : Option ℕ) → option_map suc o ≡ None → o ≡ None
none_left None e = refl
none_left (Some k) e = absurd (let z : Some (suc k) ≡ None = e in cc)

some_left : (o : Option ℕ) (i : ℕ) → option_map suc o ≡ Some i → (j : ℕ) × (o ≡ Some j) × (i ≡ suc j)
some_left None i e = absurd (let z : None ≡ Some i = e in cc)
some_left (Some k) i e = let z : Some (suc k) ≡ Some i = e in let w : suc k ≡ i = cc in (k, refl, sym w)

module _ {K V : Type 0} (t : K → Bool) where
  pub find-position_none : (es : List (K × V)) → position (λ e. t e.0) es ≡ None → lookup_entry t es ≡ None
  find-position_none [] n = refl
  find-position_none (x ∷ es) n = by_answer (t x.0)
      (λ y. absurd (let z : Some 0 ≡ None = sym (position_hit (λ (e : K × V). t e.0) x es y) ∙ n in cc))
      (λ y. cond-false (Some x) (lookup_entry t es) y ∙ find-position_none es (none_left (position (λ (e : K × V). t e.0) es) (sym (position_cons (λ (e : K × V). t e.0) x es y) ∙ n)))

  pub find-position : (es : List (K × V)) (i : ℕ) → position (λ e. t e.0) es ≡ Some i → (p : K × V) × (slice_get es i ≡ Some p) × (lookup_entry t es ≡ Some p) × (t p.0 ≡ true)
  find-position [] i n = absurd (let z : None ≡ Some i = n in cc)
  find-position (x ∷ es) i n = by_answer (t x.0)
      (λ y. let z : Some 0 ≡ Some i = sym (position_hit (λ (e : K × V). t e.0) x es y) ∙ n in let w : 0 ≡ i = cc in (x, ap (slice_get (x ∷ es)) (sym w), cond-true (Some x) (lookup_entry t es) y, y))
      (λ y.
      let s = some_left (position (λ (e : K × V). t e.0) es) i (sym (position_cons (λ (e : K × V). t e.0) x es y) ∙ n) in
      let r = find-position es s.0 s.1 in
      (r.0, ap (slice_get (x ∷ es)) s.2 ∙ r.1, cond-false (Some x) (lookup_entry t es) y ∙ r.2, r.3))

  -- a pair that a look-up finds stands at some index
  pub place-of_find : (es : List (K × V)) (p : K × V) → lookup_entry t es ≡ Some p → (i : ℕ) × (slice_get es i ≡ Some p) × (t p.0 ≡ true)
  place-of_find [] p e = absurd (let h : None ≡ Some p = e in cc)
  place-of_find (x ∷ es) p e =
      by_answer (t x.0)
      (λ y. let h : Some x ≡ Some p = sym (cond-true (Some x) (lookup_entry t es) y) ∙ e in let s : x ≡ p = cc in (0, h, subst (λ (q : K × V). t q.0 ≡ true) s y))
      (λ y. let r = place-of_find es p (sym (cond-false (Some x) (lookup_entry t es) y) ∙ e) in (suc r.0, r.1, r.2))

pub get-read : {X : Type 0} (es : List X) (i : ℕ) (x : X) → slice_get es i ≡ Some x → get_or es i x ≡ x
get-read [] i x e = absurd (let h : None ≡ Some x = e in cc)
get-read (y ∷ es) zero x e = let h : y ≡ x = cc in h
get-read (y ∷ es) (suc i) x e = get-read es i x e

pub apart-none : {K V : Type 0} (t : K → Bool) (es : List (K × V)) → AllByRecursion (λ y. t y ≡ false) (keys_of es) → lookup_entry t es ≡ None
apart-none t [] h = refl
apart-none t (x ∷ es) h = cond-false (Some x) (lookup_entry t es) h.0 ∙ apart-none t es h.1

pub along : {K : Type 0} {P Q : K → Type 0} → ((k : K) → P k → Q k) → (ks : List K) → AllByRecursion P ks → AllByRecursion Q ks
along f [] h = h
along f (k ∷ ks) h = (f k h.0, along f ks h.1)

module _ {K V : Type 0} {eq : K → K → Bool} (laws : IsEquivalence eq) where
  -- keys stay distinct if the pairs are rearranged
  pub distinct-IsPermutation : (c d : List (K × V)) → IsPermutation c d → IsDistinct eq (keys_of c) → IsDistinct eq (keys_of d)
  distinct-IsPermutation c d p = IsDistinct-IsPermutation eq laws.symm (keys_of c) (keys_of d) (IsPermutation-map (λ e. e.0) c d p)

  found-again : (c d : List (K × V)) (k : K) (p : K × V) → IsPermutation c d → IsDistinct eq (keys_of d) → lookup_entry (eq k) c ≡ Some p → lookup_entry (eq k) d ≡ Some p
  found-again c d k p perm u e =
      let at = place-of_find (eq k) c p e in
      let there : Contains d p = Contains-permutation c d p perm (at.0, place-below c at.0 p at.1, get-read c at.0 p at.1) in
      let place = found-place laws k d there.0 p u (get-index d there.0 p there.1 (sym there.2)) at.2 in
      let same : Some place.0 ≡ Some p = sym place.1 ∙ get-index d there.0 p there.1 (sym there.2) in
      place.2 ∙ same

  -- a rearrangement changes no look-up
  pub find-IsPermutation : (c d : List (K × V)) (k : K) → IsPermutation c d → IsDistinct eq (keys_of c) → lookup_entry (eq k) d ≡ lookup_entry (eq k) c
  find-IsPermutation c d k perm u =
      let v = distinct-IsPermutation c d perm u in
      by_option (lookup_entry (eq k) c)
      (λ n. by_option (lookup_entry (eq k) d) (λ m. m ∙ sym n) (λ q m. absurd (let h : None ≡ Some q = sym n ∙ found-again d c k q (IsPermutation-sym c d perm) u m in cc)))
      (λ p s. found-again c d k p perm v s ∙ sym s)

  -- a look-up after a pair was added, in any order of the pairs
  pub finds-added : (c d : List (K × V)) (p : K × V) → IsPermutation (p ∷ c) d → IsDistinct eq (keys_of d) → FindsInstead eq c p.0 (Some p) d
  finds-added c d p perm u = record { finds = λ q. find-IsPermutation (p ∷ c) d q perm (distinct-IsPermutation d (p ∷ c) (IsPermutation-sym (p ∷ c) d perm) u) }

  pub find-without : (es : List (K × V)) (k q : K) → IsDistinct eq (keys_of es) → lookup_entry (eq q) (remove_entry (eq k) es) ≡ cond (eq q k) None (lookup_entry (eq q) es)
  find-without [] k q d = by_answer (eq q k) (λ y. sym (cond-true None None y)) (λ y. sym (cond-false None None y))
  find-without (x ∷ es) k q d = by_answer (eq k x.0)
      (λ y. by_answer (eq q k)
      (λ z.
      let near : eq x.0 q ≡ true = laws.symm x.0 q ∙ laws.congr q k x.0 z ∙ y in
      let apart = along (λ w h. sym (laws.congr x.0 q w near) ∙ h) (keys_of es) (IsDistinct-head eq x.0 (keys_of es) d) in
      ap (lookup_entry (eq q)) (cond-true es (x ∷ remove_entry (eq k) es) y) ∙ apart-none (eq q) es apart ∙ sym (cond-true None (lookup_entry (eq q) (x ∷ es)) z))
      (λ z.
      let far : eq q x.0 ≡ false = laws.symm q x.0 ∙ sym (laws.congr k x.0 q y) ∙ laws.symm k q ∙ z in
      ap (lookup_entry (eq q)) (cond-true es (x ∷ remove_entry (eq k) es) y) ∙ sym (cond-false (Some x) (lookup_entry (eq q) es) far) ∙ sym (cond-false None (lookup_entry (eq q) (x ∷ es)) z)))
      (λ y. by_answer (eq q x.0)
      (λ z. by_answer (eq q k)
      (λ w. absurd (let h : true ≡ false = sym (sym (laws.congr q k x.0 w) ∙ z) ∙ y in cc))
      (λ w. ap (lookup_entry (eq q)) (cond-false es (x ∷ remove_entry (eq k) es) y) ∙ cond-true (Some x) (lookup_entry (eq q) (remove_entry (eq k) es)) z ∙ sym (cond-false None (lookup_entry (eq q) (x ∷ es)) w ∙ cond-true (Some x) (lookup_entry (eq q) es) z)))
      (λ z. ap (lookup_entry (eq q)) (cond-false es (x ∷ remove_entry (eq k) es) y) ∙ cond-false (Some x) (lookup_entry (eq q) (remove_entry (eq k) es)) z
      ∙ find-without es k q (IsDistinct-tail eq x.0 (keys_of es) d) ∙ ap (λ o. cond (eq q k) None o) (sym (cond-false (Some x) (lookup_entry (eq q) es) z))))

  pub distinct-remove_entry : (es : List (K × V)) (k : K) (i : ℕ) → IsDistinct eq (keys_of es) → IsPlaceOf eq es k i → IsDistinct eq (keys_of (remove_entry (eq k) es))
  distinct-remove_entry es k i d f = rw (without-at laws k es i d f) (distinct-without laws es i d)

  -- a look-up after the pair of k was taken out, in any order of the pairs
  pub finds-removed : (es d : List (K × V)) (k : K) (i : ℕ) → IsPermutation (remove es i) d → IsDistinct eq (keys_of es) → IsPlaceOf eq es k i → FindsInstead eq es k None d
  finds-removed es d k i perm u f = record {
    finds = λ q.
        find-IsPermutation (remove es i) d q perm (distinct-without laws es i u)
        ∙ ap (lookup_entry (eq q)) (sym (without-at laws k es i u f)) ∙ find-without es k q u;
  }

map_suc_none : (o : Option ℕ) → o ≡ None → option_map suc o ≡ None
map_suc_none o e = ap (option_map suc) e

-- a key that a look-up doesn't find stands at no index
pub position-find_none : {K V : Type 0} (t : K → Bool) (es : List (K × V)) → lookup_entry t es ≡ None → position (λ e. t e.0) es ≡ None
position-find_none t [] n = refl
position-find_none {K} {V} t (x ∷ es) n = by_answer (t x.0)
    (λ y. absurd (let z : Some x ≡ None = sym (cond-true (Some x) (lookup_entry t es) y) ∙ n in cc))
    (λ y. position_cons (λ (e : K × V). t e.0) x es y ∙ map_suc_none (position (λ (e : K × V). t e.0) es) (position-find_none t es (sym (cond-false (Some x) (lookup_entry t es) y) ∙ n)))
