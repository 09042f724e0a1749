-- What a walk that tests all pairs returns, and when two lists of pairs are equal.
use Rattle.std.proofs.Common.{◌≡◌, suc, ◌≤◌, Bool, true, false, cond, ◌&&◌, List, [], ◌∷◌, length, Option, None, Some, refl, sym, ap, subst, ◌∙◌, arith}
use Rattle.std.specs.Cmp.{IsEquivalence, first_so, second_so}
use Rattle.std.specs.HashMap.{entries_eq}
use Rattle.std.specs.List.{AllByRecursion, IsDistinct, list_all}
use Rattle.std.specs.Map.{keys_of, lookup_entry, remove_entry}
use Rattle.std.specs.Option.{option_eq}
use Rattle.std.proofs.lemmas.Map.Keys.{IsDistinct-head, IsDistinct-tail, IsDistinct-cons}
use Rattle.std.proofs.lemmas.Bool.{false≢true}
use Rattle.scc_common.specs.Walks.{Walks, ended, stopped, went_on}
use Rattle.scc_buckets.proofs.Lookups.{by_option, place-of_find, find-without, distinct-remove_entry}
use Rattle.scc_buckets.proofs.PairSplits.{by_answer, cond-true, cond-false, found-place, none-find, apart-keys}

-- if the closure returns what the test t returns, the walk returns whether all pairs pass t
pub walk-list_all : {F K V : Type 0} {T : F → K × V → Bool → F → Type 0} (I : F → Type 0) (t : K × V → Bool)
    → ((f : F) (p : K × V) (r : Bool) (f' : F) → I f → T f p r f' → (r ≡ t p) × I f')
    → {f last : F} {es : List (K × V)} {b : Bool} → I f → Walks T f es b last → b ≡ list_all t es
walk-list_all I t step i ended = refl
walk-list_all I t step i (stopped {f} {f'} {p} {es} called) = ap (λ c. c && list_all t es) (step f p false f' i called).0
walk-list_all I t step i (went_on {f} {f'} {f''} {p} {es} {b} called rest) =
    let s = step f p true f' i called in
    walk-list_all I t step s.1 rest ∙ ap (λ c. c && list_all t es) s.0

module _ {X : Type 0} (E : X → X → Bool) where
  some-right : (x : X) (o : Option X) → option_eq E (Some x) o ≡ true → o ≡ None → ⊥
  some-right x o h n = false≢true (sym (ap (option_eq E (Some x)) n) ∙ h)

  some-left : (x : X) (o : Option X) → option_eq E o (Some x) ≡ true → o ≡ None → ⊥
  some-left x o h n = false≢true (sym (ap (λ a. option_eq E a (Some x)) n) ∙ h)

all-at_find : {K V : Type 0} (t : K × V → Bool) (c : K → Bool) (es : List (K × V)) (p : K × V) → list_all t es ≡ true → lookup_entry c es ≡ Some p → t p ≡ true
all-at_find t c [] p h e = absurd (let z : None ≡ Some p = e in cc)
all-at_find t c (x ∷ es) p h e = by_answer (c x.0)
    (λ y. let z : Some x ≡ Some p = sym (cond-true (Some x) (lookup_entry c es) y) ∙ e in let s : x ≡ p = cc in subst (λ q. t q ≡ true) s (first_so (t x) (list_all t es) h))
    (λ y. all-at_find t c es p (second_so (t x) (list_all t es) h) (sym (cond-false (Some x) (lookup_entry c es) y) ∙ e))

length-without : {K V : Type 0} (c : K → Bool) (es : List (K × V)) (p : K × V) → lookup_entry c es ≡ Some p → suc (length (remove_entry c es)) ≡ length es
length-without c [] p e = absurd (let z : None ≡ Some p = e in cc)
length-without c (x ∷ es) p e = by_answer (c x.0)
    (λ y. ap (λ l. suc (length l)) (cond-true es (x ∷ remove_entry c es) y))
    (λ y. ap (λ l. suc (length l)) (cond-false es (x ∷ remove_entry c es) y) ∙ ap suc (length-without c es p (sym (cond-false (Some x) (lookup_entry c es) y) ∙ e)))

module _ {K V : Type 0} {eq : K → K → Bool} (laws : IsEquivalence eq) where
  abbrev IsOwn : List (K × V) → K × V → Type 0
  IsOwn es p = lookup_entry (eq p.0) es ≡ Some p

  own-later : (x : K × V) (es part : List (K × V)) → AllByRecursion (λ k. eq x.0 k ≡ false) (keys_of part) → AllByRecursion (IsOwn es) part → AllByRecursion (IsOwn (x ∷ es)) part
  own-later x es [] apart own = tt
  own-later x es (p ∷ part) apart own = (
    cond-false (Some x) (lookup_entry (eq p.0) es) (laws.symm p.0 x.0 ∙ apart.0) ∙ own.0,
    own-later x es part apart.1 own.1,
  )

  -- a look-up of a pair's key finds the pair
  own-pairs : (es : List (K × V)) → IsDistinct eq (keys_of es) → AllByRecursion (IsOwn es) es
  own-pairs [] d = tt
  own-pairs (x ∷ es) d = (
    cond-true (Some x) (lookup_entry (eq x.0) es) (laws.refl x.0),
    own-later x es es (IsDistinct-head eq x.0 (keys_of es) d) (own-pairs es (IsDistinct-tail eq x.0 (keys_of es) d)),
  )

  lookup-alike : (es : List (K × V)) (q k : K) → eq q k ≡ true → lookup_entry (eq q) es ≡ lookup_entry (eq k) es
  lookup-alike [] q k y = refl
  lookup-alike (x ∷ es) q k y = λ i. cond (laws.congr q k x.0 y i) (Some x) (lookup-alike es q k y i)

  -- each key of es has a pair in fs
  abbrev Covers : List (K × V) → List (K × V) → Type 0
  Covers fs es = AllByRecursion (λ k. lookup_entry (eq k) fs ≡ None → ⊥) (keys_of es)

  covers-others : (fs : List (K × V)) (x : K × V) (es : List (K × V)) → IsDistinct eq (keys_of fs) → AllByRecursion (λ k. eq x.0 k ≡ false) (keys_of es) → Covers fs es → Covers (remove_entry (eq x.0) fs) es
  covers-others fs x [] d apart covers = tt
  covers-others fs x (p ∷ es) d apart covers = (
    λ n. covers.0 (sym (find-without laws fs x.0 p.0 d ∙ cond-false None (lookup_entry (eq p.0) fs) (laws.symm p.0 x.0 ∙ apart.0)) ∙ n),
    covers-others fs x es d apart.1 covers.1,
  )

  -- if each key of es has a pair in fs, and keys are distinct, es isn't longer than fs
  covered-length : (fs es : List (K × V)) → IsDistinct eq (keys_of fs) → IsDistinct eq (keys_of es) → Covers fs es → length es ≤ length fs
  covered-length fs [] df de covers = omega arith
  covered-length fs (x ∷ es) df de covers = by_option (lookup_entry (eq x.0) fs)
      (λ n. absurd (covers.0 n))
      (λ p s.
      let at = place-of_find (eq x.0) fs p s in
      let rest = remove_entry (eq x.0) fs in
      let dr = distinct-remove_entry laws fs x.0 at.0 df (found-place laws x.0 fs at.0 p df at.1 at.2) in
      let less : length es ≤ length rest = covered-length rest es dr (IsDistinct-tail eq x.0 (keys_of es) de) (covers-others fs x es df (IsDistinct-head eq x.0 (keys_of es) de) covers.1) in
      omega (arith, less, length-without (eq x.0) fs p s))

  module _ (E : K × V → K × V → Bool) (es fs : List (K × V)) where
    -- the list fs has an equal pair under the key of p
    abbrev IsThere : K × V → Bool
    IsThere p = option_eq E (Some p) (lookup_entry (eq p.0) fs)

    -- the look-ups of the key k in es and in fs find equal pairs, or both find none
    abbrev agree : K → Bool
    agree k = option_eq E (lookup_entry (eq k) es) (lookup_entry (eq k) fs)

    pairs-keys : (part : List (K × V)) → AllByRecursion (IsOwn es) part → list_all IsThere part ≡ list_all agree (keys_of part)
    pairs-keys [] own = refl
    pairs-keys (p ∷ part) own = λ i. option_eq E (sym own.0 i) (lookup_entry (eq p.0) fs) && pairs-keys part own.1 i

    covers-there : (part : List (K × V)) → list_all IsThere part ≡ true → Covers fs part
    covers-there [] h = tt
    covers-there (p ∷ part) h = (some-right E p (lookup_entry (eq p.0) fs) (first_so (IsThere p) (list_all IsThere part) h), covers-there part (second_so (IsThere p) (list_all IsThere part) h))

    covers-back : (part : List (K × V)) → AllByRecursion (IsOwn fs) part → list_all agree (keys_of part) ≡ true → Covers es part
    covers-back [] own h = tt
    covers-back (p ∷ part) own h = (
      some-left E p (lookup_entry (eq p.0) es) (sym (ap (option_eq E (lookup_entry (eq p.0) es)) own.0) ∙ first_so (agree p.0) (list_all agree (keys_of part)) h),
      covers-back part own.1 (second_so (agree p.0) (list_all agree (keys_of part)) h),
    )

    module _ (de : IsDistinct eq (keys_of es)) (df : IsDistinct eq (keys_of fs)) where
      -- if fs has all pairs of es and isn't longer than es, the look-ups of each key of fs agree
      agree-back : list_all IsThere es ≡ true → length fs ≤ length es → (part : List (K × V)) → AllByRecursion (IsOwn fs) part → list_all agree (keys_of part) ≡ true
      agree-back h few [] own = refl
      agree-back h few (p ∷ part) own =
          let here : agree p.0 ≡ true = by_option (lookup_entry (eq p.0) es)
          (λ n.
          let more = IsDistinct-cons eq p.0 (keys_of es) (apart-keys (eq p.0) es (none-find (eq p.0) es n)) de in
          let no' : lookup_entry (eq p.0) fs ≡ None → ⊥ = λ m. (let z : None ≡ Some p = sym m ∙ own.0 in cc) in
          absurd (omega (arith, few, covered-length fs (p ∷ es) df more (no', covers-there es h))))
          (λ r s.
          let at = place-of_find (eq p.0) es r s in
          ap (λ o. option_eq E o (lookup_entry (eq p.0) fs)) s ∙ ap (option_eq E (Some r)) (lookup-alike fs p.0 r.0 at.2) ∙ all-at_find IsThere (eq p.0) es r h s) in
          ap (λ b. b && list_all agree (keys_of part)) here ∙ agree-back h few part own.1

      pub equal-there : list_all IsThere es ≡ true → length es ≡ length fs → entries_eq eq E es fs ≡ true
      unfolding entries_eq
      equal-there h same =
          ap (λ b. b && list_all agree (keys_of fs)) (sym (pairs-keys es (own-pairs es de)) ∙ h) ∙ agree-back h (omega (arith, same)) fs (own-pairs fs df)

      pub unequal-there : list_all IsThere es ≡ false → entries_eq eq E es fs ≡ false
      unfolding entries_eq
      unequal-there h = ap (λ b. b && list_all agree (keys_of fs)) (sym (pairs-keys es (own-pairs es de)) ∙ h)

      -- lists of different lengths are not equal
      pub unequal-length : (length es ≡ length fs → ⊥) → entries_eq eq E es fs ≡ false
      unfolding entries_eq
      unequal-length differ = by_answer (entries_eq eq E es fs)
          (λ y.
          let first : list_all IsThere es ≡ true = pairs-keys es (own-pairs es de) ∙ first_so (list_all agree (keys_of es)) (list_all agree (keys_of fs)) y in
          let second = second_so (list_all agree (keys_of es)) (list_all agree (keys_of fs)) y in
          let a = covered-length fs es df de (covers-there es first) in
          let b = covered-length es fs de df (covers-back fs (own-pairs fs df) second) in
          absurd (differ (omega (arith, a, b))))
          (λ n. n)
