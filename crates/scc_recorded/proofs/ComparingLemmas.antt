-- The least pass that disagrees, one pass at a time.
use Rattle.std.proofs.Common.{◌≡◌, ℕ, zero, suc, ◌+◌, ◌<◌, ◌≤◌, List, [], ◌∷◌, length, map, get_or, Bool, true, false, Option, None, Some, ◌⊎◌, inl, inr, refl, ap, subst, arith}
use Rattle.std.specs.Prelude.{slice_get, nat_lt, if◌then◌else◌, MatchOption, IfNone, IfSome}
use Rattle.std.specs.List.{AllByRecursion}
use Rattle.std.proofs.lemmas.Bool.{cases_lt}
use Rattle.std.proofs.lemmas.Bool.Decides.{nat_tests}
use Rattle.scc_history.specs.declared.log.Receipt.{Receipt}
use Rattle.scc_history.specs.Receipts.{DiffersFirst, Matches}
use Rattle.scc_recorded.specs.Closing.{AllMatch, FirstDisagrees, lesser_of}

-- an index with an element is below the length of the list
at_place : {T : Type 0} (ts : List T) (k : ℕ) (t : T) → slice_get ts k ≡ Some t → k < length ts
at_place [] k t e = cc
at_place (s ∷ ts) zero t e = omega arith
at_place (s ∷ ts) (suc k) t e = let h = at_place ts k t e in omega arith

module _ {T A R : Type 0} (calls : A → A → Bool) (replies : R → R → Bool) (number : T → ℕ) (receipts : T → List (Receipt A R)) (passes : List T) (records : ℕ → List (Receipt A R)) where
  abbrev Fits : T → Type 0
  Fits p = Matches calls replies (receipts p) (records (number p))

  -- `first` is the disagreeing pass with the least number among the first n passes, or none of them disagrees
  abbrev pub Least : ℕ → Option (ℕ × ℕ) → Type 0
  Least n first =
      MatchOption first ((k : ℕ) (p : T) → k < n → slice_get passes k ≡ Some p → Fits p)
      (λ b. ((k : ℕ) × (p : T) × (slice_get passes k ≡ Some p) × (number p ≡ b.0) × DiffersFirst calls replies (receipts p) (records b.0) b.1) × ((k : ℕ) (p : T) → k < n → slice_get passes k ≡ Some p → number p < b.0 → Fits p))

  below_or : (k n : ℕ) → k < n + 1 → (k < n) ⊎ (k ≡ n)
  below_or k n h = elim (cases_lt k n) [ inl a ↦ inl a | inr b ↦ inr (omega arith) ]

  one_of : (n k : ℕ) (p q : T) → slice_get passes n ≡ Some p → slice_get passes k ≡ Some q → k ≡ n → q ≡ p
  one_of n k p q e f s = let g = rw s at f in cc

  module _ (n : ℕ) (p : T) (at : slice_get passes n ≡ Some p) where
    pub least_fits : (first : Option (ℕ × ℕ)) → Least n first → Fits p → Least (n + 1) first
    least_fits None h m = λ k q l e. elim (below_or k n l) as (λ _. Fits q) [ inl a ↦ h k q a e | inr s ↦ rw (one_of n k p q at e s) m ]
    least_fits (Some b) h m = (h.0, λ k q l e less. elim (below_or k n l) as (λ _. Fits q) [ inl a ↦ h.1 k q a e less | inr s ↦ rw (one_of n k p q at e s) m ])

    taken_by : (b : ℕ × ℕ) (place : ℕ) (t : Bool) → nat_lt (number p) b.0 ≡ t → Least n (Some b) → DiffersFirst calls replies (receipts p) (records (number p)) place → Least (n + 1) (if t then Some (number p, place) else Some b)
    taken_by b place true e h d =
        let less : number p < b.0 = grind (arith, nat_tests) in
        ((n, p, at, refl, d), λ k q l f m. elim (below_or k n l) as (λ _. Fits q) [ inl a ↦ h.1 k q a f (omega (arith, m, less)) | inr s ↦ let o = ap number (one_of n k p q at f s) in absurd (omega (arith, o, m)) ])
    taken_by b place false e h d =
        let more : b.0 ≤ number p = grind (arith, nat_tests) in
        (h.0, λ k q l f m. elim (below_or k n l) as (λ _. Fits q) [ inl a ↦ h.1 k q a f m | inr s ↦ let o = ap number (one_of n k p q at f s) in absurd (omega (arith, o, m, more)) ])

    pub least_differs : (first : Option (ℕ × ℕ)) (place : ℕ) → Least n first → DiffersFirst calls replies (receipts p) (records (number p)) place → Least (n + 1) (lesser_of first (number p) (Some place))
    least_differs None place h d = ((n, p, at, refl, d), λ k q l f m. elim (below_or k n l) as (λ _. Fits q) [ inl a ↦ h k q a f | inr s ↦ let o = ap number (one_of n k p q at f s) in absurd (omega (arith, o, m)) ])
    least_differs (Some b) place h d = taken_by b place (nat_lt (number p) b.0) refl h d

    pub least_more : (first : Option (ℕ × ℕ)) (found : Option ℕ) → Least n first → MatchOption found (Fits p) (λ place. DiffersFirst calls replies (receipts p) (records (number p)) place) → Least (n + 1) (lesser_of first (number p) found)
    least_more first None h m = least_fits first h m
    least_more first (Some place) h d = least_differs first place h d

  pub least_all : (n : ℕ) (first : Option (ℕ × ℕ)) → length passes ≤ n → Least n first → IfNone first (AllMatch calls replies number receipts passes records)
  least_all n None l h = λ k p e. h k p (omega (arith, l, at_place passes k p e)) e
  least_all n (Some b) l h = tt

  pub least_first : (n : ℕ) (first : Option (ℕ × ℕ)) → length passes ≤ n → Least n first → IfSome first (λ b. FirstDisagrees calls replies number receipts passes records b.0 b.1)
  least_first n None l h = tt
  least_first n (Some b) l h = (h.0, λ k p e less. h.1 k p (omega (arith, l, at_place passes k p e)) e less)

module _ {A R : Type 0} (calls : A → A → Bool) (replies : R → R → Bool) (us vs xs ys : List (Receipt A R)) (e : us ≡ xs) (f : vs ≡ ys) where
  -- the result of a comparison also holds of equal lists
  pub found_is : (found : Option ℕ) → IfNone found (Matches calls replies us vs) → IfSome found (λ j. DiffersFirst calls replies us vs j) → MatchOption found (Matches calls replies xs ys) (λ j. DiffersFirst calls replies xs ys j)
  found_is None none some = rw (e, f) at none
  found_is (Some j) none some = rw (e, f) at some

mapped_at : {V Y : Type 0} (f : V → Y) (vs : List V) (n : ℕ) (y e : Y) → n < length vs → ((d : V) → f (get_or vs n d) ≡ y) → get_or (map f vs) n e ≡ y
mapped_at f [] n y e h all = absurd (omega arith)
mapped_at f (v ∷ vs) zero y e h all = all v
mapped_at f (v ∷ vs) (suc n) y e h all = mapped_at f vs n y e (omega arith) all

all_get : {T : Type 0} (f : T → ℕ) (count : ℕ) (ts : List T) (k : ℕ) (t : T) → AllByRecursion (λ n. n < count) (map f ts) → slice_get ts k ≡ Some t → f t < count
all_get f count [] k t a e = cc
all_get f count (s ∷ ts) zero t a e = let g : s ≡ t = cc in rw g at a.0
all_get f count (s ∷ ts) (suc k) t a e = all_get f count ts k t a.1 e

-- a comparison with the listed records is one with `records`, if list n has the records of pass n
module _ {T A R V : Type 0} (calls : A → A → Bool) (replies : R → R → Bool) (number : T → ℕ) (receipts : T → List (Receipt A R)) (passes : List T) (f : V → List (Receipt A R)) (vs : List V) (records : ℕ → List (Receipt A R)) (count : ℕ)
    (below : AllByRecursion (λ n. n < count) (map number passes)) (long : length vs ≡ count) (each : (n : ℕ) (d : V) → n < count → f (get_or vs n d) ≡ records n)
  where
    listed : (n : ℕ) → n < count → get_or (map f vs) n [] ≡ records n
    listed n h = mapped_at f vs n (records n) [] (omega (arith, h, long)) (λ d. each n d h)

    pub match_listed : AllMatch calls replies number receipts passes (λ n. get_or (map f vs) n []) → AllMatch calls replies number receipts passes records
    match_listed all k p e = subst (λ l. Matches calls replies (receipts p) l) (listed (number p) (all_get number count passes k p below e)) (all k p e)

    pub differs_listed : (n place : ℕ) → FirstDisagrees calls replies number receipts passes (λ n. get_or (map f vs) n []) n place → FirstDisagrees calls replies number receipts passes records n place
    differs_listed n place d =
        let h = d.0 in
        let less : n < count = let b = all_get number count passes h.0 h.1 below h.2 in omega (arith, b, h.3) in (
          (h.0, h.1, h.2, h.3, subst (λ l. DiffersFirst calls replies (receipts h.1) l place) (listed n less) h.4),
          λ k p e l. subst (λ l. Matches calls replies (receipts p) l) (listed (number p) (all_get number count passes k p below e)) (d.1 k p e l),
        )
