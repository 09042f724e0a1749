-- Equality of two lists of keys, each of which has the keys of the other list, is an equivalence.
use Rattle.std.proofs.Common.{◌≡◌, Bool, true, false, cond, ◌&&◌, ◌||◌, List, [], ◌∷◌, ◌++◌, Option, None, Some, is_some, refl, sym, ap, subst, ◌∙◌, append_assoc}
use Rattle.std.specs.Cmp.{IsEquivalence, first_so, second_so}
use Rattle.std.specs.HashMap.{entries_eq}
use Rattle.std.specs.List.{list_all, list_any}
use Rattle.std.specs.Map.{keys_of, lookup_entry}
use Rattle.std.specs.Option.{option_eq}
use Rattle.std.specs.Set.{is_member}

-- whether each key of either list is in the other list
unfoldable pub keys_eq : {K : Type 0} → (K → K → Bool) → List K → List K → Bool
keys_eq eq ks ls = list_all (is_member eq ls) ks && list_all (is_member eq ks) ls

by_answer : {P : Type 0} (b : Bool) → (b ≡ true → P) → (b ≡ false → P) → P
by_answer true p q = p refl
by_answer false p q = q refl

and-comm : (a b : Bool) → (a && b) ≡ (b && a)
and-comm true true = refl
and-comm true false = refl
and-comm false true = refl
and-comm false false = refl

or-true : (a : Bool) {b : Bool} → b ≡ true → (a || b) ≡ true
or-true true e = refl
or-true false e = e

true-or : {a : Bool} (b : Bool) → a ≡ true → (a || b) ≡ true
true-or b e = ap (λ c. c || b) e

or-rest : {a b : Bool} → a ≡ false → (a || b) ≡ true → b ≡ true
or-rest {b = b} e h = sym (ap (λ c. c || b) e) ∙ h

both : {a b : Bool} → a ≡ true → b ≡ true → (a && b) ≡ true
both p q = λ i. p i && q i

all-any : {K : Type 0} (P Q : K → Bool) (b : Bool) → ((k : K) → P k ≡ true → Q k ≡ true → b ≡ true) → (ks : List K) → list_all P ks ≡ true → list_any Q ks ≡ true → b ≡ true
all-any P Q b f [] h e = absurd (let n : false ≡ true = e in cc)
all-any P Q b f (k ∷ ks) h e = by_answer (Q k) (λ y. f k (first_so (P k) (list_all P ks) h) y) (λ y. all-any P Q b f ks (second_so (P k) (list_all P ks) h) (or-rest y e))

all-same : {K : Type 0} (M P Q : K → Bool) → ((k : K) → M k ≡ true → P k ≡ Q k) → (ks : List K) → list_all M ks ≡ true → list_all P ks ≡ list_all Q ks
all-same M P Q f [] h = refl
all-same M P Q f (k ∷ ks) h = λ i. f k (first_so (M k) (list_all M ks) h) i && all-same M P Q f ks (second_so (M k) (list_all M ks) h) i

some-any : {K X : Type 0} (t : K → Bool) (es : List (K × X)) → is_some (lookup_entry t es) ≡ list_any t (keys_of es)
some-any t [] = refl
some-any t (e ∷ es) = elim (t e.0) as (λ y. is_some (cond y (Some e) (lookup_entry t es)) ≡ (y || list_any t (keys_of es))) [ true ↦ refl | false ↦ some-any t es ]

first-some : {X : Type 0} (o p : Option X) → is_some o ≡ true → option_eq (λ _ _. true) o p ≡ is_some p
first-some None p h = absurd (let n : false ≡ true = h in cc)
first-some (Some x) None h = refl
first-some (Some x) (Some y) h = refl

second-some : {X : Type 0} (o p : Option X) → is_some p ≡ true → option_eq (λ _ _. true) o p ≡ is_some o
second-some o None h = absurd (let n : false ≡ true = h in cc)
second-some None (Some y) h = refl
second-some (Some x) (Some y) h = refl

module _ {K : Type 0} (eq : K → K → Bool) where
  -- equality of sets is symmetric
  pub keys_eq-symm : (ks ls : List K) → keys_eq eq ks ls ≡ keys_eq eq ls ks
  unfolding keys_eq
  keys_eq-symm ks ls = and-comm (list_all (is_member eq ls) ks) (list_all (is_member eq ks) ls)

  module _ (laws : IsEquivalence eq) where
    any-alike : (k l : K) → eq k l ≡ true → (xs : List K) → list_any (eq k) xs ≡ list_any (eq l) xs
    any-alike k l y [] = refl
    any-alike k l y (x ∷ xs) = λ i. laws.congr k l x y i || any-alike k l y xs i

    all-through : (ks ls ms : List K) → list_all (is_member eq ls) ks ≡ true → list_all (is_member eq ms) ls ≡ true → list_all (is_member eq ms) ks ≡ true
    all-through [] ls ms a b = refl
    all-through (k ∷ ks) ls ms a b =
        both (all-any (is_member eq ms) (eq k) (is_member eq ms k) (λ l p q. any-alike k l q ms ∙ p) ls b (first_so (is_member eq ls k) (list_all (is_member eq ls) ks) a)) (all-through ks ls ms (second_so (is_member eq ls k) (list_all (is_member eq ls) ks) a) b)

    -- equality of sets is transitive
    pub keys_eq-trans : (ks ls ms : List K) → keys_eq eq ks ls ≡ true → keys_eq eq ls ms ≡ true → keys_eq eq ks ms ≡ true
    unfolding keys_eq
    keys_eq-trans ks ls ms a b =
        both (all-through ks ls ms (first_so (list_all (is_member eq ls) ks) (list_all (is_member eq ks) ls) a) (first_so (list_all (is_member eq ms) ls) (list_all (is_member eq ls) ms) b))
        (all-through ms ls ks (second_so (list_all (is_member eq ms) ls) (list_all (is_member eq ls) ms) b) (second_so (list_all (is_member eq ls) ks) (list_all (is_member eq ks) ls) a))

    own-member : (front : List K) (k : K) (back : List K) → is_member eq (front ++ k ∷ back) k ≡ true
    own-member [] k back = true-or (list_any (eq k) back) (laws.refl k)
    own-member (x ∷ front) k back = or-true (eq k x) (own-member front k back)

    all-own-from : (front ks : List K) → list_all (is_member eq (front ++ ks)) ks ≡ true
    all-own-from front [] = refl
    all-own-from front (k ∷ ks) = both (own-member front k ks) (subst (λ (l : List K). list_all (is_member eq l) ks ≡ true) (append_assoc front (k ∷ []) ks) (all-own-from (front ++ k ∷ []) ks))

    all-own : (ks : List K) → list_all (is_member eq ks) ks ≡ true
    all-own ks = all-own-from [] ks

    -- equality of sets is reflexive
    pub keys_eq-refl : (ks : List K) → keys_eq eq ks ks ≡ true
    unfolding keys_eq
    keys_eq-refl ks = both (all-own ks) (all-own ks)

    -- maps with unit values are equal if their keys are equal, and only then
    pub keys_eq-pairs : (es fs : List (K × Unit {0})) → entries_eq eq (λ _ _. true) es fs ≡ keys_eq eq (keys_of es) (keys_of fs)
    unfolding keys_eq entries_eq
    keys_eq-pairs es fs =
        let agree : K → Bool = λ k. option_eq (λ _ _. true) (lookup_entry (eq k) es) (lookup_entry (eq k) fs) in
        let one : list_all agree (keys_of es) ≡ list_all (is_member eq (keys_of fs)) (keys_of es) = all-same (is_member eq (keys_of es)) agree (is_member eq (keys_of fs))
        (λ k m. first-some (lookup_entry (eq k) es) (lookup_entry (eq k) fs) (some-any (eq k) es ∙ m) ∙ some-any (eq k) fs) (keys_of es) (all-own (keys_of es)) in
        let two : list_all agree (keys_of fs) ≡ list_all (is_member eq (keys_of es)) (keys_of fs) = all-same (is_member eq (keys_of fs)) agree (is_member eq (keys_of es))
        (λ k m. second-some (lookup_entry (eq k) es) (lookup_entry (eq k) fs) (some-any (eq k) fs ∙ m) ∙ some-any (eq k) es) (keys_of fs) (all-own (keys_of fs)) in
        λ i. one i && two i
