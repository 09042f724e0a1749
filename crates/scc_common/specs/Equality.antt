-- Equality of two lists of pairs, by the look-ups of their keys, is symmetric, transitive and reflexive.
use Rattle.std.proofs.Common.{◌≡◌, Bool, true, false, cond, ◌&&◌, List, [], ◌∷◌, Option, None, Some, is_some, refl, sym, ap, subst, ◌∙◌}
use Rattle.std.specs.Cmp.{IsEquivalence, first_so, second_so}
use Rattle.std.specs.HashMap.{entries_eq}
use Rattle.std.specs.List.{list_all}
use Rattle.std.specs.Map.{keys_of, lookup_entry}
use Rattle.std.specs.Option.{option_eq, unwrap_or}
use Rattle.std.proofs.lemmas.Bool.{false≢true}

by_answer : {P : Type 0} (b : Bool) → (b ≡ true → P) → (b ≡ false → P) → P
by_answer true p q = p refl
by_answer false p q = q refl

by_option : {X P : Type 0} (o : Option X) → (o ≡ None → P) → ((x : X) → o ≡ Some x → P) → P
by_option None n s = n refl
by_option (Some x) n s = s x refl

and-comm : (a b : Bool) → (a && b) ≡ (b && a)
and-comm true true = refl
and-comm true false = refl
and-comm false true = refl
and-comm false false = refl

all-from : {K : Type 0} (t : K → Bool) → ((k : K) → t k ≡ true) → (ks : List K) → list_all t ks ≡ true
all-from t f [] = refl
all-from t f (k ∷ ks) = ap (λ b. b && list_all t ks) (f k) ∙ all-from t f ks

key-at_find : {K X : Type 0} (t c : K → Bool) (es : List (K × X)) (p : K × X) → list_all t (keys_of es) ≡ true → lookup_entry c es ≡ Some p → (t p.0 ≡ true) × (c p.0 ≡ true)
key-at_find t c [] p h e = absurd (false≢true (ap is_some e))
key-at_find t c (x ∷ es) p h e = by_answer (c x.0)
    (λ y.
    let s : x ≡ p = ap (λ o. unwrap_or o x) (sym (ap (λ b. cond b (Some x) (lookup_entry c es)) y) ∙ e) in
    (subst (λ (q : _ × _). t q.0 ≡ true) s (first_so (t x.0) (list_all t (keys_of es)) h), subst (λ (q : _ × _). c q.0 ≡ true) s y))
    (λ y. key-at_find t c es p (second_so (t x.0) (list_all t (keys_of es)) h) (sym (ap (λ b. cond b (Some x) (lookup_entry c es)) y) ∙ e))

module _ {X : Type 0} (E : X → X → Bool) where
  option-symm : ((x y : X) → E x y ≡ E y x) → (p q : Option X) → option_eq E p q ≡ option_eq E q p
  option-symm f None None = refl
  option-symm f None (Some y) = refl
  option-symm f (Some x) None = refl
  option-symm f (Some x) (Some y) = f x y

  option-trans : ((x y z : X) → E x y ≡ true → E y z ≡ true → E x z ≡ true) → (p q s : Option X) → option_eq E p q ≡ true → option_eq E q s ≡ true → option_eq E p s ≡ true
  option-trans f None None s a b = b
  option-trans f None (Some y) s a b = absurd (false≢true a)
  option-trans f (Some x) None s a b = absurd (false≢true a)
  option-trans f (Some x) (Some y) None a b = b
  option-trans f (Some x) (Some y) (Some z) a b = f x y z a b

module _ {K V : Type 0} (eq : K → K → Bool) (E : K × V → K × V → Bool) where
  abbrev agree : List (K × V) → List (K × V) → K → Bool
  agree es fs k = option_eq E (lookup_entry (eq k) es) (lookup_entry (eq k) fs)

  all-flipped : ((x y : K × V) → E x y ≡ E y x) → (es fs : List (K × V)) (ks : List K) → list_all (agree es fs) ks ≡ list_all (agree fs es) ks
  all-flipped f es fs [] = refl
  all-flipped f es fs (k ∷ ks) = λ i. option-symm E f (lookup_entry (eq k) es) (lookup_entry (eq k) fs) i && all-flipped f es fs ks i

  -- equality of lists of pairs is symmetric
  pub entries_eq-symm : ((x y : K × V) → E x y ≡ E y x) → (es fs : List (K × V)) → entries_eq eq E es fs ≡ entries_eq eq E fs es
  unfolding entries_eq
  entries_eq-symm f es fs =
      and-comm (list_all (agree es fs) (keys_of es)) (list_all (agree es fs) (keys_of fs)) ∙ (λ i. all-flipped f es fs (keys_of fs) i && all-flipped f es fs (keys_of es) i)

  entries_eq-from_all : (es fs : List (K × V)) → ((k : K) → agree es fs k ≡ true) → entries_eq eq E es fs ≡ true
  unfolding entries_eq
  entries_eq-from_all es fs f = λ i. all-from (agree es fs) f (keys_of es) i && all-from (agree es fs) f (keys_of fs) i

  module _ (laws : IsEquivalence eq) where
    lookup-alike : (es : List (K × V)) (q k : K) → eq q k ≡ true → lookup_entry (eq q) es ≡ lookup_entry (eq k) es
    lookup-alike [] q k y = refl
    lookup-alike (x ∷ es) q k y = λ i. cond (laws.congr q k x.0 y i) (Some x) (lookup-alike es q k y i)

    agree-alike : (es fs : List (K × V)) (q k : K) → eq q k ≡ true → agree es fs k ≡ true → agree es fs q ≡ true
    agree-alike es fs q k y h = (λ i. option_eq E (lookup-alike es q k y i) (lookup-alike fs q k y i)) ∙ h

    -- equal lists agree at every key
    agree-from_eq : (es fs : List (K × V)) → entries_eq eq E es fs ≡ true → (q : K) → agree es fs q ≡ true
    unfolding entries_eq
    agree-from_eq es fs h q =
        by_option (lookup_entry (eq q) es)
        (λ n. by_option (lookup_entry (eq q) fs)
        (λ m. λ i. option_eq E (n i) (m i))
        (λ p s. let at = key-at_find (agree es fs) (eq q) fs p (second_so (list_all (agree es fs) (keys_of es)) (list_all (agree es fs) (keys_of fs)) h) s in agree-alike es fs q p.0 at.1 at.0))
        (λ p s. let at = key-at_find (agree es fs) (eq q) es p (first_so (list_all (agree es fs) (keys_of es)) (list_all (agree es fs) (keys_of fs)) h) s in agree-alike es fs q p.0 at.1 at.0)

    -- equality of lists of pairs is transitive
    pub entries_eq-trans : ((x y z : K × V) → E x y ≡ true → E y z ≡ true → E x z ≡ true) → (es fs gs : List (K × V)) → entries_eq eq E es fs ≡ true → entries_eq eq E fs gs ≡ true → entries_eq eq E es gs ≡ true
    entries_eq-trans f es fs gs a b = entries_eq-from_all es gs (λ k. option-trans E f (lookup_entry (eq k) es) (lookup_entry (eq k) fs) (lookup_entry (eq k) gs) (agree-from_eq es fs a k) (agree-from_eq fs gs b k))

  -- a list equals itself, if each pair equals itself
  pub entries_eq-refl : ((x : K × V) → E x x ≡ true) → (es : List (K × V)) → entries_eq eq E es es ≡ true
  entries_eq-refl f es = entries_eq-from_all es es (λ k. option-refl (lookup_entry (eq k) es))
    where
      option-refl : (o : Option (K × V)) → option_eq E o o ≡ true
      option-refl None = refl
      option-refl (Some x) = f x
