-- Numbers and words.
use Rattle.std.proofs.Common.{◌≡◌, ◌⊎◌, ℕ, zero, suc, Bool, true, false, cond, List, [], ◌∷◌, ◌++◌, length, Option, None, Some, Result, Ok, Err, refl, sym, ap, ◌∙◌, nat_eq, arith, inl, inr}
use Rattle.std.specs.Cmp.{nat_eq_equiv}
use Rattle.std.specs.List.{slice_get}
use Rattle.std.specs.Option.{option_map}
use Rattle.std.specs.Result.{is_err, OnOk}
use Rattle.scc_common.specs.Contents.{Contents, entries}
use Rattle.scc_common.specs.Pairs.{find, FindsInstead, IsUnique}
use Rattle.scc_common.specs.declared.errors.InsertError.{InsertError}
use Rattle.scc_common.specs.declared.errors.InsertError.TheVariants.{Exists, Memory}
use Rattle.scc_owned.specs.MapSteps.{Inserts}
use Rattle.scc_owned.proofs.CallerLemmas.{by_answer, cond-true, cond-false, finds-rearranged, finds-unchanged}
use Rattle.scc_uses.specs.Interning.{IsNumberOf, IsInverse, number_in}
use borrow.Author.Tests.{eqb-true}

slice_get_push : (xs : List ℕ) (x y m : ℕ) → slice_get (xs ++ x ∷ []) m ≡ Some y → (slice_get xs m ≡ Some y) ⊎ ((m ≡ length xs) × (y ≡ x))
slice_get_push [] x y zero e = inr (refl, (let h : Some x ≡ Some y = e in cc))
slice_get_push [] x y (suc m) e = absurd (let h : None ≡ Some y = e in cc)
slice_get_push (z ∷ xs) x y zero e = inl e
slice_get_push (z ∷ xs) x y (suc m) e = elim (slice_get_push xs x y m e) [ inl h ↦ inl h | inr h ↦ inr ((omega (arith, h.0)), h.1) ]

slice_get_here : (xs : List ℕ) (x : ℕ) → slice_get (xs ++ x ∷ []) (length xs) ≡ Some x
slice_get_here [] x = refl
slice_get_here (z ∷ xs) x = slice_get_here xs x

slice_get_left : (xs ys : List ℕ) (y m : ℕ) → slice_get xs m ≡ Some y → slice_get (xs ++ ys) m ≡ Some y
slice_get_left [] ys y m e = absurd (let h : None ≡ Some y = e in cc)
slice_get_left (z ∷ xs) ys y zero e = e
slice_get_left (z ∷ xs) ys y (suc m) e = slice_get_left xs ys y m e

-- if the map has the number n for a word, n is the number of the word
pub is_number : {S : Type 0} (c : Contents (ℕ × ℕ) S) (words : List ℕ) (w n : ℕ) → IsInverse c words → number_in c w ≡ Some n → IsNumberOf words w n
is_number c words w n i e = record {
  here = i.listed w n e;
  only = λ k at. let h : Some k ≡ Some n = sym (i.numbered w k at) ∙ e in cc;
}

pick : (b : Bool) (o r : Option (ℕ × ℕ)) → option_map (λ p. p.1) (cond b o r) ≡ cond b (option_map (λ p. p.1) o) (option_map (λ p. p.1) r)
pick true o r = refl
pick false o r = refl

pub on_ok : {A E P : Type 0} (r : Result A E) → is_err r ≡ false → OnOk r P → P
on_ok (Ok x) h p = p
on_ok (Err e) h p = absurd (let z : true ≡ false = h in cc)

module _ {S : Type 0} (c d : Contents (ℕ × ℕ) S) (words : List ℕ) (i : IsInverse c words) where
  -- after a new word gets the next number, the map is the inverse of the list with the word at its end
  pub added : (w n : ℕ) → number_in c w ≡ None → n ≡ length words → FindsInstead nat_eq (entries c) w (Some (w, n)) (entries d) → IsInverse d (words ++ w ∷ [])
  added w n missing is f = record {
    listed = λ q m e. by_answer (nat_eq q w)
        (λ y.
        let here : Some n ≡ Some m = sym (after q ∙ cond-true (Some n) (number_in c q) y) ∙ e in
        let place : m ≡ length words = cc in
        let word : q ≡ w = eqb-true q w y in
        rw (place, word) (slice_get_here words w))
        (λ y. slice_get_left words (w ∷ []) q m (i.listed q m (sym (after q ∙ cond-false (Some n) (number_in c q) y) ∙ e)));
    numbered = λ q m e. elim (slice_get_push words w q m e) [
      | inl h ↦ by_answer (nat_eq q w)
          (λ y. absurd (let word : q ≡ w = eqb-true q w y in let z : None ≡ Some m = sym missing ∙ ap (number_in c) (sym word) ∙ i.numbered q m h in cc))
          (λ y. after q ∙ cond-false (Some n) (number_in c q) y ∙ i.numbered q m h)
      | inr h ↦ ap (number_in d) h.1 ∙ after w ∙ cond-true (Some n) (number_in c w) (nat_eq_equiv.refl w) ∙ ap Some (is ∙ sym h.0)
    ];
  }
    where
      after : (q : ℕ) → number_in d q ≡ cond (nat_eq q w) (Some n) (number_in c q)
      after q = ap (option_map (λ p. p.1)) (f.finds q) ∙ pick (nat_eq q w) (Some (w, n)) (find nat_eq (entries c) q)

  -- the next number is the number of the new word
  pub added_number : (w n : ℕ) → number_in c w ≡ None → n ≡ length words → FindsInstead nat_eq (entries c) w (Some (w, n)) (entries d) → IsNumberOf (words ++ w ∷ []) w n
  added_number w n missing is f =
      let inverse = added w n missing is f in
      let here : slice_get (words ++ w ∷ []) n ≡ Some w = rw is (slice_get_here words w) in
      is_number d (words ++ w ∷ []) w n inverse (inverse.numbered w n here)

  -- if look-ups find what they found before, the map is still the inverse of the list of words
  kept : ((q : ℕ) → find nat_eq (entries d) q ≡ find nat_eq (entries c) q) → IsInverse d words
  kept f = record {
    listed = λ q m e. i.listed q m (ap (option_map (λ p. p.1)) (sym (f q)) ∙ e);
    numbered = λ q m e. ap (option_map (λ p. p.1)) (f q) ∙ i.numbered q m e;
  }

  -- after a refused insertion, the map is still the inverse of the list of words
  pub refused : (w n : ℕ) (hash : ℕ → ℕ) (r : Result (Unit {0}) (InsertError ℕ ℕ)) → IsUnique nat_eq d → is_err r ≡ true → Inserts nat_eq hash c (w, n) r d → IsInverse d words
  refused w n hash (Ok u) v e s = absurd (let z : false ≡ true = e in cc)
  refused w n hash (Err (Exists q)) v e s = kept (finds-unchanged nat_eq_equiv c d s.2)
  refused w n hash (Err (Memory q)) v e s = kept (finds-rearranged nat_eq_equiv c d s.2 v)
