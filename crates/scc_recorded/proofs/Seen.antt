-- Distinct numbers below a count, and flags of the numbers that came.
use Rattle.std.proofs.Common.{◌≡◌, ℕ, zero, suc, ◌<◌, List, [], ◌∷◌, ◌++◌, length, length-set, map, get_or, Bool, true, false, inl, inr, refl, sym, ◌∙◌, arith}
use Rattle.std.specs.Prelude.{slice_index_or, slice_set}
use Rattle.std.specs.List.{AllByRecursion, AllPairs}
use Rattle.std.proofs.lemmas.Bool.{cases_eq, cases_lt}
use Rattle.std.proofs.lemmas.List.{get_or-set_same, get_or-set_other, get_or_append_left, get_or_push, length-append}
use Rattle.std.proofs.lemmas.List.Quantifiers.{all_pairs_push}
use Rattle.scc_recorded.proofs.Handing.{all_push}

pub record Seen (count : ℕ) (numbers : List ℕ) (seen : List Bool) : Type 0 where
  pub long : length seen ≡ count
  pub below : AllByRecursion (λ n. n < count) numbers
  pub apart : AllPairs (λ m n. m ≡ n → ⊥) numbers
  pub came : (n : ℕ) → n < count → slice_index_or seen n false ≡ true → (i : ℕ) × (i < length numbers) × ((d : ℕ) → get_or numbers i d ≡ n)
  pub not_yet : (n : ℕ) → n < count → slice_index_or seen n false ≡ false → (i d : ℕ) → i < length numbers → get_or numbers i d ≡ n → ⊥

module _ (count : ℕ) (numbers : List ℕ) (seen : List Bool) (s : Seen count numbers seen) (n : ℕ) (h : n < count) where
  -- a number that didn't come yet is added
  pub seen_more : slice_index_or seen n false ≡ false → Seen count (numbers ++ n ∷ []) (slice_set seen n true)
  seen_more new =
      let within : n < length seen = omega (arith, s.long) in
      record {
        long = simp length-set s.long;
        below = all_push (λ n. n < count) numbers n s.below h;
        apart = all_pairs_push (λ m n. m ≡ n → ⊥) numbers n s.apart (λ k d l e. s.not_yet n h new k d l e);
        came = λ m l e. elim (cases_eq m n) as (λ _. (i : ℕ) × (i < length (numbers ++ n ∷ [])) × ((d : ℕ) → get_or (numbers ++ n ∷ []) i d ≡ m)) [
          | inl same ↦ (length numbers, omega (arith, length-append numbers (n ∷ [])), λ d. get_or_push numbers n d (length numbers) refl ∙ sym same)
          | inr other ↦
              let f = get_or-set_other seen n m true false other in
              let c = s.came m l (sym f ∙ e) in (c.0, omega (arith, c.1, length-append numbers (n ∷ [])), λ d. get_or_append_left numbers (n ∷ []) d c.0 c.1 ∙ c.2 d)
        ];
        not_yet = λ m l e i d less is. elim (cases_eq m n) as (λ _. ⊥) [
          | inl same ↦ let f = get_or-set_same seen n true false within in let g : slice_index_or (slice_set seen n true) m false ≡ true = rw same f in let w : true ≡ false = sym g ∙ e in cc
          | inr other ↦
              let f = get_or-set_other seen n m true false other in
              elim (cases_lt i (length numbers)) as (λ _. ⊥) [
                | inl before ↦ s.not_yet m l (sym f ∙ e) i d before (sym (get_or_append_left numbers (n ∷ []) d i before) ∙ is)
                | inr last ↦ let k : length numbers ≡ i = omega (arith, less, length-append numbers (n ∷ [])) in other (sym is ∙ get_or_push numbers n d i k)
              ]
        ];
      }

  -- if a number came before, it comes twice in any longer list in which it is next
  pub twice : slice_index_or seen n false ≡ true → (all : List ℕ) → length numbers < length all → ((i d : ℕ) → i < length numbers → get_or all i d ≡ get_or numbers i d) → ((d : ℕ) → get_or all (length numbers) d ≡ n) → AllPairs (λ m n. m ≡ n → ⊥) all → ⊥
  twice old all longer begins next apart =
      let c = s.came n h old in
      apart c.0 (length numbers) 0 c.1 longer (begins c.0 0 c.1 ∙ c.2 0 ∙ sym (next 0))

pub number_at : {T : Type 0} (f : T → ℕ) (ps : List T) (k d : ℕ) (p : T) → k < length ps → get_or (map f ps) k d ≡ f (get_or ps k p)
number_at f [] k d p h = absurd (omega arith)
number_at f (q ∷ ps) zero d p h = refl
number_at f (q ∷ ps) (suc k) d p h = number_at f ps k d p (omega arith)
