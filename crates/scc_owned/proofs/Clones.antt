-- What look-ups find among clones.
use Rattle.std.proofs.Common.{◌≡◌, ◌∙◌, Bool, true, false, cond, List, [], ◌∷◌, None, Some, refl, sym, subst}
use Rattle.std.specs.Cmp.{IsEquivalence}
use Rattle.std.specs.List.{AllZip}
use Rattle.std.specs.Option.{MatchOption, IsSomeAnd}
use Rattle.std.proofs.lemmas.Bool.{false≢true}
use Rattle.std.proofs.lemmas.List.Sorted.{IsPermutation-sym}
use Rattle.scc_common.specs.Clones.{HasClones}
use Rattle.scc_common.specs.Contents.{Contents, entries}
use Rattle.scc_common.specs.Pairs.{find, IsUnique}
use Rattle.scc_owned.specs.Collections.{FindsClones}
use Rattle.scc_buckets.proofs.Lookups.{find-IsPermutation, distinct-IsPermutation}

module _ {K V : Type 0} {eq : K → K → Bool} (laws : IsEquivalence eq) (C : K → K → Type 0) (D : V → V → Type 0) (equal : (k copy : K) → C k copy → eq k copy ≡ true) where
  abbrev IsCloneOf : K × V → K × V → Type 0
  IsCloneOf p q = C p.0 q.0 × D p.1 q.1

  -- if a clone of a key equals the key, a look-up finds a clone of the pair that it finds among the cloned pairs
  zip-finds : (es fs : List (K × V)) → AllZip IsCloneOf es fs → (k : K) → MatchOption (find eq es k) (find eq fs k ≡ None) (λ p. IsSomeAnd (find eq fs k) (IsCloneOf p))
  zip-finds [] [] z k = refl
  zip-finds [] (y ∷ fs) z k = absurd z
  zip-finds (x ∷ es) [] z k = absurd z
  zip-finds (x ∷ es) (y ∷ fs) z k = by (eq k x.0) (eq k y.0) (laws.symm k y.0 ∙ sym (laws.congr x.0 y.0 k (equal x.0 y.0 z.0.0)) ∙ laws.symm x.0 k) (zip-finds es fs z.1 k)
    where
      by : (b c : Bool) → c ≡ b → MatchOption (find eq es k) (find eq fs k ≡ None) (λ p. IsSomeAnd (find eq fs k) (IsCloneOf p))
          → MatchOption (cond b (Some x) (find eq es k)) (cond c (Some y) (find eq fs k) ≡ None) (λ p. IsSomeAnd (cond c (Some y) (find eq fs k)) (IsCloneOf p))
      by true true e later = z.0
      by true false e later = absurd (false≢true e)
      by false true e later = absurd (false≢true (sym e))
      by false false e later = later

  pub clones-find : {S : Type 0} (B : S → S → Type 0) (c d : Contents (K × V) S) → HasClones IsCloneOf B c d → IsUnique eq d → FindsClones eq IsCloneOf (entries c) (entries d)
  clones-find B c d h u = record {
    finds = λ k.
        subst (λ o. MatchOption (find eq (entries c) k) (o ≡ None) (λ p. IsSomeAnd o (IsCloneOf p)))
        (sym (find-IsPermutation laws h.copies (entries d) k h.same (distinct-IsPermutation laws (entries d) h.copies (IsPermutation-sym h.copies (entries d) h.same) u)))
        (zip-finds (entries c) h.copies h.cloned k);
  }
