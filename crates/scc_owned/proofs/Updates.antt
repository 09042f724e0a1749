-- Look-ups after a pair is replaced by a pair with an equal key.
use Rattle.std.proofs.Common.{◌≡◌, ◌∙◌, Bool, true, false, cond, List, [], ◌∷◌, ◌++◌, Some, sym, ap, subst}
use Rattle.std.specs.Cmp.{IsEquivalence}
use Rattle.std.specs.List.{IsDistinct}
use Rattle.std.specs.Map.{keys_of, lookup_entry}
use Rattle.scc_common.specs.Pairs.{find, FindsInstead}
use Rattle.scc_buckets.proofs.PairSplits.{by_answer, cond-true, cond-false, find-split, front_apart}

-- if neither p nor q passes the test, a look-up in the list with q finds what it finds in the list with p
pass-over : {K V : Type 0} (t : K → Bool) (front back : List (K × V)) (p q : K × V) → t p.0 ≡ false → t q.0 ≡ false → lookup_entry t (front ++ q ∷ back) ≡ lookup_entry t (front ++ p ∷ back)
pass-over t [] back p q y z = cond-false (Some q) (lookup_entry t back) z ∙ sym (cond-false (Some p) (lookup_entry t back) y)
pass-over t (x ∷ front) back p q y z = ap (cond (t x.0) (Some x)) (pass-over t front back p q y z)

module _ {K V : Type 0} {eq : K → K → Bool} (laws : IsEquivalence eq) where
  pub finds-replaced : (front back : List (K × V)) (p q : K × V) (es fs : List (K × V)) → es ≡ front ++ p ∷ back → fs ≡ front ++ q ∷ back → eq q.0 p.0 ≡ true → IsDistinct eq (keys_of es) → FindsInstead eq es p.0 (Some q) fs
  finds-replaced front back p q es fs old new equal u = record {
    finds = λ x. ap (lookup_entry (eq x)) new ∙ by_answer (eq x p.0)
        (λ y.
        let z : eq x q.0 ≡ true = laws.congr x p.0 q.0 y ∙ laws.symm p.0 q.0 ∙ equal in
        find-split (eq x) front q back (front_apart laws x front p back (subst (λ (l : List (K × V)). IsDistinct eq (keys_of l)) old u) y) z ∙ sym (cond-true (Some q) (find eq es x) y))
        (λ y.
        let z : eq x q.0 ≡ false = laws.symm x q.0 ∙ laws.congr q.0 p.0 x equal ∙ laws.symm p.0 x ∙ y in
        pass-over (eq x) front back p q y z ∙ ap (lookup_entry (eq x)) (sym old) ∙ sym (cond-false (Some q) (find eq es x) y));
  }
