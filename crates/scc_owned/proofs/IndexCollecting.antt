-- Insertions that were not refused for memory, and what look-ups find after them.
use Rattle.std.proofs.Common.{◌≡◌, ◌∙◌, ℕ, Bool, true, false, cond, List, [], ◌∷◌, Option, None, Some, Result, Ok, Err, refl, sym, ap, subst}
use Rattle.std.specs.Cmp.{IsEquivalence}
use Rattle.std.specs.List.{IsDistinct}
use Rattle.std.specs.Map.{keys_of}
use Rattle.std.specs.Option.{option_or, IsSome}
use Rattle.scc_common.specs.Contents.{Contents, entries, settings_of}
use Rattle.scc_common.specs.Pairs.{find, IsUnique}
use Rattle.scc_common.specs.declared.errors.InsertError.{InsertError}
use Rattle.scc_common.specs.declared.errors.InsertError.TheVariants.{Exists, Memory}
use Rattle.scc_owned.specs.IndexCollections.{FindsFirst, InsertsAll, IsAnswerOf}
use Rattle.scc_owned.specs.IndexSteps.{Inserts}
use Rattle.scc_owned.proofs.AfterSteps.{finds-inserted, finds-unchanged, find-equal}
use Rattle.scc_buckets.proofs.Lookups.{distinct-IsPermutation}
use Rattle.scc_buckets.proofs.PairSplits.{by_answer, cond-true, cond-false, distinct-added}

or-none : {X : Type 0} (o : Option X) → option_or o None ≡ o
or-none None = refl
or-none (Some p) = refl

or-some : {X : Type 0} (o p : Option X) → IsSome o → option_or o p ≡ o
or-some None p h = absurd (let z : false ≡ true = h in cc)
or-some (Some x) p h = refl

or-cond : {X : Type 0} (b : Bool) (x : X) (o f : Option X) → option_or (option_or o (cond b (Some x) None)) f ≡ option_or o (cond b (Some x) f)
or-cond true x None f = refl
or-cond true x (Some p) f = refl
or-cond false x None f = refl
or-cond false x (Some p) f = refl

module _ {K V S : Type 0} {eq : K → K → Bool} (laws : IsEquivalence eq) where
  insert-distinct : (c : Contents (K × V) S) (p : K × V) (r : Result (Unit {0}) (InsertError K V)) (d : Contents (K × V) S) → IsAnswerOf r → Inserts eq c p r d → IsUnique eq c → IsUnique eq d
  insert-distinct c p (Ok _) d a s u = distinct-IsPermutation laws (p ∷ entries c) (entries d) s.1.same (distinct-added laws (entries c) p u s.0)
  insert-distinct c p (Err (Exists q)) d a s u = subst (λ (es : List (K × V)). IsDistinct eq (keys_of es)) (sym s.2.exact) u
  insert-distinct c p (Err (Memory q)) d a s u = absurd a

  insert-finds : (c : Contents (K × V) S) (p : K × V) (r : Result (Unit {0}) (InsertError K V)) (d : Contents (K × V) S) → IsAnswerOf r → Inserts eq c p r d → IsUnique eq d → (q : K) → find eq (entries d) q ≡ option_or (find eq (entries c) q) (cond (eq q p.0) (Some p) None)
  insert-finds c p (Ok _) d a s u q = (finds-inserted laws c d p s.1 u).finds q ∙ by_answer (eq q p.0)
      (λ y. cond-true (Some p) (find eq (entries c) q) y ∙ sym (ap (λ o. option_or o (cond (eq q p.0) (Some p) None)) (find-equal laws (entries c) q p.0 y ∙ s.0) ∙ cond-true (Some p) None y))
      (λ y. cond-false (Some p) (find eq (entries c) q) y ∙ sym (ap (option_or (find eq (entries c) q)) (cond-false (Some p) None y) ∙ or-none (find eq (entries c) q)))
  insert-finds c p (Err (Exists x)) d a s u q = finds-unchanged laws c d s.2 q ∙ by_answer (eq q p.0)
      (λ y. sym (or-some (find eq (entries c) q) (cond (eq q p.0) (Some p) None) (subst IsSome (sym (find-equal laws (entries c) q p.0 y)) s.1)))
      (λ y. sym (ap (option_or (find eq (entries c) q)) (cond-false (Some p) None y) ∙ or-none (find eq (entries c) q)))
  insert-finds c p (Err (Memory x)) d a s u q = absurd a

  insert-settings : (c : Contents (K × V) S) (p : K × V) (r : Result (Unit {0}) (InsertError K V)) (d : Contents (K × V) S) → IsAnswerOf r → Inserts eq c p r d → settings_of d ≡ settings_of c
  insert-settings c p (Ok _) d a s = s.1.settings
  insert-settings c p (Err (Exists q)) d a s = s.2.settings
  insert-settings c p (Err (Memory q)) d a s = absurd a

module _ {K V S : Type 0} {eq : K → K → Bool} (laws : IsEquivalence eq) (hash : Contents (K × V) S → K → ℕ) where
  -- insertions keep the settings
  pub collected-settings : (c : Contents (K × V) S) (ps : List (K × V)) (d : Contents (K × V) S) → InsertsAll eq hash c ps d → settings_of d ≡ settings_of c
  collected-settings c [] d s = sym (ap settings_of s)
  collected-settings c (p ∷ ps) d s = collected-settings s.0 ps d s.2 ∙ insert-settings laws c p s.1.0 s.0 s.1.1 s.1.2.step

  -- insertions keep the keys distinct
  pub collected-distinct : (c : Contents (K × V) S) (ps : List (K × V)) (d : Contents (K × V) S) → InsertsAll eq hash c ps d → IsUnique eq c → IsUnique eq d
  collected-distinct c [] d s u = subst (λ z. IsUnique eq z) s u
  collected-distinct c (p ∷ ps) d s u = collected-distinct s.0 ps d s.2 (insert-distinct laws c p s.1.0 s.0 s.1.1 s.1.2.step u)

  finds-along : (c : Contents (K × V) S) (ps : List (K × V)) (d : Contents (K × V) S) → InsertsAll eq hash c ps d → IsUnique eq c → (q : K) → find eq (entries d) q ≡ option_or (find eq (entries c) q) (find eq ps q)
  finds-along c [] d s u q = ap (λ z. find eq (entries z) q) (sym s) ∙ sym (or-none (find eq (entries c) q))
  finds-along c (p ∷ ps) d s u q =
      let v = insert-distinct laws c p s.1.0 s.0 s.1.1 s.1.2.step u in
      finds-along s.0 ps d s.2 v q ∙ ap (λ o. option_or o (find eq ps q)) (insert-finds laws c p s.1.0 s.0 s.1.1 s.1.2.step v q) ∙ or-cond (eq q p.0) p (find eq (entries c) q) (find eq ps q)

  -- after insertions into an empty index, a look-up finds the first inserted pair whose key equals the searched key
  pub collected-finds : (c : Contents (K × V) S) (ps : List (K × V)) (d : Contents (K × V) S) → InsertsAll eq hash c ps d → IsUnique eq c → entries c ≡ [] → FindsFirst eq ps (entries d)
  collected-finds c ps d s u e = record { finds = λ k. finds-along c ps d s u k ∙ ap (λ es. option_or (find eq es k) (find eq ps k)) e }

-- if there are no pairs, no two keys are equal
pub none-unique : {K V S : Type 0} (eq : K → K → Bool) (c : Contents (K × V) S) → entries c ≡ [] → IsUnique eq c
unfolding IsDistinct
none-unique {K} {V} eq c e = subst (λ (es : List (K × V)). IsDistinct eq (keys_of es)) (sym e) tt
