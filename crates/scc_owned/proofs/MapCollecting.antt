-- Upserts that were not refused, and what look-ups find after them.
use Rattle.std.proofs.Common.{◌≡◌, ◌∙◌, ℕ, Bool, true, false, cond, List, [], ◌∷◌, ◌++◌, reverse, Option, None, Some, Ok, refl, sym, ap, subst}
use mathlib.Core.List.{reverse-cons}
use Rattle.std.specs.Cmp.{IsEquivalence}
use Rattle.std.specs.List.{IsDistinct, fold}
use Rattle.std.specs.Map.{keys_of, lookup_entry}
use Rattle.std.specs.Option.{option_or}
use Rattle.std.proofs.lemmas.Map.{keys-set_value}
use Rattle.scc_common.specs.Contents.{Contents, entries, settings_of}
use Rattle.scc_common.specs.Pairs.{find, IsUnique}
use Rattle.scc_owned.specs.MapCollections.{UpsertsAll, key_and_value, FindsItems}
use Rattle.scc_owned.specs.MapSteps.{Upserts}
use Rattle.scc_owned.proofs.CallerLemmas.{finds-inserted, finds-set_value, find-equal}
use Rattle.scc_buckets.proofs.Lookups.{distinct-IsPermutation}
use Rattle.scc_buckets.proofs.PairSplits.{by_answer, cond-true, cond-false, distinct-added}

module _ {K V : Type 0} where
  -- what a look-up finds after p is upserted: true says that the searched key equals the key of p
  abbrev stored : Bool → K × V → Option (K × V) → Option (K × V)
  stored true p None = Some p
  stored true p (Some q) = Some (q.0, p.1)
  stored false p o = o

  base : (o : Option (K × V)) → o ≡ key_and_value (option_or o None) (option_or None o)
  base None = refl
  base (Some p) = refl

  one : (b : Bool) (x : K × V) (o f l : Option (K × V)) → key_and_value (option_or (stored b x o) f) (option_or l (stored b x o)) ≡ key_and_value (option_or o (cond b (Some x) f)) (option_or (option_or l (cond b (Some x) None)) o)
  one true x None f None = refl
  one true x None f (Some l) = refl
  one true x (Some p) f None = refl
  one true x (Some p) f (Some l) = refl
  one false x o f None = refl
  one false x o f (Some l) = refl

  or-none : (o : Option (K × V)) → option_or o None ≡ o
  or-none None = refl
  or-none (Some p) = refl

  module _ (t : K → Bool) where
    lookup-last : (es : List (K × V)) (x : K × V) → lookup_entry t (es ++ x ∷ []) ≡ option_or (lookup_entry t es) (cond (t x.0) (Some x) None)
    lookup-last [] x = refl
    lookup-last (y ∷ es) x = by_answer (t y.0)
        (λ z. cond-true (Some y) (lookup_entry t (es ++ x ∷ [])) z ∙ sym (ap (λ o. option_or o (cond (t x.0) (Some x) None)) (cond-true (Some y) (lookup_entry t es) z)))
        (λ z. cond-false (Some y) (lookup_entry t (es ++ x ∷ [])) z ∙ lookup-last es x ∙ sym (ap (λ o. option_or o (cond (t x.0) (Some x) None)) (cond-false (Some y) (lookup_entry t es) z)))

    folded : (o : Option (K × V)) (ps : List (K × V)) → fold (λ q p. stored (t p.0) p q) o ps ≡ key_and_value (option_or o (lookup_entry t ps)) (option_or (lookup_entry t (reverse ps)) o)
    folded o [] = base o
    folded o (x ∷ ps) =
        folded (stored (t x.0) x o) ps
        ∙ one (t x.0) x o (lookup_entry t ps) (lookup_entry t (reverse ps))
        ∙ ap (λ l. key_and_value (option_or o (lookup_entry t (x ∷ ps))) (option_or l o)) (sym (ap (lookup_entry t) (reverse-cons x ps) ∙ lookup-last (reverse ps) x))

module _ {K V S : Type 0} {eq : K → K → Bool} (laws : IsEquivalence eq) (h : K → ℕ) where
  upsert-distinct : (c : Contents (K × V) S) (p : K × V) (r : Option V) (d : Contents (K × V) S) → Upserts eq h c p (Ok r) d → IsUnique eq c → IsUnique eq d
  upsert-distinct c p None d s u = distinct-IsPermutation laws (p ∷ entries c) (entries d) s.1.same (distinct-added laws (entries c) p u s.0)
  upsert-distinct c p (Some v) d s u = subst (IsDistinct eq) (sym (ap keys_of s.2.exact ∙ keys-set_value (eq p.0) (entries c) p.1)) u

  upsert-finds : (c : Contents (K × V) S) (p : K × V) (r : Option V) (d : Contents (K × V) S) → Upserts eq h c p (Ok r) d → IsUnique eq d → (q : K) → find eq (entries d) q ≡ stored (eq q p.0) p (find eq (entries c) q)
  upsert-finds c p None d s u q = (finds-inserted laws c d p s.1 u).finds q ∙ by_answer (eq q p.0)
      (λ y. cond-true (Some p) (find eq (entries c) q) y ∙ sym (ap (λ b. stored b p (find eq (entries c) q)) y ∙ ap (stored true p) (find-equal laws (entries c) q p.0 y ∙ s.0)))
      (λ y. cond-false (Some p) (find eq (entries c) q) y ∙ sym (ap (λ b. stored b p (find eq (entries c) q)) y))
  upsert-finds c p (Some v) d s u q = (finds-set_value laws c d p.0 (s.0, v) p.1 s.1 s.2).finds q ∙ by_answer (eq q p.0)
      (λ y. cond-true (Some (s.0, p.1)) (find eq (entries c) q) y ∙ sym (ap (λ b. stored b p (find eq (entries c) q)) y ∙ ap (stored true p) (find-equal laws (entries c) q p.0 y ∙ s.1)))
      (λ y. cond-false (Some (s.0, p.1)) (find eq (entries c) q) y ∙ sym (ap (λ b. stored b p (find eq (entries c) q)) y))

  upsert-settings : (c : Contents (K × V) S) (p : K × V) (r : Option V) (d : Contents (K × V) S) → Upserts eq h c p (Ok r) d → settings_of d ≡ settings_of c
  upsert-settings c p None d s = s.1.settings
  upsert-settings c p (Some v) d s = s.2.settings

module _ {K V S : Type 0} {eq : K → K → Bool} (laws : IsEquivalence eq) (hash : Contents (K × V) S → K → ℕ) where
  -- upserts keep the settings
  pub collected-settings : (c : Contents (K × V) S) (ps : List (K × V)) (d : Contents (K × V) S) → UpsertsAll eq hash c ps d → settings_of d ≡ settings_of c
  collected-settings c [] d s = sym (ap settings_of s)
  collected-settings c (p ∷ ps) d s = collected-settings s.0 ps d s.2 ∙ upsert-settings laws (hash c) c p s.1.0 s.0 s.1.1.step

  -- upserts keep the keys distinct
  pub collected-distinct : (c : Contents (K × V) S) (ps : List (K × V)) (d : Contents (K × V) S) → UpsertsAll eq hash c ps d → IsUnique eq c → IsUnique eq d
  collected-distinct c [] d s u = subst (λ z. IsUnique eq z) s u
  collected-distinct c (p ∷ ps) d s u = collected-distinct s.0 ps d s.2 (upsert-distinct laws (hash c) c p s.1.0 s.0 s.1.1.step u)

  finds-along : (c : Contents (K × V) S) (ps : List (K × V)) (d : Contents (K × V) S) → UpsertsAll eq hash c ps d → IsUnique eq c → (q : K) → find eq (entries d) q ≡ fold (λ o p. stored (eq q p.0) p o) (find eq (entries c) q) ps
  finds-along c [] d s u q = ap (λ z. find eq (entries z) q) (sym s)
  finds-along c (p ∷ ps) d s u q =
      let v = upsert-distinct laws (hash c) c p s.1.0 s.0 s.1.1.step u in
      finds-along s.0 ps d s.2 v q ∙ ap (λ o. fold (λ o p. stored (eq q p.0) p o) o ps) (upsert-finds laws (hash c) c p s.1.0 s.0 s.1.1.step v q)

  -- after upserts into an empty map, a look-up finds the first upserted key with the last upserted value
  pub collected-finds : (c : Contents (K × V) S) (ps : List (K × V)) (d : Contents (K × V) S) → UpsertsAll eq hash c ps d → IsUnique eq c → entries c ≡ [] → FindsItems eq ps (entries d)
  collected-finds c ps d s u e = record {
    finds = λ k.
        finds-along c ps d s u k ∙ ap (λ es. fold (λ o p. stored (eq k p.0) p o) (find eq es k) ps) e ∙ folded (eq k) None ps
        ∙ ap (key_and_value (find eq ps k)) (or-none (find eq (reverse ps) k));
  }

-- if there are no pairs, no two keys are equal
pub none-unique : {K V S : Type 0} (eq : K → K → Bool) (c : Contents (K × V) S) → entries c ≡ [] → IsUnique eq c
unfolding IsDistinct
none-unique {K} {V} eq c e = subst (λ (es : List (K × V)). IsDistinct eq (keys_of es)) (sym e) tt
