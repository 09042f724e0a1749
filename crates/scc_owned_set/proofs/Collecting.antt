-- Insertions that were not refused for memory, and what look-ups find after them.
use Rattle.std.proofs.Common.{◌≡◌, Bool, true, false, cond, List, [], ◌∷◌, ◌++◌, Option, None, Some, IsSome, is_some, refl, sym, ap, subst, ◌∙◌}
use Rattle.std.specs.Cmp.{IsEquivalence}
use Rattle.std.specs.List.{find as first_passing}
use Rattle.std.specs.Option.{option_or}
use Rattle.scc_owned_set.specs.Keys.{find}

by-bool : {P : Type 0} (b : Bool) → (b ≡ true → P) → (b ≡ false → P) → P
by-bool true p q = p refl
by-bool false p q = q refl

find-last : {K : Type 0} (t : K → Bool) (ks : List K) (k : K) → first_passing t (ks ++ k ∷ []) ≡ option_or (first_passing t ks) (cond (t k) (Some k) None)
find-last t [] k = refl
find-last t (x ∷ ks) k = elim (t x) as (λ y. cond y (Some x) (first_passing t (ks ++ k ∷ [])) ≡ option_or (cond y (Some x) (first_passing t ks)) (cond (t k) (Some k) None)) [ true ↦ refl | false ↦ find-last t ks k ]

or-none : {X : Type 0} (o : Option X) → option_or o None ≡ o
or-none None = refl
or-none (Some x) = refl

new-key : {K : Type 0} (b : Bool) (k : K) (o y m n : Option K) → m ≡ option_or o y → n ≡ cond b (Some k) m → (b ≡ true → m ≡ None) → n ≡ option_or o (option_or y (cond b (Some k) None))
new-key false k o y m n e f g = f ∙ e ∙ ap (λ z. option_or o z) (sym (or-none y))
new-key true k (Some x) y m n e f g = absurd (let z : Some x ≡ None = sym e ∙ g refl in cc)
new-key true k None (Some x) m n e f g = absurd (let z : Some x ≡ None = sym e ∙ g refl in cc)
new-key true k None None m n e f g = f

old-key : {K : Type 0} (b : Bool) (k : K) (o y m : Option K) → m ≡ option_or o y → (b ≡ true → IsSome m) → m ≡ option_or o (option_or y (cond b (Some k) None))
old-key false k o y m e g = e ∙ ap (λ z. option_or o z) (sym (or-none y))
old-key true k (Some x) y m e g = e
old-key true k None (Some x) m e g = e
old-key true k None None m e g = absurd (let z : false ≡ true = sym (ap is_some e) ∙ g refl in cc)

module _ {K : Type 0} {eq : K → K → Bool} (laws : IsEquivalence eq) where
  find-alike : (ks : List K) (q k : K) → eq q k ≡ true → find eq ks q ≡ find eq ks k
  find-alike [] q k y = refl
  find-alike (x ∷ ks) q k y = λ i. cond (laws.congr q k x y i) (Some x) (find-alike ks q k y i)

  -- if k was missing and was inserted, a look-up finds a key of `first`, or else a key of `done ++ k ∷ []`
  pub finds-new : (first mid last done : List K) (k q : K) → find eq mid q ≡ option_or (find eq first q) (find eq done q) → find eq last q ≡ cond (eq q k) (Some k) (find eq mid q) → find eq mid k ≡ None
      → find eq last q ≡ option_or (find eq first q) (find eq (done ++ k ∷ []) q)
  finds-new first mid last done k q e f n =
      new-key (eq q k) k (find eq first q) (find eq done q) (find eq mid q) (find eq last q) e f (λ y. find-alike mid q k y ∙ n) ∙ ap (λ z. option_or (find eq first q) z) (sym (find-last (eq q) done k))

  -- if k equals a key that is there, a look-up still finds a key of `first`, or else a key of `done ++ k ∷ []`
  pub finds-old : (first mid last done : List K) (k q : K) → find eq mid q ≡ option_or (find eq first q) (find eq done q) → last ≡ mid → IsSome (find eq mid k) → find eq last q ≡ option_or (find eq first q) (find eq (done ++ k ∷ []) q)
  finds-old first mid last done k q e same n =
      ap (λ ks. find eq ks q) same ∙ old-key (eq q k) k (find eq first q) (find eq done q) (find eq mid q) e (λ y. subst IsSome (sym (find-alike mid q k y)) n) ∙ ap (λ z. option_or (find eq first q) z) (sym (find-last (eq q) done k))
