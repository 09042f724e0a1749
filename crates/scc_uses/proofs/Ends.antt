-- From the look-ups of a map to the ends of sessions.
use Rattle.std.proofs.Common.{◌≡◌, ◌≤◌, ◌<◌, ℕ, Bool, true, false, cond, max, Option, None, Some, Result, Ok, Err, refl, sym, ap, subst, ◌∙◌, nat_eq, arith, Bor, MutBor}
use Rattle.std.specs.Cmp.{nat_eq_equiv}
use Rattle.std.specs.Fn.{Once, FnOnceReturnsAtMut}
use Rattle.std.specs.Map.{set_value}
use Rattle.std.specs.Option.{option_map, is_some, OnSome}
use Rattle.std.specs.Result.{OnOk, OnErr}
use Rattle.scc_common.specs.Contents.{Contents, entries}
use Rattle.scc_common.specs.Pairs.{find, FindsInstead, IsUnique}
use Rattle.scc_common.specs.Steps.{HoldsExactly}
use Rattle.scc_common.specs.declared.errors.InsertError.{InsertError}
use Rattle.scc_common.specs.declared.errors.InsertError.TheVariants.{Exists, Memory}
use Rattle.scc_owned.specs.MapSteps.{UpdatesAt, RemovesIf, RemovedIf, Inserts}
use Rattle.scc_common.specs.Closures.{WritesAt}
use Rattle.scc_owned.proofs.CallerLemmas.{by_answer, cond-true, cond-false, find-equal, finds-set_value, finds-rearranged}
use Rattle.scc_uses.specs.Sessions.{end_of, Sets, IsAsBefore, Renews, Expires}

module _ {S : Type 0} (c d : Contents (ℕ × ℕ) S) where
  pick : (b : Bool) (o r : Option (ℕ × ℕ)) → option_map (λ p. p.1) (cond b o r) ≡ cond b (option_map (λ p. p.1) o) (option_map (λ p. p.1) r)
  pick true o r = refl
  pick false o r = refl

  -- if look-ups find something else at one number, the end of that number alone is set
  pub sets : (id : ℕ) (there : Option (ℕ × ℕ)) → FindsInstead nat_eq (entries c) id there (entries d) → Sets c id (option_map (λ p. p.1) there) d
  unfolding end_of
  sets id there f = record { ends = λ q. ap (option_map (λ p. p.1)) (f.finds q) ∙ pick (nat_eq q id) there (find nat_eq (entries c) q) }

  -- if look-ups find what they found before, the ends of sessions are as before
  pub as-before : ((q : ℕ) → find nat_eq (entries d) q ≡ find nat_eq (entries c) q) → IsAsBefore c d
  unfolding end_of
  as-before f = record { ends = λ q. ap (option_map (λ p. p.1)) (f q) }

  pub same-pairs : entries d ≡ entries c → IsAsBefore c d
  same-pairs e = as-before (λ q. ap (λ es. find nat_eq es q) e)

  no-end : (id : ℕ) → find nat_eq (entries c) id ≡ None → end_of c id ≡ None
  unfolding end_of
  no-end id e = ap (option_map (λ p. p.1)) e

  an-end : (id : ℕ) (p : ℕ × ℕ) → find nat_eq (entries c) id ≡ Some p → end_of c id ≡ Some p.1
  unfolding end_of
  an-end id p e = ap (option_map (λ p. p.1)) e

  pub begun : (id end : ℕ) (hash : ℕ → ℕ) (r : Result (Unit {0}) (InsertError ℕ ℕ)) → Inserts nat_eq hash c (id, end) r d → OnOk r (FindsInstead nat_eq (entries c) id (Some (id, end)) (entries d)) → OnOk r ((end_of c id ≡ None) × Sets c id (Some end) d)
  begun id end hash (Ok u) s f = (no-end id s.0, sets id (Some (id, end)) f)
  begun id end hash (Err e) s f = tt

  pub refused : (id end : ℕ) (hash : ℕ → ℕ) (r : Result (Unit {0}) (InsertError ℕ ℕ)) → IsUnique nat_eq d → Inserts nat_eq hash c (id, end) r d → OnErr r (IsAsBefore c d)
  refused id end hash (Ok u) unique s = tt
  refused id end hash (Err (Exists q)) unique s = same-pairs s.2.exact
  refused id end hash (Err (Memory q)) unique s = as-before (finds-rearranged nat_eq_equiv c d s.2 unique)

  module _ {F : Type 0} (g : Once F (Bor ℕ × (MutBor ℕ × Unit {0})) (Unit {0} × (MutBor ℕ × Unit {0}))) (f : F) (id end : ℕ) where
    pub renewed : ((p : ℕ × ℕ) (u : Unit {0}) (w : ℕ) → WritesAt g f p u w → w ≡ max p.1 end) → (r : Option (Unit {0})) (b : Bool) → b ≡ is_some r → UpdatesAt g f nat_eq c id d (find nat_eq (entries c) id) r → Renews (end_of c id) c id end b d
    unfolding end_of
    renewed says r b is = by (find nat_eq (entries c) id) refl
      where
        by : (o : Option (ℕ × ℕ)) → find nat_eq (entries c) id ≡ o → UpdatesAt g f nat_eq c id d o r → Renews (option_map (λ p. p.1) o) c id end b d
        by None e u = (is ∙ ap is_some u.0, same-pairs u.1.exact)
        by (Some p) e u = (is ∙ ap is_some u.2, subst (λ n. Sets c id (Some n) d) (says p u.0 u.1 u.3) (sets id (Some (p.0, u.1)) (finds-set_value nat_eq_equiv c d id p u.1 e u.4)))

  module _ {F : Type 0} (g : Once F (MutBor ℕ × Unit {0}) (Bool × (MutBor ℕ × Unit {0}))) (f : F) (id now : ℕ) where
    abbrev pub Tests : ℕ → Bool → ℕ → Type 0
    Tests m b n = (n ≡ m) × ((b ≡ true) → m ≤ now) × ((b ≡ false) → now < m)

    pub expired : ((m : ℕ) (b : Bool) (n : ℕ) → FnOnceReturnsAtMut g f m b n → Tests m b n) → (r : Option (ℕ × ℕ)) (b : Bool) → b ≡ is_some r → RemovesIf g f nat_eq c id r d (find nat_eq (entries c) id) → OnSome r (FindsInstead nat_eq (entries c) id None (entries d)) → Expires (end_of c id) c id now b d
    unfolding end_of
    expired says r b is = by (find nat_eq (entries c) id) refl
      where
        gone : (p : ℕ × ℕ) (w : ℕ) → r ≡ Some (p.0, w) → OnSome r (FindsInstead nat_eq (entries c) id None (entries d)) → FindsInstead nat_eq (entries c) id None (entries d)
        gone p w e h = rw e at h

        kept : (p : ℕ × ℕ) (w : ℕ) → find nat_eq (entries c) id ≡ Some p → w ≡ p.1 → HoldsExactly c (set_value (nat_eq id) (entries c) w) d → IsAsBefore c d
        kept p w e same h =
            let finds = finds-set_value nat_eq_equiv c d id p w e h in
            as-before (λ q. finds.finds q ∙ by_answer (nat_eq q id)
            (λ y. cond-true (Some (p.0, w)) (find nat_eq (entries c) q) y ∙ ap (λ n. Some (p.0, n)) same ∙ sym e ∙ sym (find-equal nat_eq_equiv (entries c) q id y))
            (λ y. cond-false (Some (p.0, w)) (find nat_eq (entries c) q) y))

        at : (p : ℕ × ℕ) → find nat_eq (entries c) id ≡ Some p → (a : Bool) (w : ℕ) → Tests p.1 a w → RemovedIf g f nat_eq c id r d p w a → OnSome r (FindsInstead nat_eq (entries c) id None (entries d)) → Expires (Some p.1) c id now b d
        at p e true w t h finds = ((λ due. (is ∙ ap is_some h.0, sets id None (gone p w h.0 finds))), (λ early. absurd (omega (arith, early, t.1 refl))))
        at p e false w t h finds = ((λ due. absurd (omega (arith, due, t.2 refl))), (λ early. (is ∙ ap is_some h.0, kept p w e t.0 h.1)))

        by : (o : Option (ℕ × ℕ)) → find nat_eq (entries c) id ≡ o → RemovesIf g f nat_eq c id r d o → OnSome r (FindsInstead nat_eq (entries c) id None (entries d)) → Expires (option_map (λ p. p.1) o) c id now b d
        by None e u finds = (is ∙ ap is_some u.0, same-pairs u.1.exact)
        by (Some p) e u finds = at p e u.0 u.1 (says p.1 u.0 u.1 u.2) u.3 finds
