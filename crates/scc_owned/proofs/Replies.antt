-- Facts about a call's reply that follow from its step, whatever the map holds.
use Rattle.std.proofs.Common.{◌≡◌, ◌⊎◌, ℕ, Bool, true, false, Option, None, Some, Result, Ok, Err, inl, inr, sym, ap, subst}
use Rattle.std.specs.Prelude.{IfErr, IfSome}
use Rattle.std.specs.Borrow.{MutBor}
use Rattle.std.specs.Fn.{Once}
use Rattle.scc_common.specs.Contents.{Contents, entries}
use Rattle.scc_common.specs.Pairs.{find}
use Rattle.scc_buckets.proofs.Lookups.{by_option}
use Rattle.scc_common.specs.declared.errors.InsertError.{InsertError}
use Rattle.scc_owned.specs.Entries.{Exists, Memory}
use Rattle.scc_owned.specs.MapSteps.{RemovesIf}
use Rattle.scc_owned.specs.MapSteps.{Inserts, Upserts, Removes}
use Rattle.scc_common.specs.Replies.{HasKey, PassesWith}
pub use Rattle.scc_table.proofs.places.Replies.{find-key, if-map, reads-equal}

module _ {K V S : Type 0} (eq : K → K → Bool) where
  pub inserts-back : (hash : K → ℕ) (c : Contents (K × V) S) (p : K × V) (r : Result (Unit {0}) (InsertError K V)) (d : Contents (K × V) S) → Inserts eq hash c p r d → IfErr r (λ e. (e ≡ Exists p) ⊎ (e ≡ Memory p))
  inserts-back hash c p (Ok x) d h = tt
  inserts-back hash c p (Err (Exists q)) d h = inl (ap Exists h.0)
  inserts-back hash c p (Err (Memory q)) d h = inr (ap Memory h.0)

  pub upserts-back : (hash : K → ℕ) (c : Contents (K × V) S) (p : K × V) (r : Result (Option V) (InsertError K V)) (d : Contents (K × V) S) → Upserts eq hash c p r d → IfErr r (λ e. e ≡ Memory p)
  upserts-back hash c p (Ok x) d h = tt
  upserts-back hash c p (Err (Exists q)) d h = absurd h
  upserts-back hash c p (Err (Memory q)) d h = ap Memory h.0

  pub removes-key : (c : Contents (K × V) S) (k : K) (r : Option (K × V)) (d : Contents (K × V) S) → Removes eq c k r d → IfSome r (HasKey eq k)
  removes-key c k None d h = tt
  removes-key c k (Some p) d h = find-key eq (entries c) k p h.0

module _ {F K V S : Type 0} (eq : K → K → Bool) (g : Once F (MutBor V × Unit {0}) (Bool × (MutBor V × Unit {0}))) (f : F) (c : Contents (K × V) S) (k : K) (r : Option (K × V)) (d : Contents (K × V) S) where
  passed : (p : K × V) → find eq (entries c) k ≡ Some p → RemovesIf g f eq c k r d (Some p) → IfSome r (λ q. HasKey eq k q × PassesWith g f q)
  passed p some (true, w, met, h) = subst (λ o. IfSome o (λ q. HasKey eq k q × PassesWith g f q)) (sym h.0) (find-key eq (entries c) k p some, (p.1, met))
  passed p some (false, w, met, h) = subst (λ o. IfSome o (λ q. HasKey eq k q × PassesWith g f q)) (sym h.0) tt

  pub removes-passed : RemovesIf g f eq c k r d (find eq (entries c) k) → IfSome r (λ q. HasKey eq k q × PassesWith g f q)
  removes-passed h = by_option (find eq (entries c) k)
      (λ none. let e : r ≡ None = (subst (RemovesIf g f eq c k r d) none h).0 in subst (λ o. IfSome o (λ q. HasKey eq k q × PassesWith g f q)) (sym e) tt)
      (λ p some. passed p some (subst (RemovesIf g f eq c k r d) some h))
