-- Facts about an owned call's reply that follow from its step.
use Rattle.std.proofs.Common.{◌≡◌, ◌⊎◌, List, Bool, true, false, IsTrue, Option, None, Some, Result, Ok, Err, MatchOption, inl, inr, sym, ap, subst, ◌∙◌}
use Rattle.std.specs.Prelude.{IfErr, IfOk, IfSome}
use Rattle.std.specs.Borrow.{Bor}
use Rattle.std.specs.Fn.{Once, FnOnceReturnsAt}
use Rattle.scc_common.specs.Contents.{Contents, entries}
use Rattle.scc_common.specs.Pairs.{find}
use Rattle.scc_common.specs.declared.errors.InsertError.{InsertError}
use Rattle.scc_owned.specs.Entries.{Exists, Memory}
use Rattle.scc_owned.specs.IndexSteps.{RemovesIf, Inserts}
use Rattle.scc_common.specs.Replies.{HasKey}
use Rattle.scc_table.proofs.places.Replies.{find-key}
use Rattle.scc_shared.specs.IndexReplies.{PassesOn}

module _ {K V S : Type 0} (eq : K → K → Bool) where
  pub inserts-back : (c : Contents (K × V) S) (p : K × V) (r : Result (Unit {0}) (InsertError K V)) (d : Contents (K × V) S) → Inserts eq c p r d → IfErr r (λ e. (e ≡ Exists p) ⊎ (e ≡ Memory p))
  inserts-back c p (Ok x) d h = tt
  inserts-back c p (Err (Exists q)) d h = inl (ap Exists h.0)
  inserts-back c p (Err (Memory q)) d h = inr (ap Memory h.0)

module _ {A K V : Type 0} (eq : K → K → Bool) (pair : A → K × V) (es : List (K × V)) (k : K) where
  peeked : (o : Option A) → MatchOption o (find eq es k ≡ None) (λ a. find eq es k ≡ Some (pair a)) → IfSome o (λ a. HasKey eq k (pair a))
  peeked None h = tt
  peeked (Some a) h = find-key eq es k (pair a) h

  -- a pair that is returned for k has a key that equals k
  pub peeks-key : {E : Type 0} (r : Result (Option A) E) → IfOk r (λ o. MatchOption o (find eq es k ≡ None) (λ a. find eq es k ≡ Some (pair a))) → IfOk r (λ o. IfSome o (λ a. HasKey eq k (pair a)))
  peeks-key (Err e) h = tt
  peeks-key (Ok o) h = peeked o h

module _ {F K V S : Type 0} (eq : K → K → Bool) (g : Once F (Bor V × Unit {0}) Bool) (f : F) (c : Contents (K × V) S) (k : K) (r : Bool) (d : Contents (K × V) S) where
  answered : (o : Option (K × V)) → RemovesIf g f eq c k r d o → IsTrue r → PassesOn g f
  answered None h t = absurd (let e : true ≡ false = sym t ∙ h.0 in cc)
  answered (Some p) h t = (p.1, subst (FnOnceReturnsAt g f p.1) t h.0)

  -- if a removal was made, the closure returned true on some value
  pub removes-passed : RemovesIf g f eq c k r d (find eq (entries c) k) → IsTrue r → PassesOn g f
  removes-passed = answered (find eq (entries c) k)
