-- Walks over pairs with unit values as walks over their keys.
use Rattle.std.proofs.Common.{◌≡◌, Bool, true, false, List, [], ◌∷◌, ◌++◌, Result, refl, sym, ap, subst, ◌∙◌}
use Rattle.std.specs.Borrow.{Bor, MutBor}
use Rattle.std.specs.Fn.{Mut, Called, CalledAt, TakesAt, Takes as MayTake}
use Rattle.std.specs.List.{FoldsTo}
use Rattle.std.specs.List.Sorted.{IsPermutation}
use Rattle.std.specs.Map.{keys_of}
use Rattle.std.proofs.lemmas.List.{map-append}
use Rattle.std.proofs.lemmas.List.Sorted.{IsPermutation-map}
use Rattle.scc_common.specs.Contents.{Contents, entries}
use Rattle.scc_common.specs.Walks.{HoldsInTurn, CalledOn, TakesOn}
use Rattle.scc_common.specs.Walks as pairs
use Rattle.scc_common.specs.declared.errors.WalkError.{WalkError}
use Rattle.scc_common.specs.declared.verdict.Verdict.{Verdict}
use Rattle.scc_buckets.proofs.Mapped.{entries-mapped}
use Rattle.scc_common.specs.PairWalks.{CalledToWrite, TakesToWrite, CallableToWrite}
use Rattle.scc_common.specs.PairWalks as writes
use Rattle.scc_owned.specs.Sinks.{with_units}
use Rattle.scc_owned_set.specs.Keys.{of_map}
use Rattle.scc_owned_set.specs.SetWalks.{CallableWhile, Walks, walked, stopped, went_on, Declines, declined_none, declined, Retains, retained, stayed, went, Takes, ended, refused, kept, took, kept_last, took_last}

-- an order of the map's pairs is an order of the set's keys
pub ordered-keys : {K S : Type 0} (c : Contents (K × Unit {0}) S) (es : List (K × Unit {0})) → IsPermutation (entries c) es → IsPermutation (entries (of_map c)) (keys_of es)
ordered-keys {K} c es p = let f : K × Unit {0} → K = λ e. e.0 in rw (entries-mapped f c) (IsPermutation-map f (entries c) es p)

module _ {C F K V : Type 0} (of : C → F) (StepP : C → K × V → C → Type 0) (StepK : F → K → F → Type 0) (step : (s : C) (p : K × V) (t : C) → StepP s p t → StepK (of s) p.0 (of t)) where
  folds-keys : (es : List (K × V)) (s t : C) → FoldsTo StepP s es t → FoldsTo StepK (of s) (keys_of es) (of t)
  folds-keys [] s t h = ap of h
  folds-keys (p ∷ es) s t h = (of h.0, step s p h.0 h.1, folds-keys es h.0 t h.2)

  pub in-turn : (QP : C → K × V → Type 0) (QK : F → K → Type 0) → ((s : C) (p : K × V) → QK (of s) p.0 → QP s p) → (s : C) (es : List (K × V)) → HoldsInTurn StepK QK (of s) (keys_of es) → HoldsInTurn StepP QP s es
  in-turn QP QK q s es h = record {
    at = λ before after p t e folds. q t p (h.at (keys_of before) (keys_of after) p.0 (of t) (ap keys_of e ∙ map-append (λ (x : K × V). x.0) before (p ∷ after)) (folds-keys before s t folds));
  }

module _ {C F K : Type 0} (gm : Mut C (Bor K × (Bor (Unit {0}) × Unit {0})) Bool) (gf : Mut F (Bor K × Unit {0}) Bool) (of : C → F)
    (one : (s : C) (key : Bor K) (value : Bor (Unit {0})) (r : Bool) (t : C) → Called gm s (key, (value, tt)) r t → CalledAt gf (of s) key.now r (of t))
    (may : (s : C) (key : Bor K) (value : Bor (Unit {0})) → TakesAt gf (of s) key.now → MayTake gm s (key, (value, tt))) where
  on-key : (s : C) (p : K × Unit {0}) (r : Bool) (t : C) → CalledOn gm s p r t → CalledAt gf (of s) p.0 r (of t)
  on-key s p r t h = subst (λ (q : K × Unit {0}). CalledAt gf (of s) q.0 r (of t)) h.shows (one s h.key h.value r t h.called)

  takes-key : (s : C) (p : K × Unit {0}) → TakesAt gf (of s) p.0 → TakesOn gm s p
  takes-key s p h = λ key value e. may s key value (subst (λ (q : K × Unit {0}). TakesAt gf (of s) q.0) (sym e) h)

  -- if the set's closure may be called on the keys in turn, the map's closure may be called on the pairs in turn
  pub callable-keys : (on : Bool) (s : C) (es : List (K × Unit {0})) → CallableWhile gf (λ a. a ≡ on) (of s) (keys_of es) → pairs.CallableWhile gm on s es
  callable-keys on s es h = in-turn of (λ s p t. CalledOn gm s p on t) (λ s q t. (r : Bool) × (r ≡ on) × CalledAt gf s q r t) (λ s p t c. (on, refl, on-key s p on t c)) (TakesOn gm) (TakesAt gf) takes-key s es h

  pub Walks-keys : (s : C) (es : List (K × Unit {0})) (b : Bool) (t : C) → pairs.Walks (CalledOn gm) s es b t → Walks (CalledAt gf) (of s) (keys_of es) b (of t)
  Walks-keys s es b t pairs.ended = walked
  Walks-keys s es b t (pairs.stopped {p = p} c) = stopped (on-key s p false t c)
  Walks-keys s es b t (pairs.went_on {f' = f'} {p = p} {es = rest} c w) = went_on (on-key s p true f' c) (Walks-keys f' rest b t w)

module _ {F K : Type 0} {T : F → K → Bool → F → Type 0} where
  -- a closure that declined some keys and then one more key declined all these keys
  pub declines-more : (ks : List K) {f f' f'' : F} {q : K} → Declines T f ks f' → T f' q false f'' → Declines T f (ks ++ q ∷ []) f''
  declines-more [] declined_none t = declined t declined_none
  declines-more (x ∷ ks) (declined s d) t = declined s (declines-more ks d t)

module _ {C F K R : Type 0} (gm : Mut C (Bor K × (MutBor (Unit {0}) × Unit {0})) (R × (MutBor (Unit {0}) × Unit {0}))) (gf : Mut F (Bor K × Unit {0}) R) (of : C → F)
    (one : (s : C) (key : Bor K) (value left : MutBor (Unit {0})) (r : R) (t : C) → Called gm s (key, (value, tt)) (r, (left, tt)) t → CalledAt gf (of s) key.now r (of t))
    (may : (s : C) (key : Bor K) (value : MutBor (Unit {0})) → TakesAt gf (of s) key.now → MayTake gm s (key, (value, tt))) where
  pub to-key : (s : C) (p : K × Unit {0}) (r : R) (w : Unit {0}) (t : C) → CalledToWrite gm s p r w t → CalledAt gf (of s) p.0 r (of t)
  to-key s p r w t h = subst (λ (q : K × Unit {0}). CalledAt gf (of s) q.0 r (of t)) h.shows (one s h.key h.value h.left r t h.called)

  takes-write : (s : C) (p : K × Unit {0}) → TakesAt gf (of s) p.0 → TakesToWrite gm s p
  takes-write s p h = λ key value e. may s key value (subst (λ (q : K × Unit {0}). TakesAt gf (of s) q.0) (sym e) h)

  pub callable-writes : (On : R → Type 0) (s : C) (es : List (K × Unit {0})) → CallableWhile gf On (of s) (keys_of es) → CallableToWrite gm On s es
  callable-writes On s es h = in-turn of (λ s p t. (r : R) × (w : Unit {0}) × On r × CalledToWrite gm s p r w t) (λ s q t. (r : R) × On r × CalledAt gf s q r t) (λ s p t c. (c.0, c.2, to-key s p c.0 c.1 t c.3)) (TakesToWrite gm) (TakesAt gf) takes-write s es h

module _ {C F K : Type 0} {T : C → K × Unit {0} → Bool → Unit {0} → C → Type 0} {U : F → K → Bool → F → Type 0} (of : C → F) (one : (s : C) (p : K × Unit {0}) (r : Bool) (w : Unit {0}) (t : C) → T s p r w t → U (of s) p.0 r (of t)) where
  pub Retains-keys : (s : C) (es stay : List (K × Unit {0})) (t : C) → writes.Retains T s es stay t → Retains U (of s) (keys_of es) (keys_of stay) (of t)
  Retains-keys s es stay t writes.ended = retained
  Retains-keys s es stay t (writes.kept {f' = f'} {p = p} {w = w} {es = rest} {stay = more} c x) = stayed (one s p true w f' c) (Retains-keys f' rest more t x)
  Retains-keys s es stay t (writes.removed {f' = f'} {p = p} {w = w} {es = rest} c x) = went (one s p false w f' c) (Retains-keys f' rest stay t x)

module _ {C F K : Type 0} {T : C → K × Unit {0} → Verdict → Unit {0} → C → Type 0} {U : F → K → Verdict → F → Type 0} (of : C → F) (one : (s : C) (p : K × Unit {0}) (r : Verdict) (w : Unit {0}) (t : C) → T s p r w t → U (of s) p.0 r (of t)) where
  pub Takes-keys : (s : C) (es stay more : List (K × Unit {0})) (r : Result Bool WalkError) (t : C) → writes.Takes T s es stay more r t → Takes U (of s) (keys_of es) (keys_of stay) (keys_of more) r (of t)
  Takes-keys s es stay more r t writes.ended = ended
  Takes-keys s es stay more r t writes.refused = refused
  Takes-keys s es stay more r t (writes.kept {f' = f'} {p = p} {w = w} {es = rest} {stay = left} c x) = kept (one s p _ w f' c) (Takes-keys f' rest left more r t x)
  Takes-keys s es stay more r t (writes.took {f' = f'} {p = p} {w = w} {es = rest} {taken = others} c x) = took (one s p _ w f' c) (Takes-keys f' rest stay others r t x)
  Takes-keys s es stay more r t (writes.kept_last {p = p} {w = w} c) = kept_last (one s p _ w t c)
  Takes-keys s es stay more r t (writes.took_last {p = p} {w = w} c) = took_last (one s p _ w t c)

units-back : {K : Type 0} (ks : List K) → keys_of (with_units ks) ≡ ks
units-back [] = refl
units-back (k ∷ ks) = ap (λ l. k ∷ l) (units-back ks)

-- if pairs are put at the end of a list of keys, the keys of the pairs are at the end of the list
pub taken-keys : {K : Type 0} (old new : List K) (more : List (K × Unit {0})) → with_units new ≡ with_units old ++ more → new ≡ old ++ keys_of more
taken-keys {K} old new more h =
    sym (units-back new) ∙ ap keys_of h ∙ map-append (λ (p : K × Unit {0}). p.0) (with_units old) more ∙ ap (λ l. l ++ keys_of more) (units-back old)

pub units-same : {K : Type 0} (old new : List K) → with_units new ≡ with_units old → new ≡ old
units-same old new h = sym (units-back new) ∙ ap keys_of h ∙ units-back old
