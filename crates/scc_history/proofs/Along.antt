-- Facts along a merge and along the stamp order.
use Rattle.std.proofs.Common.{◌≡◌, ℕ, zero, suc, ◌+◌, ◌<◌, ◌≤◌, List, [], ◌∷◌, length, map, Option, None, Some, ◌⊎◌, inl, inr, refl, ap, ◌∙◌, arith}
use Rattle.std.specs.Prelude.{slice_get, slice_set, slice_index}
use Rattle.std.specs.List.{AllPairs}
use Rattle.std.proofs.lemmas.List.{length-map}
use Rattle.scc_calls.specs.declared.steps.Step.{Step}
use Rattle.scc_calls.specs.declared.steps.Step.TheVariants.{Call, Resize}
use Rattle.scc_history.specs.Stamps.{Rises}
use Rattle.scc_history.specs.Orders.{MergeFrom, IsMergeOrder, AllStand, Comes, StampsComeAt, StampsRise, order_number, number_in, step_at}
use Rattle.scc_history.proofs.Numbers.{call_number}

module _ {X : Type 0} (hs : List (List X)) where
  index_bound : (xs : List ℕ) (i v : ℕ) → v < slice_index xs i → i < length xs
  index_bound [] i v h = absurd (omega arith)
  index_bound (x ∷ xs) zero v h = omega arith
  index_bound (x ∷ xs) (suc i) v h = let l = index_bound xs i v h in omega arith

  stands_from : (done : List ℕ) (places : List (ℕ × ℕ)) → MergeFrom (map length hs) done places → AllStand hs places
  stands_from done [] m = tt
  stands_from done (place ∷ places) m =
      let n : length (map length hs) ≡ length hs = simp length-map in
      ((omega (arith, index_bound (map length hs) place.0 place.1 m.1, n), m.1), stands_from (slice_set done place.0 (place.1 + 1)) places m.2)

  -- each place of a merge has a step
  pub stands : (places : List (ℕ × ℕ)) → IsMergeOrder hs places → AllStand hs places
  stands places m = stands_from (map (λ _. 0) hs) places m

module _ {A R : Type 0} (hs : List (List (Step A R))) (rising : (i : ℕ) (h : List (Step A R)) → slice_get hs i ≡ Some h → (last : ℕ) × Rises 0 h last × (last ≤ 18446744073709551615)) where
  number_of : (p : ℕ × ℕ) (o : Option (List (Step A R))) (stamp pass : ℕ) (call : A) (reply : R) → slice_get hs p.0 ≡ o → step_at hs p ≡ Some (Call stamp pass call reply) → order_number hs p ≡ stamp
  number_of p None stamp pass call reply e s = let f : None ≡ Some (Call stamp pass call reply) = rw e at s in cc
  number_of p (Some h) stamp pass call reply e s =
      let f : slice_get h p.1 ≡ Some (Call stamp pass call reply) = rw e at s in
      let r = rising p.0 h e in
      ap (λ o. number_in o p.1) e ∙ call_number A R 0 h r.0 p.1 stamp pass call reply r.1 r.2 f

  come : (p q : ℕ × ℕ) (x y : Option (Step A R)) → step_at hs p ≡ x → step_at hs q ≡ y → Comes hs p q → StampsComeAt x y p.0 q.0
  come p q (Some (Call s a c r)) (Some (Call t b d u)) e f h =
      let m = number_of p (slice_get hs p.0) s a c r refl e in
      let n = number_of q (slice_get hs q.0) t b d u refl f in
      elim h as (λ _. (s < t) ⊎ ((s ≡ t) × (p.0 ≤ q.0))) [ inl l ↦ inl (omega (arith, m, n, l)) | inr l ↦ inr (omega (arith, m, n, l.0), l.1) ]
  come p q None y e f h = tt
  come p q (Some (Resize s b)) y e f h = tt
  come p q (Some (Call s a c r)) None e f h = tt
  come p q (Some (Call s a c r)) (Some (Resize t b)) e f h = tt

  -- along the stamp order the stamps of calls don't fall
  pub stamps_rise : (places : List (ℕ × ℕ)) → AllPairs (Comes hs) places → StampsRise hs places
  stamps_rise places pairs = λ i j d l m. come _ _ (step_at hs _) (step_at hs _) refl refl (pairs i j d l m)
