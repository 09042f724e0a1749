-- Calls in their own parts, with one more history.
use Rattle.std.proofs.Common.{◌≡◌, ℕ, zero, suc, ◌+◌, List, [], ◌∷◌, take, Option, Some, subst, arith, add-one, add-zero}
use Rattle.std.specs.Prelude.{slice_get}
use Rattle.std.specs.List.{AllByRecursion}
use Rattle.scc_calls.specs.declared.steps.Step.{Step}
use Rattle.scc_calls.specs.Histories.{StepRouted, CallsRouted}

module _ (A R K : Type 0) (key_of : A → Option K) (route : K → ℕ) where
  pub calls_take_more : (k i : ℕ) (hs : List (List (Step A R))) (h : List (Step A R)) → CallsRouted key_of route k (take i hs) → slice_get hs i ≡ Some h → AllByRecursion (StepRouted key_of route (k + i)) h → CallsRouted key_of route k (take (i + 1) hs)
  calls_take_more k i [] h c e a = cc
  calls_take_more k zero (g ∷ hs) h c e a = let f : h ≡ g = cc in (rw (← f) (rw add-zero at a), tt)
  calls_take_more k (suc i) (g ∷ hs) h c e a =
      let n : k + suc i ≡ k + 1 + i = omega arith in
      let m : i + 1 ≡ suc i = omega arith in
      let P : ℕ → Type 0 = λ x. CallsRouted key_of route (k + 1) (take x hs) in
      rw add-one (c.0, subst P m (calls_take_more (k + 1) i hs h c.1 e (rw n at a)))
