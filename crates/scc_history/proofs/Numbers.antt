-- A call's stamp determines where the call stands in the stamp order.
use Rattle.std.proofs.Common.{◌≡◌, ℕ, zero, suc, ◌≤◌, List, [], ◌∷◌, drop, Some, arith}
use Rattle.std.specs.Prelude.{slice_get}
use Rattle.scc_calls.specs.declared.steps.Step.{Step}
use Rattle.scc_calls.specs.declared.steps.Step.TheVariants.{Call, Resize}
use Rattle.scc_history.specs.Stamps.{Rises}
use Rattle.scc_history.specs.Orders.{least}

module _ (A R : Type 0) where
  rises_bound : (low : ℕ) (h : List (Step A R)) (last : ℕ) → Rises low h last → low ≤ last
  rises_bound low [] last r = r.0
  rises_bound low (Call stamp pass call reply ∷ h) last r = omega (arith, rises_bound stamp h last r.1, r.0)
  rises_bound low (Resize stamp buckets ∷ h) last r = rises_bound low h last r.1

  least_from : (low : ℕ) (h : List (Step A R)) (last : ℕ) → Rises low h last → last ≤ 18446744073709551615 → low ≤ least h
  least_from low [] last r b = omega (arith, r.0)
  least_from low (Call stamp pass call reply ∷ h) last r b = omega (arith, least_from stamp h last r.1 b, r.0)
  least_from low (Resize stamp buckets ∷ h) last r b = omega (arith, least_from low h last r.1 b, r.0)

  pub call_number : (low : ℕ) (h : List (Step A R)) (last j stamp pass : ℕ) (call : A) (reply : R) → Rises low h last → last ≤ 18446744073709551615 → slice_get h j ≡ Some (Call stamp pass call reply) → least (drop j h) ≡ stamp
  call_number low [] last j stamp pass call reply r b e = cc
  call_number low (Call s p c q ∷ h) last zero stamp pass call reply r b e = let f : s ≡ stamp = cc in omega (arith, f, least_from s h last r.1 b)
  call_number low (Resize s n ∷ h) last zero stamp pass call reply r b e = cc
  call_number low (Call s p c q ∷ h) last (suc j) stamp pass call reply r b e = call_number s h last j stamp pass call reply r.1 b e
  call_number low (Resize s n ∷ h) last (suc j) stamp pass call reply r b e = call_number low h last j stamp pass call reply r.1 b e
