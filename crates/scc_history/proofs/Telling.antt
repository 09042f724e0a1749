-- The call records along one more place.
use Rattle.std.proofs.Common.{◌≡◌, ℕ, zero, suc, ◌+◌, ◌<◌, List, [], ◌∷◌, ◌++◌, length, take, get_or, Bool, true, false, Some, refl, ap, ◌∙◌, arith}
use Rattle.std.specs.Prelude.{slice_get, ◌==◌, if◌then◌else◌}
use Rattle.std.specs.List.{AllByRecursion}
use Rattle.std.proofs.lemmas.List.{take_more}
use Rattle.std.proofs.lemmas.List.Elements.{filter_map-append}
use Rattle.scc_calls.specs.declared.steps.Step.{Step}
use Rattle.scc_calls.specs.declared.steps.Step.TheVariants.{Call, Resize}
use Rattle.scc_history.specs.Orders.{at_list, steps_at}
use Rattle.scc_history.specs.Receipts.{calls_of}
use Rattle.scc_history.specs.Stamps.{receipt}

pub all_at : {X : Type 0} (P : X → Type 0) (xs : List X) (k : ℕ) (d : X) → AllByRecursion P xs → k < length xs → P (get_or xs k d)
all_at P [] k d a h = absurd (omega arith)
all_at P (x ∷ xs) zero d a h = a.0
all_at P (x ∷ xs) (suc k) d a h = all_at P xs k d a.1 (omega arith)

either_way : {X : Type 0} (b : Bool) (x : X) (l m n : List X) → l ≡ m ++ n → (if b then x ∷ l else l) ≡ (if b then x ∷ m else m) ++ n
either_way true x l m n e = ap (λ k. x ∷ k) e
either_way false x l m n e = e

module _ {A R : Type 0} (number : ℕ) where
  calls_append : (xs ys : List (ℕ × Step A R)) → calls_of number (xs ++ ys) ≡ calls_of number xs ++ calls_of number ys
  calls_append [] ys = refl
  calls_append ((i, Call stamp pass call reply) ∷ xs) ys = either_way (pass == number) (receipt i stamp call reply) (calls_of number (xs ++ ys)) (calls_of number xs) (calls_of number ys) (calls_append xs ys)
  calls_append ((i, Resize stamp buckets) ∷ xs) ys = calls_append xs ys

  one_at : (hs : List (List (Step A R))) (p : ℕ × ℕ) (h : List (Step A R)) (step : Step A R) → slice_get hs p.0 ≡ Some h → slice_get h p.1 ≡ Some step → steps_at hs (p ∷ []) ≡ (p.0, step) ∷ []
  one_at hs p h step e f = rw (e, f) refl

  pub calls_next : (hs : List (List (Step A R))) (places : List (ℕ × ℕ)) (k : ℕ) (p : ℕ × ℕ) (h : List (Step A R)) (step : Step A R) → k < length places → get_or places k (0, 0) ≡ p → slice_get hs p.0 ≡ Some h → slice_get h p.1 ≡ Some step
      → calls_of number (steps_at hs (take (k + 1) places)) ≡ calls_of number (steps_at hs (take k places)) ++ calls_of number ((p.0, step) ∷ [])
  calls_next hs places k p h step less is e f =
      ap (λ l. calls_of number (steps_at hs l)) (take_more places k (0, 0) less)
      ∙ ap (calls_of number) (filter_map-append (λ (p : ℕ × ℕ). at_list (slice_get hs p.0) p.0 p.1) (take k places) (get_or places k (0, 0) ∷ []))
      ∙ calls_append (steps_at hs (take k places)) (steps_at hs (get_or places k (0, 0) ∷ []))
      ∙ ap (λ q. calls_of number (steps_at hs (take k places)) ++ calls_of number (steps_at hs (q ∷ []))) is
      ∙ ap (λ l. calls_of number (steps_at hs (take k places)) ++ calls_of number l) (one_at hs p h step e f)
