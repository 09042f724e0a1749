-- Stripes that were made for one request.
use Rattle.std.proofs.Common.{◌≡◌, ℕ, zero, suc, ◌<◌, ◌≤◌, List, [], ◌∷◌, length, map, Option, Some, sym, ◌∙◌, subst, arith}
use Rattle.std.specs.Prelude.{slice_get}
use Rattle.std.specs.List.{AllByRecursion}
use Rattle.std.proofs.Math.Logic.{∥∥₁_elim, ∥∥₁_map}
use Rattle.scc_calls.specs.declared.fixed.Request.{Request}
use Rattle.scc_calls.specs.declared.fixed.Setting.{Setting}
use Rattle.scc_calls.specs.declared.steps.Step.{Step}
use Rattle.scc_calls.specs.Made.{IsMadeFor, same-setting}
use Rattle.scc_calls.specs.Histories.{Replay, Replays}
use Rattle.scc_history.specs.Stamps.{Rises}

module _ {H T U : Type 0} (limits : ℕ → ℕ → ℕ → Type 0) (one : (asked slots m n : ℕ) → limits asked slots m → limits asked slots n → m ≡ n) (setting : U → Setting H) (container : T → U) (chosen : Option (Request H))
    (placed : (t : T) → ∥ ((r : Request H) × (chosen ≡ Some r) × IsMadeFor limits r (setting (container t))) ∥₁) (r : Request H) (is : chosen ≡ Some r)
  where
    made_for : (t : T) → ∥ IsMadeFor limits r (setting (container t)) ∥₁
    made_for t = ∥∥₁_map (placed t) (λ p.
        let s : Some p.0 ≡ Some r = sym p.1 ∙ is in
        let e : p.0 ≡ r = cc in
        subst (λ q. IsMadeFor limits q (setting (container t))) e p.2)

    same_all : (g : Setting H) → IsMadeFor limits r g → (ts : List T) → ∥ AllByRecursion (λ c. setting c ≡ g) (map container ts) ∥₁
    same_all g m [] = ∣ tt ∣₁
    same_all g m (t ∷ ts) = ∥∥₁_elim (made_for t) squash₁ (λ n. ∥∥₁_map (same_all g m ts) (λ a. (same-setting limits one r (setting (container t)) g n m, a)))

    pub alike : (ts : List T) → 0 < length ts → ∥ ((g : Setting H) × IsMadeFor limits r g × AllByRecursion (λ c. setting c ≡ g) (map container ts)) ∥₁
    alike [] h = absurd (omega arith)
    alike (t ∷ ts) h = ∥∥₁_elim (made_for t) squash₁ (λ m. ∥∥₁_map (same_all (setting (container t)) m (t ∷ ts)) (λ a. (setting (container t), m, a)))

pub same_of : {G U : Type 0} (setting : U → G) (us : List U) (g h : G) → 0 < length us → AllByRecursion (λ c. setting c ≡ g) us → AllByRecursion (λ c. setting c ≡ h) us → g ≡ h
same_of setting [] g h l a b = absurd (omega arith)
same_of setting (u ∷ us) g h l a b = sym a.0 ∙ b.0

module _ {G S A R T U : Type 0} (moves : G → S → A → R → S → Type 0) (resizes : G → S → ℕ → S → Type 0) (empty : ℕ → S) (setting : U → G) (state : U → S) (container : T → U) (opened : T → ℕ) (history : T → List (Step A R)) (g : G)
    (each : (t : T) → ∥ Replay (moves (setting (container t))) (resizes (setting (container t))) (empty (opened t)) (history t) (state (container t)) ∥₁)
  where
    pub all_replay : (ts : List T) → AllByRecursion (λ c. setting c ≡ g) (map container ts) → ∥ Replays (moves g) (resizes g) (map empty (map opened ts)) (map history ts) (map state (map container ts)) ∥₁
    all_replay [] a = ∣ tt ∣₁
    all_replay (t ∷ ts) a =
        let P : G → Type 0 = λ h. Replay (moves h) (resizes h) (empty (opened t)) (history t) (state (container t)) in
        ∥∥₁_elim (each t) squash₁ (λ r. ∥∥₁_map (all_replay ts a.1) (λ rs. (subst P a.0 r, rs)))

module _ {A R T : Type 0} (history : T → List (Step A R)) (each : (t : T) → (last : ℕ) × Rises 0 (history t) last × (last ≤ 18446744073709551615)) where
  pub rising_at : (ts : List T) (i : ℕ) (h : List (Step A R)) → slice_get (map history ts) i ≡ Some h → (last : ℕ) × Rises 0 h last × (last ≤ 18446744073709551615)
  rising_at [] i h e = absurd (cc)
  rising_at (t ∷ ts) zero h e = let f : history t ≡ h = cc in subst (λ l. (last : ℕ) × Rises 0 l last × (last ≤ 18446744073709551615)) f (each t)
  rising_at (t ∷ ts) (suc i) h e = rising_at ts i h e
