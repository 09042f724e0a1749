-- Histories by one meaning are histories by another meaning, if each step by the one is a step by the other.
use Rattle.std.proofs.Common.{ℕ, List, [], ◌∷◌}
use Rattle.scc_calls.specs.Histories.{Goes, Replay, Replays, Run}
use Rattle.scc_calls.specs.declared.steps.Step.{Step}
use Rattle.scc_calls.specs.declared.steps.Step.TheVariants.{Call, Resize}

module _ {S A R : Type 0} {moves others : S → A → R → S → Type 0} (resizes : S → ℕ → S → Type 0) (as-other : (s : S) (call : A) (reply : R) (t : S) → moves s call reply t → others s call reply t) where
  goes-as : (s : S) (step : Step A R) (t : S) → Goes moves resizes s step t → Goes others resizes s step t
  goes-as s (Call stamp pass call reply) t m = as-other s call reply t m
  goes-as s (Resize stamp buckets) t m = m

  replay-as : (old : S) (steps : List (Step A R)) (new : S) → Replay moves resizes old steps new → Replay others resizes old steps new
  replay-as old [] new h = h
  replay-as old (step ∷ steps) new h = (h.0, goes-as old step h.0 h.1, replay-as h.0 steps new h.2)

  pub replays-as : (olds : List S) (histories : List (List (Step A R))) (news : List S) → Replays moves resizes olds histories news → Replays others resizes olds histories news
  replays-as [] [] [] h = tt
  replays-as (old ∷ olds) (history ∷ histories) (new ∷ news) h = (replay-as old history new h.0, replays-as olds histories news h.1)
  replays-as [] [] (new ∷ news) h = absurd h
  replays-as [] (history ∷ histories) news h = absurd h
  replays-as (old ∷ olds) [] news h = absurd h
  replays-as (old ∷ olds) (history ∷ histories) [] h = absurd h

module _ {W A R : Type 0} {moves others : ℕ → W → A → R → W → Type 0} (resizes : ℕ → W → ℕ → W → Type 0) (as-other : (i : ℕ) (w : W) (call : A) (reply : R) (v : W) → moves i w call reply v → others i w call reply v) where
  pub merged-as : (old : W) (entries : List (ℕ × Step A R)) (new : W) → Run moves resizes old entries new → Run others resizes old entries new
  merged-as old [] new h = h
  merged-as old (entry ∷ entries) new h = (h.0, goes-as {moves = moves entry.0} {others = others entry.0} (resizes entry.0) (as-other entry.0) old entry.1 h.0 h.1, merged-as h.0 entries new h.2)
