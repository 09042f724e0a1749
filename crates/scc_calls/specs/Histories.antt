-- Histories of stripes, their replay, and the runs of the whole container.
use Rattle.std.specs.Prelude.{◌≡◌, ℕ, ◌+◌, ◌<◌, List, [], ◌∷◌, length, Option, Some, slice_get, slice_set, take, IfSome}
use Rattle.std.specs.List.{AllByRecursion}
use Rattle.scc_calls.specs.declared.steps.Step.{Step}
use Rattle.scc_calls.specs.declared.steps.Step.TheVariants.{Call, Resize}
use Rattle.scc_calls.specs.Parts.{KeyRouted}

-- one step of a history leads from old to new
abbrev pub Goes : {S A R : Type 0} → (S → A → R → S → Type 0) → (S → ℕ → S → Type 0) → S → Step A R → S → Type 0
Goes moves resizes old (Call stamp pass call reply) new = moves old call reply new
Goes moves resizes old (Resize stamp buckets) new = resizes old buckets new

-- the replay of a history leads from old to new
abbrev pub Replay : {S A R : Type 0} → (S → A → R → S → Type 0) → (S → ℕ → S → Type 0) → S → List (Step A R) → S → Type 0
Replay {S} moves resizes old [] new = new ≡ old
Replay {S} moves resizes old (step ∷ steps) new = (mid : S) × Goes moves resizes old step mid × Replay moves resizes mid steps new

-- a run of the whole container: each entry names its stripe
abbrev pub Run : {W A R : Type 0} → (ℕ → W → A → R → W → Type 0) → (ℕ → W → ℕ → W → Type 0) → W → List (ℕ × Step A R) → W → Type 0
Run {W} moves resizes old [] new = new ≡ old
Run {W} moves resizes old (entry ∷ entries) new = (mid : W) × Goes (moves entry.0) (resizes entry.0) old entry.1 mid × Run moves resizes mid entries new

-- a merge of lists: each entry is the first of the rest of the list that it names, and in the end nothing is left
abbrev pub Merge : {X : Type 0} → List (List X) → List (ℕ × X) → Type 0
Merge {X} lists [] = AllByRecursion (λ xs. xs ≡ []) lists
Merge {X} lists (entry ∷ entries) = (rest : List X) × (slice_get lists entry.0 ≡ Some (entry.1 ∷ rest)) × Merge (slice_set lists entry.0 rest) entries

-- history i leads from state i of the first list to state i of the last list
abbrev pub Replays : {S A R : Type 0} → (S → A → R → S → Type 0) → (S → ℕ → S → Type 0) → List S → List (List (Step A R)) → List S → Type 0
Replays moves resizes [] [] [] = Unit {0}
Replays moves resizes (old ∷ olds) (history ∷ histories) (new ∷ news) = Replay moves resizes old history new × Replays moves resizes olds histories news
Replays moves resizes [] [] (new ∷ news) = ⊥
Replays moves resizes [] (history ∷ histories) news = ⊥
Replays moves resizes (old ∷ olds) [] news = ⊥
Replays moves resizes (old ∷ olds) (history ∷ histories) [] = ⊥

-- the call's key, if there is one, routes to part i
abbrev pub StepRouted : {A R K : Type 0} → (A → Option K) → (K → ℕ) → ℕ → Step A R → Type 0
StepRouted key_of route i (Call stamp pass call reply) = KeyRouted route i (key_of call)
StepRouted key_of route i (Resize stamp buckets) = Unit {0}

-- each call with a key stands in the history of its own part; the first history is that of part i
abbrev pub CallsRouted : {A R K : Type 0} → (A → Option K) → (K → ℕ) → ℕ → List (List (Step A R)) → Type 0
CallsRouted key_of route i [] = Unit {0}
CallsRouted key_of route i (history ∷ histories) = AllByRecursion (StepRouted key_of route i) history × CallsRouted key_of route (i + 1) histories

-- the first call that doesn't stand in its own part is step j of history i; all calls before it stand in their own
-- parts
abbrev pub FirstMisrouted : {A R K : Type 0} → (A → Option K) → (K → ℕ) → List (List (Step A R)) → ℕ → ℕ → Type 0
FirstMisrouted {A} {R} key_of route histories i j =
    CallsRouted key_of route 0 (take i histories)
    × ((history : List (Step A R)) × (slice_get histories i ≡ Some history) × AllByRecursion (StepRouted key_of route i) (take j history) × (j < length history)
    × IfSome (slice_get history j) (λ step. ¬ StepRouted key_of route i step))
