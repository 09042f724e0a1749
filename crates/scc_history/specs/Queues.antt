-- The queue of the next step of each history, from which the least step is taken.
use Rattle.std.specs.Prelude.{◌≡◌, ℕ, ◌<◌, List, length, map, slice_index, nat_lt, if◌then◌else◌, ◌==◌, All, ◌∷◌, MatchBool, drop}
use Rattle.std.specs.List.{sum_by}
use Rattle.std.specs.List.Sorted.{IsPermutation}
use Rattle.scc_calls.specs.declared.steps.Step.{Step}
use Rattle.scc_history.specs.Orders.{least, order_number}

module _ {X A R : Type 0} (key : X → ℕ × ℕ) (hs : List (List (Step A R))) where
  -- 1 if x is a step of list k, else 0
  abbrev pub one : ℕ → X → ℕ
  one k x = if (key x).1 == k then 1 else 0

  -- x is the next step of a list that isn't done, with its order number
  abbrev pub IsNextStep : List ℕ → X → Type 0
  IsNextStep done x = ((key x).1 < length hs) × (slice_index done (key x).1 < slice_index (map length hs) (key x).1) × ((key x).0 ≡ order_number hs ((key x).1, slice_index done (key x).1))

  -- how many steps of list k are in the queue if the first n lists were added
  abbrev pub due : ℕ → List ℕ → ℕ → ℕ
  due n done k = if nat_lt k n then (if nat_lt (slice_index done k) (slice_index (map length hs) k) then 1 else 0) else 0

  -- each of the first n lists that isn't done has its next step in the queue, once
  pub record Queued (n : ℕ) (done : List ℕ) (items : List X) : Type 0 where
    pub each : All (IsNextStep done) items
    pub once : (k : ℕ) → sum_by (one k) items ≡ due n done k

-- if there is a step at place j of the history of stripe i, the step was added with its order number
abbrev pub JoinsQueue : {X A R : Type 0} → (X → ℕ × ℕ) → List (Step A R) → ℕ → ℕ → List X → List X → Type 0
JoinsQueue {X} key history j i old new = MatchBool (nat_lt j (length history)) ((x : X) × (key x ≡ (least (drop j history), i)) × IsPermutation (x ∷ old) new) (new ≡ old)
