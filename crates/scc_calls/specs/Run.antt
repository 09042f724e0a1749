-- A list of calls with their replies.
use Rattle.std.specs.Prelude.{◌≡◌, ℕ, List, [], ◌∷◌, length, Some}
use Rattle.std.specs.List.{slice_get}
use Rattle.scc_calls.specs.Resized.{Stays}

-- From s, `replies` answer the first of `calls`, one after another, and lead to the last state. Resizes may stand
-- between them
pub data IsRun {S C R : Type 0} (moves : S → C → R → S → Type 0) (resizes : S → ℕ → S → Type 0) : S → List C → List R → S → Type 0 where
  done : {s : S} {calls : List C} → IsRun moves resizes s calls [] s
  resize : {s t u : S} {buckets : ℕ} {calls : List C} {replies : List R} → resizes s buckets t → IsRun moves resizes t calls replies u → IsRun moves resizes s calls replies u
  answer : {s t u : S} {call : C} {calls : List C} {reply : R} {replies : List R} → moves s call reply t → IsRun moves resizes t calls replies u → IsRun moves resizes s (call ∷ calls) (reply ∷ replies) u

-- From s, `replies` answer the first of `calls` and lead to a state in which memory for the next call may be refused.
-- From this state at most one resize leads to u
pub record IsStopped {S C R : Type 0} (size : S → ℕ) (moves : S → C → R → S → Type 0) (resizes : S → ℕ → S → Type 0) (may_refuse : S → C → Type 0) (s : S) (calls : List C) (replies : List R) (u : S) : Type 0 where
  pub reached : S
  pub call : C
  pub run : IsRun moves resizes s calls replies reached
  pub next : slice_get calls (length replies) ≡ Some call
  pub refusal : may_refuse reached call
  pub rest : Stays size resizes reached u
