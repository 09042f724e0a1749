-- What several workers did on a container in stripes, and its text.
use Rattle.std.specs.Prelude.{◌≡◌, ℕ, ◌<◌, List, length, map, replicate, Option, Some, slice_get}
use Rattle.std.specs.List.{AllByRecursion, flat_map, sum_by}
use Rattle.std.specs.List.Sorted.{IsPermutation, IsSorted}
use Rattle.std.specs.declared.cmp.Ordering.{Ordering}
use Rattle.scc_calls.specs.Histories.{Replays, CallsRouted, Run}
use Rattle.scc_calls.specs.Made.{IsMadeFor}
use Rattle.scc_calls.specs.declared.fixed.Request.{Request}
use Rattle.scc_calls.specs.declared.fixed.Setting.{Setting}
use Rattle.scc_calls.specs.declared.steps.Step.{Step}
use Rattle.scc_calls.specs.declared.steps.Step.TheVariants.{Call, Resize}
use Rattle.scc_history.specs.Orders.{IsMergeOrder, IsStampOrder, StampsRise, steps_at}
use Rattle.scc_history.specs.Receipts.{calls_of}
use Rattle.scc_history.specs.Stamps.{calls_in}
use Rattle.scc_play.specs.Output.{output_of}
use Rattle.scc_script.specs.declared.line.WorkerCall.{WorkerCall}
use Rattle.scc_play.specs.Answered.{AreAnswered, calls_by}

-- a call was made by a worker below `workers`
abbrev pub IsMadeBy : {A R : Type 0} → ℕ → Step A R → Type 0
IsMadeBy workers (Call stamp pass call reply) = pass < workers
IsMadeBy workers (Resize stamp buckets) = Unit {0}

-- what each part of a container of a kind holds and does, what the whole does, and how replies and contents are printed
pub record Machine (C H S W A R K X : Type 0) : Type 1 where
  pub limits : ℕ → ℕ → ℕ → Type 0
  pub empty : ℕ → S
  pub key_of : A → Option K
  pub moves : Setting H → S → A → R → S → Type 0
  pub resizes : Setting H → S → ℕ → S → Type 0
  pub whole : List S → W
  pub whole_moves : Setting H → ℕ → ℕ → W → A → R → W → Type 0
  pub whole_resizes : Setting H → ℕ → ℕ → W → ℕ → W → Type 0
  pub counted : R → Option ℕ
  pub count : ℕ → R
  pub state : C → S
  pub shown : C → List X
  pub order : X → X → Ordering
  pub reply : R → List ℕ
  pub content : X → List ℕ

-- Histories of `stripes` stripes that workers made from nothing. Each history replays to the state of its container at
-- the end, each call stands in the part of its key and was made by a worker, and every merge of the histories is a run
-- of the whole. In the order of the stamps, the calls of each worker are those of the script, one after another, with
-- the replies that are printed. The contents are printed in rising order, and the records are counted.
pub record IsPlayed {C H S W A R K X : Type 0} (machine : Machine C H S W A R K X) (route : ℕ → K → ℕ) (request : Request H) (workers stripes : ℕ) (calls : List (WorkerCall A)) (text : List ℕ) : Type 0 where
  pub setting : Setting H
  pub histories : List (List (Step A R))
  pub ends : List C
  pub places : List (ℕ × ℕ)
  pub replies : List (List R)
  pub items : List X
  pub made : IsMadeFor machine.limits request setting
  pub stripe_count : length histories ≡ stripes
  pub replays : Replays (machine.moves setting) (machine.resizes setting) (replicate stripes (machine.empty 0)) histories (map machine.state ends)
  pub routed : CallsRouted machine.key_of (route stripes) 0 histories
  pub merges : (order : List (ℕ × ℕ)) → IsMergeOrder histories order → ∥ Run (machine.whole_moves setting stripes) (machine.whole_resizes setting stripes) (machine.whole (replicate stripes (machine.empty 0))) (steps_at histories order) (machine.whole (map machine.state ends)) ∥₁
  pub known : AllByRecursion (AllByRecursion (IsMadeBy workers)) histories
  pub order : IsStampOrder histories places
  pub stamps : StampsRise histories places
  pub worker_count : length replies ≡ workers
  pub answered : (worker : ℕ) (told : List R) → slice_get replies worker ≡ Some told
      → AreAnswered machine.key_of machine.counted machine.count stripes (calls_by worker calls) (calls_of worker (steps_at histories places)) told
  pub same : IsPermutation (flat_map machine.shown ends) items
  pub rising : IsSorted machine.order items
  pub whole : text ≡ output_of machine.reply machine.content replies items (sum_by calls_in histories)
