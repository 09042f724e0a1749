-- What a finished run says by itself, and what a run says that can't be finished.
use Rattle.std.specs.Prelude.{◌≡◌, ℕ, Bool, List, length, map, Option, Some}
use Rattle.std.specs.List.{AllByRecursion, sum_by}
use Rattle.std.specs.declared.clone.Clone as clone
use Rattle.std.specs.declared.cmp.PartialEq as eq
use Rattle.std.specs.declared.hash.Hash as hash
use Rattle.std.specs.declared.hash.Hasher as hasher
use Rattle.std.specs.declared.hash.BuildHasher as builder
use Rattle.scc_calls.specs.declared.calling.Calls as calls
use Rattle.scc_calls.specs.Histories.{Replays, CallsRouted, Run, FirstMisrouted}
use Rattle.scc_calls.specs.Made.{IsMadeFor}
use Rattle.scc_calls.specs.declared.fixed.Request.{Request}
use Rattle.scc_calls.specs.declared.fixed.Setting.{Setting}
use Rattle.scc_calls.specs.declared.steps.Step.{Step}
use Rattle.scc_common.specs.Routing.{stripe_of}
use Rattle.scc_history.specs.Orders.{IsMergeOrder, IsOnlyStampOrder, StampsRise, steps_at}
use Rattle.scc_history.specs.Receipts.{AreAll, calls_of}
use Rattle.scc_history.specs.Stamps.{calls_in}
use Rattle.scc_history.specs.declared.log.Receipt.{Receipt}
use Rattle.scc_recorded.specs.Closing.{AllMatch, FirstDisagrees}
use Rattle.scc_recorded.specs.declared.finishing.Finished.{Finished}
use Rattle.scc_recorded.specs.declared.finishing.FinishError.{FinishError}
use Rattle.scc_recorded.specs.declared.finishing.FinishError.TheVariants.{Missing, Misrouted, Disagrees}
use Rattle.scc_recorded.specs.declared.passes.Pass.{Pass}

-- what the parts of a container of a kind hold and do, what the whole does, and which stripe a key routes to
pub record Kind (C H S W A R K : Type 0) : Type 1 where
  pub limits : ℕ → ℕ → ℕ → Type 0
  pub empty : ℕ → S
  pub key_of : A → Option K
  pub moves : Setting H → S → A → R → S → Type 0
  pub resizes : Setting H → S → ℕ → S → Type 0
  pub whole : List S → W
  pub whole_moves : Setting H → ℕ → ℕ → W → A → R → W → Type 0
  pub whole_resizes : Setting H → ℕ → ℕ → W → ℕ → W → Type 0
  pub setting : C → Setting H
  pub state : C → S
  pub calls : A → A → Bool
  pub replies : R → R → Bool
  pub route : H → ℕ → K → ℕ

module _ {C H S W A R K T : Type 0} (kind : Kind C H S W A R K) (number : T → ℕ) (told : T → List (Receipt A R)) (hasher : H) (handed : ℕ) (histories : List (List (Step A R))) (passes : List T) where
  -- a run is finished: the parts hold what the histories led to, and the passes have the receipts of their calls
  pub record IsFinished (chosen : Option (Request H)) (parts : List C) (opened : List ℕ) (places : List (ℕ × ℕ)) : Type 0 where
    -- all parts were made for the request that was chosen, and have one setting
    pub alike : ∥ ((r : Request H) × (chosen ≡ Some r) × (r.hasher ≡ hasher) × ((g : Setting H) × IsMadeFor kind.limits r g × AllByRecursion (λ c. kind.setting c ≡ g) parts)) ∥₁
    -- each history leads from no entry, in the number of buckets at opening, to what its part holds
    pub replays : (g : Setting H) → AllByRecursion (λ c. kind.setting c ≡ g) parts → ∥ Replays (kind.moves g) (kind.resizes g) (map kind.empty opened) histories (map kind.state parts) ∥₁
    -- each call with a key stands in the stripe of its key
    pub routed : CallsRouted kind.key_of (kind.route hasher (length histories)) 0 histories
    -- every merge of the histories is a run of the whole container, which ends in what the parts hold together
    pub merges : (g : Setting H) → AllByRecursion (λ c. kind.setting c ≡ g) parts → (others : List (ℕ × ℕ)) → IsMergeOrder histories others
        → ∥ Run (kind.whole_moves g (length histories)) (kind.whole_resizes g (length histories)) (kind.whole (map kind.empty opened)) (steps_at histories others) (kind.whole (map kind.state parts)) ∥₁
    -- the places are the only merge in the order of the stamps
    pub order : IsOnlyStampOrder histories places
    -- along these places the calls stand in the order of their stamps and, if stamps are equal, of their stripes
    pub stamps : StampsRise histories places
    -- the passes are all that were handed out, each once
    pub complete : AreAll handed (map number passes)
    -- along the order, the receipts of each pass agree with the records of its calls, one for one: in stripe, stamp,
    -- call and reply
    pub receipts : AllMatch kind.calls kind.replies number told passes (λ n. calls_of n (steps_at histories places))
    -- all histories together have as many call records as the passes have receipts
    pub count : sum_by calls_in histories ≡ sum_by (λ p. length (told p)) passes

  -- why a run can't be finished. The cause is the first of its kind, and no cause that is looked for earlier is there
  pub record IsRefused (cause : FinishError) : Type 0 where
    -- the passes are not all that were handed out, each once
    pub missing : cause ≡ Missing → ¬ AreAll handed (map number passes)
    -- the call at this place stands in another stripe than the stripe of its key
    pub misrouted : (i j : ℕ) → cause ≡ Misrouted i j → AreAll handed (map number passes) × FirstMisrouted kind.key_of (kind.route hasher (length histories)) histories i j
    -- the receipt at place k of pass n disagrees with its record, or one of them is missing
    pub disagrees : (n k : ℕ) → cause ≡ Disagrees n k → AreAll handed (map number passes) × CallsRouted kind.key_of (kind.route hasher (length histories)) 0 histories
        × ∥ ((places : List (ℕ × ℕ)) × IsOnlyStampOrder histories places × FirstDisagrees kind.calls kind.replies number told passes (λ m. calls_of m (steps_at histories places)) n k) ∥₁

module _ {C L K H A R T : Type 0} {m : calls.Ghosts C K H A R T} {h : hash.Ghosts K} {g : eq.Ghosts K} {b : builder.Ghosts H T} {w : hasher.Ghosts T} {call_clones : clone.Ghosts A} {call_equality : eq.Ghosts A} {reply_clones : clone.Ghosts R} {reply_equality : eq.Ghosts R} where
  -- the kind of the containers C
  abbrev pub kind_of : List (Pass C L K H A R T m h g b w call_clones call_equality reply_clones reply_equality) → Kind C H m.State m.Whole A R K
  kind_of passes = record {
    limits = m.limits;
    empty = m.empty;
    key_of = m.key_of;
    moves = m.means;
    resizes = m.resizes;
    whole = m.whole;
    whole_moves = m.whole_means;
    whole_resizes = m.whole_resizes;
    setting = m.setting;
    state = m.state;
    calls = call_equality.eq;
    replies = reply_equality.eq;
    route = stripe_of b w h.hash_input;
  }

  -- f is what a run was, as `IsFinished` says: its containers routed by `hasher`, it handed out `handed` passes, and
  -- these are its passes; its containers were made for the request `chosen`
  abbrev pub IsFinishedRun : H → ℕ → List (Pass C L K H A R T m h g b w call_clones call_equality reply_clones reply_equality) → Option (Request H) → Finished C K H A R T → Type 0
  IsFinishedRun hasher handed passes chosen f =
      IsFinished (kind_of passes) (λ p. p.log.number) (λ p. p.log.receipts.items) hasher handed (map (λ h. h.items) f.histories.items) passes chosen f.parts.items f.opened.items f.order.items

  -- why a run with these histories and passes can't be finished, as `IsRefused` says
  abbrev pub IsRefusedRun : H → ℕ → List (List (Step A R)) → List (Pass C L K H A R T m h g b w call_clones call_equality reply_clones reply_equality) → FinishError → Type 0
  IsRefusedRun hasher handed histories passes cause = IsRefused (kind_of passes) (λ p. p.log.number) (λ p. p.log.receipts.items) hasher handed histories passes cause
