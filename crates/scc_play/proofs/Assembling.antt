-- A finished run is what a script's workers did.
use Rattle.std.proofs.Common.{◌≡◌, ℕ, List, [], ◌∷◌, Bool, true, map, length, replicate, Option, Some, refl, sym, ap, subst, ◌∙◌, zero-add}
use Rattle.std.specs.List.{AllByRecursion, flat_map, sum_by}
use Rattle.std.specs.List.Sorted.{IsPermutation, IsSorted}
use Rattle.std.proofs.Math.Logic.{∥∥₁_elim, ∥∥₁_map}
use Rattle.std.proofs.lemmas.List.{length-map}
use Rattle.scc_calls.specs.Histories.{Replays, CallsRouted, Run}
use Rattle.scc_calls.specs.Made.{IsMadeFor}
use Rattle.scc_calls.specs.declared.fixed.Request.{Request}
use Rattle.scc_calls.specs.declared.fixed.Setting.{Setting}
use Rattle.scc_calls.specs.declared.steps.Step.{Step}
use Rattle.scc_history.specs.Orders.{IsMergeOrder, IsStampOrder, StampsRise, steps_at}
use Rattle.scc_history.specs.Receipts.{calls_of}
use Rattle.scc_history.specs.Stamps.{calls_in}
use Rattle.scc_history.specs.declared.log.Receipt.{Receipt}
use Rattle.scc_recorded.specs.Closing.{AllMatch}
use Rattle.scc_play.specs.Output.{output_of}
use Rattle.scc_script.specs.declared.line.WorkerCall.{WorkerCall}
use Rattle.scc_play.specs.Answered.{AreAnswered, calls_by}
use Rattle.scc_play.specs.Played.{IsMadeBy, IsPlayed, Machine}
use Rattle.scc_play.specs.Telling.{AreTold}
use Rattle.scc_play.proofs.Telling.{answered-from, told-length}

-- if all numbers are 0, the parts are equal empty parts, one for each number
all-empty : {S : Type 0} (empty : ℕ → S) (opened : List ℕ) → AllByRecursion (λ n. n ≡ 0) opened → map empty opened ≡ replicate (length opened) (empty 0)
all-empty empty [] h = refl
all-empty empty (n ∷ opened) h =
    let first = ap empty h.0 in
    let rest = all-empty empty opened h.1 in
    λ i. first i ∷ rest i

module _ {H S W A R K X C Q V : Type 0} (machine : Machine C H S W A R K X) (route : H → ℕ → K → ℕ)
    (eq : A → A → Bool) (req : R → R → Bool) (exact : (a b : A) → eq a b ≡ true → a ≡ b) (rexact : (a b : R) → req a b ≡ true → a ≡ b)
    (setting : C → Setting H) (number : Q → ℕ) (receipts : Q → List (Receipt A R)) (told : V → List R)
    (chosen : Option (Request H)) (workers stripes : ℕ) (calls : List (WorkerCall A)) (hasher : H)
    (parts : List C) (histories : List (List (Step A R))) (opened : List ℕ) (order : List (ℕ × ℕ)) (passes : List Q) (all : List V) (text : List ℕ) (count : ℕ)
  where
    pub assembled : length histories ≡ stripes → count ≡ stripes → length opened ≡ stripes → length passes ≡ workers
        → ∥ ((r : Request H) × (chosen ≡ Some r) × (r.hasher ≡ hasher) × ((g : Setting H) × IsMadeFor machine.limits r g × AllByRecursion (λ c. setting c ≡ g) parts)) ∥₁
        → ((g : Setting H) → AllByRecursion (λ c. setting c ≡ g) parts → ∥ Replays (machine.moves g) (machine.resizes g) (map machine.empty opened) histories (map machine.state parts) ∥₁)
        → CallsRouted machine.key_of (route hasher count) 0 histories
        → ((g : Setting H) → AllByRecursion (λ c. setting c ≡ g) parts → (places : List (ℕ × ℕ)) → IsMergeOrder histories places → ∥ Run (machine.whole_moves g count) (machine.whole_resizes g count) (machine.whole (map machine.empty opened)) (steps_at histories places) (machine.whole (map machine.state parts)) ∥₁)
        → IsStampOrder histories order → StampsRise histories order
        → AllMatch eq req number receipts passes (λ n. calls_of n (steps_at histories order))
        → AllByRecursion (λ n. n ≡ 0) opened → AllByRecursion (AllByRecursion (IsMadeBy workers)) histories
        → AreTold machine.key_of machine.counted machine.count stripes calls number receipts told 0 passes all
        → ((items : List X) × IsPermutation (flat_map machine.shown parts) items × IsSorted machine.order items × (text ≡ output_of machine.reply machine.content (map told all) items (sum_by calls_in histories)))
        → ∥ ((r : Request H) × (chosen ≡ Some r) × IsPlayed machine (route r.hasher) r workers stripes calls text) ∥₁
    assembled many counted none-opened worker_count alike replays routed merges ordered stamps matches zeros known tells shows =
        let starts : map machine.empty opened ≡ replicate stripes (machine.empty 0) = all-empty machine.empty opened zeros ∙ ap (λ n. replicate n (machine.empty 0)) none-opened in
        ∥∥₁_elim alike squash₁ (λ a. ∥∥₁_map (replays a.3.0 a.3.2) (λ each. (
          a.0,
          a.1,
          record {
            setting = a.3.0;
            histories = histories;
            ends = parts;
            places = order;
            replies = map told all;
            items = shows.0;
            made = a.3.1;
            stripe_count = many;
            replays = subst (λ s. Replays (machine.moves a.3.0) (machine.resizes a.3.0) s histories (map machine.state parts)) starts each;
            routed = subst (λ h. CallsRouted machine.key_of (route h stripes) 0 histories) (sym a.2) (subst (λ n. CallsRouted machine.key_of (route hasher n) 0 histories) counted routed);
            merges = λ places m.
                subst (λ s. ∥ Run (machine.whole_moves a.3.0 stripes) (machine.whole_resizes a.3.0 stripes) (machine.whole s) (steps_at histories places) (machine.whole (map machine.state parts)) ∥₁) starts
                (subst (λ n. ∥ Run (machine.whole_moves a.3.0 n) (machine.whole_resizes a.3.0 n) (machine.whole (map machine.empty opened)) (steps_at histories places) (machine.whole (map machine.state parts)) ∥₁) counted (merges a.3.0 a.3.2 places m));
            known = known;
            order = ordered;
            stamps = stamps;
            worker_count = length-map all told ∙ told-length machine.key_of machine.counted machine.count stripes calls number receipts told 0 passes all tells ∙ worker_count;
            answered = λ worker rs at.
                subst (λ w. AreAnswered machine.key_of machine.counted machine.count stripes (calls_by w calls) (calls_of w (steps_at histories order)) rs) (zero-add worker)
                (answered-from eq req exact rexact machine.key_of machine.counted machine.count stripes calls number receipts told (λ n. calls_of n (steps_at histories order)) 0 passes all tells matches worker rs at);
            same = shows.1;
            rising = shows.2;
            whole = shows.3;
          },
        )))
