-- Every merge of histories is a run of the whole machine.
use Rattle.std.proofs.Common.{◌≡◌, map, ℕ, zero, suc, ◌+◌, List, [], ◌∷◌, ◌++◌, length, Option, Some, refl, sym, ap, subst, arith, add-zero}
use Rattle.std.specs.Prelude.{slice_get, slice_set}
use Rattle.std.specs.List.{AllByRecursion}
use Rattle.scc_calls.specs.declared.steps.Step.{Step}
use Rattle.scc_calls.specs.declared.steps.Step.TheVariants.{Call, Resize}
use Rattle.scc_calls.specs.Parts.{Routed, RoutedFrom, KeyRouted}
use Rattle.scc_calls.specs.Histories.{Goes, Run, Merge, Replays, StepRouted, CallsRouted}

-- the state of one part, its step, and the facts after the step
record Turn {S A R K : Type 0} (moves : S → A → R → S → Type 0) (resizes : S → ℕ → S → Type 0) (keys : S → List K) (key_of : A → Option K) (route : K → ℕ)
    (k i : ℕ) (parts : List S) (histories : List (List (Step A R))) (ends : List S) (step : Step A R) (rest : List (Step A R)) : Type 0 where
  before : List S
  after : List S
  old : S
  mid : S
  is : parts ≡ before ++ old ∷ after
  place : length before ≡ i
  goes : Goes moves resizes old step mid
  key : StepRouted key_of route (k + i) step
  replays : Replays moves resizes (before ++ mid ∷ after) (slice_set histories i rest) ends
  routed : RoutedFrom route keys k (before ++ mid ∷ after)
  calls : CallsRouted key_of route k (slice_set histories i rest)

module _ (S A R K W : Type 0) (moves : S → A → R → S → Type 0) (resizes : S → ℕ → S → Type 0) (keys : S → List K) (key_of : A → Option K) (route : K → ℕ)
    (whole : List S → W) (whole_moves : ℕ → W → A → R → W → Type 0) (whole_resizes : ℕ → W → ℕ → W → Type 0)
    (keeps : (i : ℕ) (old new : S) (step : Step A R) → Routed route i (keys old) → StepRouted key_of route i step → Goes moves resizes old step new → Routed route i (keys new))
    (is_whole : (before after : List S) (old new : S) (step : Step A R) → RoutedFrom route keys 0 (before ++ old ∷ after) → StepRouted key_of route (length before) step
    → Goes moves resizes old step new → Goes (whole_moves (length before)) (whole_resizes (length before)) (whole (before ++ old ∷ after)) step (whole (before ++ new ∷ after)))
  where
    turn : (k i : ℕ) (parts : List S) (histories : List (List (Step A R))) (ends : List S) (step : Step A R) (rest : List (Step A R))
        → slice_get histories i ≡ Some (step ∷ rest) → Replays moves resizes parts histories ends → RoutedFrom route keys k parts → CallsRouted key_of route k histories
        → Turn moves resizes keys key_of route k i parts histories ends step rest
    turn k i [] [] [] step rest is replays routed calls = cc
    turn k i [] [] (new ∷ news) step rest is replays routed calls = absurd replays
    turn k i [] (history ∷ histories) ends step rest is replays routed calls = absurd replays
    turn k i (old ∷ olds) [] ends step rest is replays routed calls = absurd replays
    turn k i (old ∷ olds) (history ∷ histories) [] step rest is replays routed calls = absurd replays
    turn k zero (s ∷ ss) (history ∷ histories) (t ∷ ts) step rest is replays routed calls =
        let e : history ≡ step ∷ rest = cc in
        let r = rw e at replays.0 in
        let c = rw e at calls.0 in
        record {
          before = [];
          after = ss;
          old = s;
          mid = r.0;
          is = refl;
          place = refl;
          goes = r.1;
          key = rw add-zero c.0;
          replays = (r.2, replays.1);
          routed = (keeps k s r.0 step routed.0 c.0 r.1, routed.1);
          calls = (c.1, calls.1);
        }
    turn k (suc i) (s ∷ ss) (history ∷ histories) (t ∷ ts) step rest is replays routed calls =
        let u = turn (k + 1) i ss histories ts step rest is replays.1 routed.1 calls.1 in
        let n : k + 1 + i ≡ k + suc i = omega arith in
        record {
          before = s ∷ u.before;
          after = u.after;
          old = u.old;
          mid = u.mid;
          is = ap (λ xs. s ∷ xs) u.is;
          place = ap suc u.place;
          goes = u.goes;
          key = rw n at u.key;
          replays = (replays.0, u.replays);
          routed = (routed.0, u.routed);
          calls = (calls.0, u.calls);
        }

    -- if no history has a step left, the states are the ends
    ended : (parts : List S) (histories : List (List (Step A R))) (ends : List S) → AllByRecursion (λ xs. xs ≡ []) histories → Replays moves resizes parts histories ends → ends ≡ parts
    ended [] [] [] none replays = refl
    ended [] [] (new ∷ news) none replays = absurd replays
    ended [] (history ∷ histories) ends none replays = absurd replays
    ended (old ∷ olds) [] ends none replays = absurd replays
    ended (old ∷ olds) (history ∷ histories) [] none replays = absurd replays
    ended (s ∷ ss) (history ∷ histories) (t ∷ ts) none replays =
        let r = rw none.0 at replays.0 in
        let e = ended ss histories ts none.1 replays.1 in
        cc

    -- every merge of histories that replay from parts to ends is a run of the whole machine between them
    pub merge_is_run : (entries : List (ℕ × Step A R)) (parts : List S) (histories : List (List (Step A R))) (ends : List S)
        → Replays moves resizes parts histories ends → RoutedFrom route keys 0 parts → CallsRouted key_of route 0 histories → Merge histories entries
        → Run whole_moves whole_resizes (whole parts) entries (whole ends)
    merge_is_run [] parts histories ends replays routed calls merge = ap whole (ended parts histories ends merge replays)
    merge_is_run (entry ∷ entries) parts histories ends replays routed calls merge =
        let u = turn 0 entry.0 parts histories ends entry.1 merge.0 merge.1 replays routed calls in
        let next = u.before ++ u.mid ∷ u.after in
        let n : 0 + entry.0 ≡ length u.before = omega (arith, u.place) in
        let P : List S → Type 0 = λ ps. Goes (whole_moves entry.0) (whole_resizes entry.0) (whole ps) entry.1 (whole next) in
        let Q : ℕ → Type 0 = λ i. Goes (whole_moves i) (whole_resizes i) (whole (u.before ++ u.old ∷ u.after)) entry.1 (whole next) in
        let routed' = rw u.is at routed in
        let goes = is_whole u.before u.after u.old u.mid entry.1 routed' (rw n at u.key) u.goes in (
          whole next,
          subst P (sym u.is) (subst Q u.place goes),
          merge_is_run entries next (slice_set histories entry.0 merge.0) ends u.replays u.routed u.calls merge.2,
        )

-- every merge is a run, by the laws of a kind with its setting and the number of parts
module _ (G S A R K W : Type 0) (g : G) (n : ℕ) (moves : G → S → A → R → S → Type 0) (resizes : G → S → ℕ → S → Type 0) (empty : ℕ → S) (keys : S → List K) (key_of : A → Option K) (route : G → ℕ → K → ℕ)
    (whole : List S → W) (whole_moves : G → ℕ → ℕ → W → A → R → W → Type 0) (whole_resizes : G → ℕ → ℕ → W → ℕ → W → Type 0)
    (call_is_whole : (g : G) (n : ℕ) (before after : List S) (old new : S) (call : A) (reply : R) → RoutedFrom (route g n) keys 0 (before ++ old ∷ after) → KeyRouted (route g n) (length before) (key_of call)
    → moves g old call reply new → whole_moves g n (length before) (whole (before ++ old ∷ after)) call reply (whole (before ++ new ∷ after)))
    (resize_is_whole : (g : G) (n : ℕ) (before after : List S) (old new : S) (buckets : ℕ) → RoutedFrom (route g n) keys 0 (before ++ old ∷ after)
    → resizes g old buckets new → whole_resizes g n (length before) (whole (before ++ old ∷ after)) buckets (whole (before ++ new ∷ after)))
    (call_keeps : (g : G) (n i : ℕ) (old new : S) (call : A) (reply : R) → Routed (route g n) i (keys old) → KeyRouted (route g n) i (key_of call) → moves g old call reply new → Routed (route g n) i (keys new))
    (resize_keeps : (g : G) (n i : ℕ) (old new : S) (buckets : ℕ) → Routed (route g n) i (keys old) → resizes g old buckets new → Routed (route g n) i (keys new))
    (empty_keeps : (n i b : ℕ) → Routed (route g n) i (keys (empty b)))
  where
    keeps : (i : ℕ) (old new : S) (step : Step A R) → Routed (route g n) i (keys old) → StepRouted key_of (route g n) i step → Goes (moves g) (resizes g) old step new → Routed (route g n) i (keys new)
    keeps i old new (Call stamp pass call reply) routed key goes = call_keeps g n i old new call reply routed key goes
    keeps i old new (Resize stamp buckets) routed key goes = resize_keeps g n i old new buckets routed goes

    is_whole : (before after : List S) (old new : S) (step : Step A R) → RoutedFrom (route g n) keys 0 (before ++ old ∷ after) → StepRouted key_of (route g n) (length before) step
        → Goes (moves g) (resizes g) old step new → Goes (whole_moves g n (length before)) (whole_resizes g n (length before)) (whole (before ++ old ∷ after)) step (whole (before ++ new ∷ after))
    is_whole before after old new (Call stamp pass call reply) routed key goes = call_is_whole g n before after old new call reply routed key goes
    is_whole before after old new (Resize stamp buckets) routed key goes = resize_is_whole g n before after old new buckets routed goes

    empty_routed : (i : ℕ) (opened : List ℕ) → RoutedFrom (route g n) keys i (map empty opened)
    empty_routed i [] = tt
    empty_routed i (b ∷ bs) = (empty_keeps n i b, empty_routed (i + 1) bs)

    pub merges : (opened : List ℕ) (histories : List (List (Step A R))) (ends : List S) (entries : List (ℕ × Step A R))
        → Replays (moves g) (resizes g) (map empty opened) histories ends → CallsRouted key_of (route g n) 0 histories → Merge histories entries
        → Run (whole_moves g n) (whole_resizes g n) (whole (map empty opened)) entries (whole ends)
    merges opened histories ends entries replays calls merge =
        merge_is_run S A R K W (moves g) (resizes g) keys key_of (route g n) whole (whole_moves g n) (whole_resizes g n) keeps is_whole entries (map empty opened) histories ends replays (empty_routed 0 opened) calls merge
