-- The history of a container with one stripe and one pass is a run of the pass's calls.
use Rattle.std.proofs.Common.{◌≡◌, ℕ, zero, suc, ◌+◌, ◌<◌, List, [], ◌∷◌, ◌++◌, length, map, Option, None, Some, refl, sym, ap, ◌∙◌, subst, arith}
use Rattle.std.specs.Prelude.{slice_get}
use Rattle.std.specs.List.{AllByRecursion, flat_map, sum_by}
use Rattle.std.specs.List.Sorted.{IsPermutation}
use Rattle.std.proofs.lemmas.List.{append-nil}
use Rattle.std.proofs.lemmas.List.Concat.{flat_map-cons}
use Rattle.scc_calls.specs.Histories.{Merge, Replay, Replays}
use Rattle.scc_calls.specs.Run.{IsRun, done, resize, answer}
use Rattle.scc_calls.specs.declared.fixed.Request.{Request}
use Rattle.scc_calls.specs.declared.steps.Step.{Step}
use Rattle.scc_calls.specs.declared.steps.Step.TheVariants.{Call, Resize}
use Rattle.scc_history.specs.Orders.{IsMergeOrder, steps_at}
use Rattle.scc_history.specs.Receipts.{calls_of}
use Rattle.scc_history.specs.Stamps.{calls_in, receipt}
use Rattle.scc_history.specs.declared.log.Receipt.{Receipt}
use Rattle.scc_history.proofs.Places.{merge_of}
use Rattle.scc_play.specs.Finished.{IsOutput}
use Rattle.scc_play.specs.Output.{output_of}
use Rattle.scc_script.specs.declared.line.WorkerCall.{WorkerCall}
use Rattle.scc_play.specs.Answered.{AreAnswered, IsAnsweredBy, calls_by}
use Rattle.scc_play.specs.Endings.{all_calls}
use Rattle.scc_play.specs.Played.{IsMadeBy, IsPlayed, Machine}

module _ {A R K : Type 0} (counted : R → Option ℕ) (count : ℕ → R) where
  -- a call on one stripe has one receipt, which has this call and the reply that the worker is told
  one : (key_of : A → Option K) (key : Option K) (call : A) (here : List (Receipt A R)) (reply : R) → IsAnsweredBy key_of counted count key 1 call here reply
      → (r : Receipt A R) × (here ≡ r ∷ []) × (r.call ≡ call) × (reply ≡ r.reply)
  one key_of (Some k) call here reply a = (receipt a.0 a.1 call reply, a.2, refl, refl)
  one key_of None call [] reply a = absurd (let z : 0 ≡ 1 = a.0 in omega (arith, z))
  one key_of None call (r ∷ []) reply a = (r, refl, a.2.0, a.3)
  one key_of None call (r ∷ s ∷ more) reply a = absurd (let z : suc (suc (length more)) ≡ 1 = a.0 in omega (arith, z))

module _ {S A R K : Type 0} (moves : S → A → R → S → Type 0) (resizes : S → ℕ → S → Type 0) (key_of : A → Option K) (counted : R → Option ℕ) (count : ℕ → R) where
  abbrev Alone : S → S → List (Step A R) → List A → List R → Type 0
  Alone s t h calls told = IsRun moves resizes s calls told t × (length told ≡ length calls) × (calls_in h ≡ length calls)

  alone : (s t : S) (h : List (Step A R)) (calls : List A) (told : List R) → AllByRecursion (IsMadeBy 1) h → AreAnswered key_of counted count 1 calls (calls_of 0 (map (λ x. (0, x)) h)) told
      → Replay moves resizes s h t → Alone s t h calls told
  alone s t [] [] told known a replay = rw (a.1, replay) (done, refl, refl)
  alone s t [] (call ∷ calls) told known a replay = absurd (let o = one counted count key_of (key_of call) call a.0 a.2 a.6 in let e : [] ≡ a.0 ++ a.1 = a.4 in cc (o.1))
  alone s t (Resize stamp buckets ∷ h) calls told known a replay =
      let rest = alone replay.0 t h calls told known.1 a replay.2 in
      (resize replay.1 rest.0, rest.1, rest.2)
  alone s t (Call stamp pass call reply ∷ h) [] told known a replay =
      let z : pass ≡ 0 = let l = known.0 in omega (arith, l) in
      let b : AreAnswered key_of counted count 1 [] (receipt 0 stamp call reply ∷ calls_of 0 (map (λ x. (0, x)) h)) told = rw z at a in
      absurd (let e = b.0 in cc e)
  alone s t (Call stamp pass call reply ∷ h) (c ∷ calls) told known a replay =
      let z : pass ≡ 0 = let l = known.0 in omega (arith, l) in
      let first = receipt 0 stamp call reply in
      let records = calls_of 0 (map (λ x. (0, x)) h) in
      let b : AreAnswered key_of counted count 1 (c ∷ calls) (first ∷ records) told = rw z at a in
      let o = one counted count key_of (key_of c) c b.0 b.2 b.6 in
      let joined : first ∷ records ≡ o.0 ∷ b.1 = b.4 ∙ ap (λ l. l ++ b.1) o.1 in
      let same : first ≡ o.0 = cc joined in
      let left : records ≡ b.1 = cc joined in
      let more : AreAnswered key_of counted count 1 calls records b.3 = subst (λ l. AreAnswered key_of counted count 1 calls l b.3) (sym left) b.7 in
      let rest = alone replay.0 t h calls b.3 known.1 more replay.2 in
      let is : call ≡ c = ap (λ r. r.call) same ∙ o.2 in
      let told_is : reply ≡ b.2 = ap (λ r. r.reply) same ∙ sym o.3 in
      let moved : moves s c b.2 replay.0 = subst (λ r. moves s c r replay.0) told_is (subst (λ k. moves s k reply replay.0) is replay.1) in
      let counted : calls_in h + 1 ≡ length (c ∷ calls) = let e = rest.2 in omega (arith, e) in
      rw b.5 (answer moved rest.0, ap suc rest.1, counted)

-- a list of length 1 has one element
single : {X : Type 0} (xs : List X) → length xs ≡ 1 → (x : X) × (xs ≡ x ∷ [])
single [] e = absurd (omega (arith, e))
single (x ∷ []) e = (x, refl)
single (x ∷ y ∷ more) e = absurd (let z : suc (suc (length more)) ≡ 1 = e in omega (arith, z))

-- a merge of one list is the list
merged : {X : Type 0} (h : List X) (entries : List (ℕ × X)) → Merge (h ∷ []) entries → entries ≡ map (λ x. (0, x)) h
merged h [] m = let e : h ≡ [] = m.0 in rw e refl
merged {X} h ((zero, x) ∷ entries) m =
    let e : h ≡ x ∷ m.0 = let z : Some h ≡ Some (x ∷ m.0) = m.1 in cc z in
    let rest : entries ≡ map (λ x. (0, x)) m.0 = merged m.0 entries m.2 in
    rw (e, rest) refl
merged h ((suc i, x) ∷ entries) m = absurd (let z : None ≡ Some (x ∷ m.0) = m.1 in cc z)

module _ {S A R C : Type 0} (moves : S → A → R → S → Type 0) (resizes : S → ℕ → S → Type 0) (state : C → S) where
  -- the replays of one history are one replay
  replayed : (s : S) (h : List (Step A R)) (ends : List C) → Replays moves resizes (s ∷ []) (h ∷ []) (map state ends) → (e : C) × (ends ≡ e ∷ []) × Replay moves resizes s h (state e)
  replayed s h [] r = absurd r
  replayed s h (e ∷ []) r = (e, refl, r.0)
  replayed s h (e ∷ f ∷ more) r = absurd r.1

-- if all calls are by one worker, the calls of this worker are all calls
all_one : {A : Type 0} (calls : List (WorkerCall A)) → AllByRecursion (λ c. c.worker < 1) calls → calls_by 0 calls ≡ all_calls calls
all_one [] a = refl
all_one (c ∷ calls) a =
    let z : c.worker ≡ 0 = let l = a.0 in omega (arith, l) in
    let rest = all_one calls a.1 in
    rw (z, rest) refl

module _ {C H S W A R K X : Type 0} (machine : Machine C H S W A R K X) where
  -- if one worker played on one stripe, the text is the output of a run of all calls
  pub one-output : (items : S → List X) → ((e : C) → items (machine.state e) ≡ machine.shown e) → (route : ℕ → K → ℕ) (request : Request H) (calls : List (WorkerCall A)) (text : List ℕ) → AllByRecursion (λ c. c.worker < 1) calls
      → (p : IsPlayed machine route request 1 1 calls text)
      → IsOutput (machine.moves p.setting) (machine.resizes p.setting) (machine.empty 0) items machine.order machine.reply machine.content (all_calls calls) text
  one-output items seen route request calls text own p =
      let hs = single p.histories p.stripe_count in
      let h = hs.0 in
      let replays : Replays (machine.moves p.setting) (machine.resizes p.setting) (machine.empty 0 ∷ []) (h ∷ []) (map machine.state p.ends) = rw hs.1 at p.replays in
      let end = replayed (machine.moves p.setting) (machine.resizes p.setting) machine.state (machine.empty 0) h p.ends replays in
      let told = single p.replies p.worker_count in
      let merge : IsMergeOrder (h ∷ []) p.places = rw hs.1 at p.order.0 in
      let steps : steps_at p.histories p.places ≡ map (λ x. (0, x)) h = ap (λ l. steps_at l p.places) hs.1 ∙ merged h (steps_at (h ∷ []) p.places) (merge_of _ (h ∷ []) p.places merge) in
      let there : slice_get p.replies 0 ≡ Some told.0 = ap (λ l. slice_get l 0) told.1 in
      let answered : AreAnswered machine.key_of machine.counted machine.count 1 (all_calls calls) (calls_of 0 (map (λ x. (0, x)) h)) told.0 = rw (steps, all_one calls own) at (p.answered 0 told.0 there) in
      let known : AllByRecursion (IsMadeBy 1) h = (let k : AllByRecursion (AllByRecursion (IsMadeBy 1)) (h ∷ []) = rw hs.1 at p.known in k.0) in
      let run = alone (machine.moves p.setting) (machine.resizes p.setting) machine.key_of machine.counted machine.count (machine.empty 0) (machine.state end.0) h (all_calls calls) told.0 known answered end.2 in
      let all : flat_map machine.shown p.ends ≡ items (machine.state end.0) = ap (λ l. flat_map machine.shown l) end.1 ∙ flat_map-cons machine.shown end.0 [] ∙ append-nil (machine.shown end.0) ∙ sym (seen end.0) in
      let many : sum_by calls_in p.histories ≡ length (all_calls calls) = let e : sum_by calls_in p.histories ≡ sum_by calls_in (h ∷ []) = ap (λ l. sum_by calls_in l) hs.1 in let n = run.2 in omega (arith, e, n) in
      record {
        replies = told.0;
        last = machine.state end.0;
        shown = p.items;
        run = run.0;
        all = run.1;
        same = subst (λ l. IsPermutation l p.items) all p.same;
        rising = p.rising;
        whole = p.whole ∙ (λ i. output_of machine.reply machine.content (told.1 i) p.items (many i));
      }
