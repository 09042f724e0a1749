-- Lemmas that a caller of a run on a map cites.
use Rattle.std.proofs.Common.{◌≡◌, ◌∙◌, ℕ, ◌+◌, Bool, List, [], ◌∷◌, ◌++◌, length, Ok, Err, refl, ap, arith}
use Rattle.std.specs.Prelude.{Result, OnOk}
use Rattle.std.proofs.lemmas.List.Sorted.{length_permutation}
use Rattle.scc_calls.specs.MapCalls.{MapMoves}
use Rattle.scc_calls.specs.Run.{IsRun, done, resize, answer}
use Rattle.scc_calls.specs.States.{State, ResizesTo}
use Rattle.scc_calls.specs.declared.fixed.Setting.{Setting}
use Rattle.scc_calls.specs.declared.calls_as_values.MapCall.TheVariants.{Len}
use Rattle.scc_calls.specs.declared.replies.Reply.{Reply}
use Rattle.scc_calls.specs.declared.replies.Reply.TheVariants.{Inserted, Exists, Old, Key, Pair, Value, Has, Evicted, Cleared, Count}

module _ {K V H : Type 0} (eq : K → K → Bool) (g : Setting H) where
  none-left : {s t : State (K × V)} {made : List (Reply K V)} → IsRun (MapMoves eq) (ResizesTo g) s [] made t → made ≡ []
  none-left done = refl
  none-left (resize h r) = none-left r

  -- a run of one call for the length replies with the number of pairs
  pub count-by_run : {s t : State (K × V)} {made : List (Reply K V)} → IsRun (MapMoves eq) (ResizesTo g) s (Len ∷ []) made t → length made ≡ 1 → (n : ℕ) × (made ≡ Count n ∷ []) × (n ≡ length s.0)
  count-by_run done l = absurd (let h : 0 ≡ 1 = l in omega arith)
  count-by_run (resize h r) l = let i = count-by_run r l in (i.0, i.1, i.2 ∙ length_permutation _ _ h.same)
  count-by_run (answer {reply = Count n} s r) l = (n, ap (λ m. Count n ∷ m) (none-left r), s.0)
  count-by_run (answer {reply = Inserted} s r) l = absurd s
  count-by_run (answer {reply = Exists k v} s r) l = absurd s
  count-by_run (answer {reply = Old v} s r) l = absurd s
  count-by_run (answer {reply = Key k} s r) l = absurd s
  count-by_run (answer {reply = Pair p} s r) l = absurd s
  count-by_run (answer {reply = Value v} s r) l = absurd s
  count-by_run (answer {reply = Has b} s r) l = absurd s
  count-by_run (answer {reply = Evicted p} s r) l = absurd s
  count-by_run (answer {reply = Cleared} s r) l = absurd s

  pub count-of_run : {E : Type 0} (r : Result (Unit {0}) E) (s t : State (K × V)) (olds items : List (Reply K V)) → olds ≡ [] → OnOk r (length items ≡ length olds + 1)
      → ((made : List (Reply K V)) × (items ≡ olds ++ made) × IsRun (MapMoves eq) (ResizesTo g) s (Len ∷ []) made t) → OnOk r ((n : ℕ) × (items ≡ Count n ∷ []) × (n ≡ length s.0))
  count-of_run (Ok u) s t olds items e l h =
      let same : items ≡ h.0 = h.1 ∙ ap (λ o. o ++ h.0) e in
      let one : length h.0 ≡ 1 = omega (arith, l, ap length same, ap length e) in
      let i = count-by_run h.2 one in
      (i.0, same ∙ i.1, i.2)
  count-of_run (Err x) s t olds items e l h = tt
