-- A call and a refusal as parts of a run.
use Rattle.std.proofs.Common.{◌≡◌, ℕ, Bool, true, false, List, ◌∷◌, ◌⊎◌, inl, inr, subst, refl, arith}
use Rattle.std.proofs.lemmas.Bool.Decides.{nat_tests}
use Rattle.std.specs.Prelude.{MatchBool, ◌==◌, Result, Ok, Err, OnErr}
use Rattle.scc_calls.specs.Resized.{MovesResized, Stays}
use Rattle.scc_calls.specs.Run.{IsRun, done, resize, answer}

either : {P Q : Type 0} (b : Bool) → MatchBool b P Q → P ⊎ Q
either true p = inl p
either false q = inr q

pub when_err : {A E P : Type 0} (r : Result A E) → P → OnErr r P
when_err (Ok x) p = tt
when_err (Err e) p = p

module _ {S C R : Type 0} (size : S → ℕ) {moves : S → C → R → S → Type 0} {resizes : S → ℕ → S → Type 0} where
  -- a call with at most one resize, and then a run, are a run
  pub changes : {s t u : S} {call : C} {calls : List C} {reply : R} {replies : List R} → MovesResized size moves resizes s call reply t → IsRun moves resizes t calls replies u → IsRun moves resizes s (call ∷ calls) (reply ∷ replies) u
  changes {s} {t} {u} {call} {calls} {reply} {replies} h r =
      elim h as (λ _. IsRun moves resizes s (call ∷ calls) (reply ∷ replies) u) [
        | inl kept ↦ answer kept.1 r
        | inr resized ↦ elim resized as (λ _. IsRun moves resizes s (call ∷ calls) (reply ∷ replies) u) [
          | inl grown ↦ resize grown.1.1 (answer grown.1.2 r)
          | inr shrunk ↦ answer shrunk.1.1 (resize shrunk.1.2 r)
        ]
      ]

  -- at most one resize without a call, and then a run, are a run
  pub rests : {s t u : S} {calls : List C} {replies : List R} → Stays size resizes s t → IsRun moves resizes t calls replies u → IsRun moves resizes s calls replies u
  rests {s} {t} {u} {calls} {replies} h r =
      elim (either (size s == size t) h) as (λ _. IsRun moves resizes s calls replies u) [
        | inl same ↦ let P : S → Type 0 = λ x. IsRun moves resizes x calls replies u in subst P same r
        | inr resized ↦ resize resized r
      ]

-- a run by `moves` is a run by `others` if each step by `moves` is a step by `others`
pub run-as : {S C R : Type 0} {moves others : S → C → R → S → Type 0} {resizes : S → ℕ → S → Type 0} → ((s : S) (call : C) (reply : R) (t : S) → moves s call reply t → others s call reply t)
    → {s u : S} {calls : List C} {replies : List R} → IsRun moves resizes s calls replies u → IsRun others resizes s calls replies u
run-as as-other done = done
run-as as-other (resize h r) = resize h (run-as as-other r)
run-as as-other (answer {s} {t} {call} {reply} m r) = answer (as-other s call reply t m) (run-as as-other r)

-- if each step of a call by `moves` is a step by `others`, the call with its resize is a call by `others` too
pub changes-by : {S C D R Q : Type 0} (size : S → ℕ) (resizes : S → ℕ → S → Type 0) (moves : S → C → R → S → Type 0) (others : S → D → Q → S → Type 0) (call : C) (copy : D) (reply : R) (given : Q) (old new : S) → ((s t : S) → moves s call reply t → others s copy given t)
    → MovesResized size moves resizes old call reply new → MovesResized size others resizes old copy given new
changes-by size resizes moves others call copy reply given old new f (inl c) = inl (c.0, f old new c.1)
changes-by size resizes moves others call copy reply given old new f (inr (inl c)) = inr (inl (c.0, (c.1.0, c.1.1, f c.1.0 new c.1.2)))
changes-by size resizes moves others call copy reply given old new f (inr (inr c)) = inr (inr (c.0, (c.1.0, f old c.1.0 c.1.1, c.1.2)))

-- a state that doesn't change stays
pub stays-same : {S : Type 0} (size : S → ℕ) (resizes : S → ℕ → S → Type 0) (s : S) → Stays size resizes s s
stays-same size resizes s = let t : (size s == size s) ≡ true = grind (arith, nat_tests) in rw t refl
