-- Two runs of the same calls from states that are alike. A call has equal replies in states that are alike.
use Rattle.std.proofs.Common.{◌≡◌, ◌∙◌, ℕ, List, [], ◌∷◌, ◌++◌, length, ◌⊎◌, inl, inr, refl, sym, ap, arith, length-append, append-nil, ◌≤◌}
use Rattle.scc_calls.specs.Run.{IsRun, done, resize, answer}

module _ {R : Type 0} where
  -- `made` begins with `others` and has more replies
  abbrev pub GoesOn : List R → List R → Type 0
  GoesOn made others = (x : R) × (rest : List R) × (made ≡ others ++ x ∷ rest)

  pub longer : (made others : List R) → GoesOn made others → length made ≡ length others → ⊥
  longer made others g l = omega (arith, l, ap length g.2, length-append others (g.0 ∷ g.1))

module _ {S R : Type 0} (Like : S → S → Type 0) where
  -- the replies are equal and the ends are alike; or one run's replies begin with the other's and go on
  abbrev pub Agrees : List R → List R → S → S → Type 0
  Agrees made others u v = ((made ≡ others) × Like u v) ⊎ (GoesOn made others ⊎ GoesOn others made)

  more : (q r : R) (made others : List R) (u v : S) → q ≡ r → Agrees made others u v → Agrees (q ∷ made) (r ∷ others) u v
  more q r made others u v e a = elim a as (λ _. Agrees (q ∷ made) (r ∷ others) u v) [
    | inl same ↦ inl ((λ i. e i ∷ same.0 i), same.1)
    | inr apart ↦ elim apart as (λ _. Agrees (q ∷ made) (r ∷ others) u v) [
      | inl first ↦ inr (inl (first.0, first.1, (λ i. e i ∷ first.2 i)))
      | inr second ↦ inr (inr (second.0, second.1, (λ i. sym e i ∷ second.2 i)))
    ]
  ]

  -- if two runs have equally many replies, the replies are equal and the ends are alike
  pub equally-many : (made others : List R) (u v : S) → Agrees made others u v → length made ≡ length others → (made ≡ others) × Like u v
  equally-many made others u v a l = elim a as (λ _. (made ≡ others) × Like u v) [
    | inl same ↦ same
    | inr apart ↦ elim apart as (λ _. (made ≡ others) × Like u v) [
      | inl first ↦ absurd (longer made others first l)
      | inr second ↦ absurd (longer others made second (sym l))
    ]
  ]

  -- if `others` has no more replies than `made`, `made` begins with `others`
  pub first-replies : (made others : List R) (u v : S) → Agrees made others u v → length others ≤ length made → (rest : List R) × (made ≡ others ++ rest)
  first-replies made others u v a l = elim a as (λ _. (rest : List R) × (made ≡ others ++ rest)) [
    | inl same ↦ ([], same.0 ∙ sym (append-nil others))
    | inr apart ↦ elim apart as (λ _. (rest : List R) × (made ≡ others ++ rest)) [
      | inl first ↦ (first.0 ∷ first.1, first.2)
      | inr second ↦ absurd (omega (arith, l, ap length second.2, length-append made (second.0 ∷ second.1)))
    ]
  ]

module _ {S C R : Type 0} (Like : S → S → Type 0) {moves : S → C → R → S → Type 0} {resizes others-resizes : S → ℕ → S → Type 0}
    (alike : (s t u v : S) (call : C) (q r : R) → Like s t → moves s call q u → moves t call r v → (q ≡ r) × Like u v)
    (left : (s t u : S) (number : ℕ) → Like s t → resizes s number u → Like u t) (right : (s t u : S) (number : ℕ) → Like s t → others-resizes t number u → Like s u) where
  none-made : {s t v : S} {calls : List C} {others : List R} → Like s t → IsRun moves others-resizes t calls others v → Agrees Like [] others s v
  none-made l done = inl (refl, l)
  none-made {s} l (resize {s = t} {t = u} {buckets} h r) = none-made (right s t u buckets l h) r
  none-made l (answer {reply} {replies} m r) = inr (inr (reply, replies, refl))

  one-made : {s m u : S} {call : C} {calls : List C} {reply : R} {made : List R} → moves s call reply m → ((t v : S) (others : List R) → Like m t → IsRun moves others-resizes t calls others v → Agrees Like made others u v)
      → (t v : S) (others : List R) → Like s t → IsRun moves others-resizes t (call ∷ calls) others v → Agrees Like (reply ∷ made) others u v
  one-made {reply} {made} m next t v others l done = inr (inl (reply, made, refl))
  one-made {s} m next t v others l (resize {t = mid} {buckets} h r) = one-made m next mid v others (right s t mid buckets l h) r
  one-made {s} {m = mid} {u} {call} {reply} {made} m next t v others l (answer {t = there} {reply = other} {replies} n r) =
      let a = alike s t mid there call reply other l m n in
      more Like reply other made replies u v a.0 (next there v replies a.1 r)

  -- two runs of the same calls from states that are alike agree
  pub runs-agree : {s t u v : S} {calls : List C} {made others : List R} → Like s t → IsRun moves resizes s calls made u → IsRun moves others-resizes t calls others v → Agrees Like made others u v
  runs-agree l done r = none-made l r
  runs-agree {t} l (resize {s} {t = mid} {buckets} h r) q = runs-agree (left s t mid buckets l h) r q
  runs-agree {t} {v} {others} l (answer m r) q = one-made m (λ t v others k p. runs-agree k r p) t v others l q

-- a run gives no more replies than there are calls
pub no-more : {S C R : Type 0} {moves : S → C → R → S → Type 0} {resizes : S → ℕ → S → Type 0} {s u : S} {calls : List C} {made : List R} → IsRun moves resizes s calls made u → length made ≤ length calls
no-more done = omega arith
no-more (resize h r) = no-more r
no-more (answer {calls} {replies} m r) = omega (arith, no-more r)
