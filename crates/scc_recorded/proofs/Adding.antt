-- One more receipt for each stripe.
use Rattle.std.proofs.Common.{◌≡◌, ℕ, ◌+◌, ◌<◌, List, [], ◌∷◌, ◌++◌, ◌⊎◌, inl, inr, refl, sym, ap, ◌∙◌, arith, append_assoc}
use Rattle.std.proofs.Math.Logic.{∥∥₁_map}
use Rattle.std.specs.Prelude.{Result, Ok, Err, IfOk}
use Rattle.std.proofs.lemmas.List.{append-nil}
use Rattle.scc_calls.specs.Calling.{MayNotReply}
use Rattle.scc_calls.specs.Resized.{MovesResized}
use Rattle.scc_calls.specs.Copies.{MayNotClone}
use Rattle.scc_history.specs.declared.log.Receipt.{Receipt}
use Rattle.scc_recorded.specs.Adds.{Adds, MayAnswer, Told}

module _ {G S A R : Type 0} (moves : G → S → A → R → S → Type 0) (call : A) where
  -- a part may give a reply that it gave
  pub may-answer : (g : G) (size : S → ℕ) (resizes : S → ℕ → S → Type 0) (old new : S) (reply : R) → MovesResized size (moves g) resizes old call reply new → MayAnswer moves call reply
  may-answer g size resizes old new reply (inl c) = ∣ (g, old, new, c.1) ∣₁
  may-answer g size resizes old new reply (inr (inl c)) = ∣ (g, c.1.0, new, c.1.2) ∣₁
  may-answer g size resizes old new reply (inr (inr c)) = ∣ (g, old, c.1.0, c.1.1) ∣₁

  -- a part may give a reply that is recorded for a reply that it may give
  pub may-answer-alike : (means : G → S → A → R → S → Type 0) (reply given : R) → ((g : G) (s t : S) → moves g s call reply t → means g s call given t) → MayAnswer moves call reply → MayAnswer means call given
  may-answer-alike means reply given like may = ∥∥₁_map may (λ m. (m.0, m.1, m.2, like m.0 m.1 m.2 m.3))

-- if a part may refuse a call, some part may refuse the call in some state
pub may-refuse : {G S A R K : Type 0} (refuses : G → S → A → Type 0) (size : S → ℕ) (resizes : G → S → ℕ → S → Type 0) (answer : G → S → A → R) (is_infallible : R → Type 0) (g : G) (s : S) (call : A)
    → refuses g s call ⊎ (K × MayNotReply size (resizes g) (answer g) is_infallible s call) → ∥ ((h : G) × (t : S) × (refuses h t call ⊎ (K × MayNotClone is_infallible (answer h t call)))) ∥₁
may-refuse refuses size resizes answer is_infallible g s call (inl m) = ∣ (g, s, inl m) ∣₁
may-refuse refuses size resizes answer is_infallible g s call (inr m) = ∣ (g, m.1.0, inr (m.0, m.1.2)) ∣₁

module _ (A R : Type 0) (such : Receipt A R → Type 0) where
  pub adds_none : (clock : ℕ) (old : List (Receipt A R)) → Adds such clock clock 0 old old
  adds_none clock old = ([], sym (append-nil old), (refl, refl))

  told_more : (rs : List (Receipt A R)) (stripe clock n last : ℕ) (r : Receipt A R) → Told such stripe clock rs n last → r.stripe ≡ n → last < r.stamp → such r → Told such stripe clock (rs ++ r ∷ []) (n + 1) r.stamp
  told_more [] stripe clock n last r t i h s = (i ∙ sym t.0, omega (arith, h, t.1), s, (ap (λ k. k + 1) t.0, refl))
  told_more (x ∷ rs) stripe clock n last r t i h s = (t.0, t.1, t.2, told_more rs (stripe + 1) x.stamp n last r t.3 i h s)

  pub adds_more : (clock last n : ℕ) (r : Receipt A R) (old mid new : List (Receipt A R)) → Adds such clock last n old mid → new ≡ mid ++ r ∷ [] → r.stripe ≡ n → last < r.stamp → such r → Adds such clock r.stamp (n + 1) old new
  adds_more clock last n r old mid new a is i h s = (a.0 ++ r ∷ [], is ∙ ap (λ l. l ++ r ∷ []) a.1 ∙ append_assoc old a.0 (r ∷ []), told_more a.0 0 clock n last r a.2 i h s)

pub when_ok : {X E : Type 0} (P Q : X → Type 0) (r : Result X E) → IfOk r P → ((x : X) → P x → Q x) → IfOk r Q
when_ok P Q (Ok x) p f = f x p
when_ok P Q (Err e) p f = tt

-- an error of one result is also an error of a result with another type of value
pub same-error : {X Y E : Type 0} {c : E} (e : E) → ◌≡◌ {A = Result X E} (Err e) (Err c) → ◌≡◌ {A = Result Y E} (Err e) (Err c)
same-error {c} e same = let s : e ≡ c = cc in ap Err s
