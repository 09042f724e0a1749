-- The steps that one call adds keep the replay, the rising stamps and the number of records.
use Rattle.std.proofs.Common.{◌≡◌, ℕ, ◌+◌, ◌<◌, ◌≤◌, List, [], ◌∷◌, ◌++◌, Bool, true, false, refl, sym, ap, ◌∙◌, subst, arith, inl, inr}
use Rattle.std.specs.Prelude.{nat_lt, ◌==◌, if◌then◌else◌, MatchBool}
use Rattle.std.proofs.lemmas.Bool.Decides.{nat_tests}
use Rattle.std.proofs.Math.Logic.{∥∥₁_map}
use Rattle.scc_calls.specs.declared.steps.Step.{Step}
use Rattle.scc_calls.specs.declared.steps.Step.TheVariants.{Call, Resize}
use Rattle.scc_history.specs.declared.log.Receipt.{Receipt}
use Rattle.scc_calls.specs.Resized.{MovesResized, Stays}
use Rattle.scc_calls.specs.Histories.{Replay}
use Rattle.scc_history.specs.Stamps.{Rises, RisesTo, recorded, resized, receipt, calls_in}

module _ (S A R : Type 0) (moves : S → A → R → S → Type 0) (resizes : S → ℕ → S → Type 0) (size : S → ℕ) where
  pub Replay-append : (old mid new : S) (xs ys : List (Step A R)) → Replay moves resizes old xs mid → Replay moves resizes mid ys new → Replay moves resizes old (xs ++ ys) new
  Replay-append old mid new [] ys r s = subst (λ o. Replay moves resizes o ys new) r s
  Replay-append old mid new (x ∷ xs) ys r s = (r.0, r.1, Replay-append r.0 mid new xs ys r.2 s)

  pub Replay-recorded : (old new : S) (stamp pass : ℕ) (call : A) (reply : R) → MovesResized size moves resizes old call reply new → Replay moves resizes old (recorded (size old) (size new) stamp pass call reply) new
  Replay-recorded old new stamp pass call reply (inl c) =
      let a : nat_lt (size old) (size new) ≡ false = grind (arith, nat_tests, c.0) in
      let b : nat_lt (size new) (size old) ≡ false = grind (arith, nat_tests, c.0) in
      rw (a, b) (new, c.1, refl)
  Replay-recorded old new stamp pass call reply (inr (inl c)) =
      let a : nat_lt (size old) (size new) ≡ true = grind (arith, nat_tests, c.0) in
      rw a (c.1.0, c.1.1, (new, c.1.2, refl))
  Replay-recorded old new stamp pass call reply (inr (inr c)) =
      let a : nat_lt (size old) (size new) ≡ false = grind (arith, nat_tests, c.0) in
      let b : nat_lt (size new) (size old) ≡ true = grind (arith, nat_tests, c.0) in
      rw (a, b) (c.1.0, c.1.1, (new, c.1.2, refl))

  resized_by : (old new : S) (stamp : ℕ) (b : Bool) → MatchBool b (new ≡ old) (resizes old (size new) new) → Replay moves resizes old (if b then [] else Resize stamp (size new) ∷ []) new
  resized_by old new stamp true e = e
  resized_by old new stamp false r = (new, r, refl)

  pub Replay-resized : (old new : S) (stamp : ℕ) → Stays size resizes old new → Replay moves resizes old (resized (size old) (size new) stamp) new
  Replay-resized old new stamp stays = resized_by old new stamp (size old == size new) stays

module _ (A R : Type 0) where
  rises_by : (low stamp pass after : ℕ) (call : A) (reply : R) (x y : Bool) → low < stamp
      → Rises low (if x then Resize stamp after ∷ Call stamp pass call reply ∷ [] else if y then Call stamp pass call reply ∷ Resize stamp after ∷ [] else Call stamp pass call reply ∷ []) stamp
  rises_by low stamp pass after call reply true y h = (omega arith, (h, (omega arith, omega arith)))
  rises_by low stamp pass after call reply false true h = (h, (omega arith, (omega arith, omega arith)))
  rises_by low stamp pass after call reply false false h = (h, (omega arith, omega arith))

  pub Rises-append : (low mid last : ℕ) (xs ys : List (Step A R)) → Rises low xs mid → Rises mid ys last → Rises low (xs ++ ys) last
  Rises-append low mid last [] ys r s = let e : mid ≡ low = omega (arith, r.0, r.1) in rw e at s
  Rises-append low mid last (Call stamp pass call reply ∷ xs) ys r s = (r.0, Rises-append stamp mid last xs ys r.1 s)
  Rises-append low mid last (Resize stamp buckets ∷ xs) ys r s = (r.0, Rises-append low mid last xs ys r.1 s)

  pub Rises-recorded : (last before after stamp pass : ℕ) (call : A) (reply : R) (steps : List (Step A R)) → Rises 0 steps last → last < stamp → Rises 0 (steps ++ recorded before after stamp pass call reply) stamp
  Rises-recorded last before after stamp pass call reply steps r h = Rises-append 0 last stamp steps _ r (rises_by last stamp pass after call reply (nat_lt before after) (nat_lt after before) h)

  resized_rises : (last after stamp : ℕ) (x : Bool) → last ≤ stamp → Rises {A = A} {R = R} last (if x then [] else Resize stamp after ∷ []) last
  resized_rises last after stamp true h = (omega arith, omega arith)
  resized_rises last after stamp false h = (h, (omega arith, omega arith))

  pub Rises-resized : (last before after stamp : ℕ) (steps : List (Step A R)) → Rises 0 steps last → last ≤ stamp → Rises 0 (steps ++ resized before after stamp) last
  Rises-resized last before after stamp steps r h = Rises-append 0 last last steps _ r (resized_rises last after stamp (before == after) h)

  pub RisesTo-push : (low clock stripe stamp : ℕ) (call : A) (reply : R) (receipts : List (Receipt A R)) → RisesTo low receipts clock → clock < stamp → RisesTo low (receipts ++ receipt stripe stamp call reply ∷ []) stamp
  RisesTo-push low clock stripe stamp call reply [] r h = (omega (arith, r), omega arith)
  RisesTo-push low clock stripe stamp call reply (x ∷ xs) r h = (r.0, RisesTo-push x.stamp clock stripe stamp call reply xs r.1 h)

-- a stripe whose history became longer has a replay
pub grown : (G S A R : Type 0) (moves : G → S → A → R → S → Type 0) (resizes : G → S → ℕ → S → Type 0) (empty : ℕ → S) (opened : ℕ) (g h : G) (old new : S) (xs ys zs : List (Step A R))
    → h ≡ g → ys ≡ xs ++ zs → ∥ Replay (moves g) (resizes g) (empty opened) xs old ∥₁ → Replay (moves g) (resizes g) old zs new
    → ∥ Replay (moves h) (resizes h) (empty opened) ys new ∥₁
grown G S A R moves resizes empty opened g h old new xs ys zs same is before step =
    let P : G → Type 0 = λ g. ∥ Replay (moves g) (resizes g) (empty opened) ys new ∥₁ in
    subst P (sym same) (rw is (∥∥₁_map before (λ r. Replay-append S A R (moves g) (resizes g) (λ _. 0) (empty opened) old new xs zs r step)))

module _ (A R : Type 0) where
  calls_in-append : (xs ys : List (Step A R)) → calls_in (xs ++ ys) ≡ calls_in xs + calls_in ys
  calls_in-append [] ys = omega arith
  calls_in-append (Call stamp pass call reply ∷ xs) ys = omega (arith, calls_in-append xs ys)
  calls_in-append (Resize stamp buckets ∷ xs) ys = calls_in-append xs ys

  one_by : (after stamp pass : ℕ) (call : A) (reply : R) (x y : Bool)
      → calls_in (if x then Resize stamp after ∷ Call stamp pass call reply ∷ [] else if y then Call stamp pass call reply ∷ Resize stamp after ∷ [] else Call stamp pass call reply ∷ []) ≡ 1
  one_by after stamp pass call reply true y = refl
  one_by after stamp pass call reply false true = refl
  one_by after stamp pass call reply false false = refl

  none_by : (after stamp : ℕ) (x : Bool) → calls_in {A = A} {R = R} (if x then [] else Resize stamp after ∷ []) ≡ 0
  none_by after stamp true = refl
  none_by after stamp false = refl

  pub calls_in-recorded : (before after stamp pass : ℕ) (call : A) (reply : R) (xs ys : List (Step A R)) → ys ≡ xs ++ recorded before after stamp pass call reply → calls_in ys ≡ calls_in xs + 1
  calls_in-recorded before after stamp pass call reply xs ys is = ap calls_in is ∙ omega (arith, calls_in-append xs (recorded before after stamp pass call reply), one_by after stamp pass call reply (nat_lt before after) (nat_lt after before))

  pub calls_in-resized : (before after stamp : ℕ) (xs ys : List (Step A R)) → ys ≡ xs ++ resized before after stamp → calls_in ys ≡ calls_in xs
  calls_in-resized before after stamp xs ys is = ap calls_in is ∙ omega (arith, calls_in-append xs (resized before after stamp), none_by after stamp (before == after))

pub RisesTo-later : {A R : Type 0} (low clock later : ℕ) (receipts : List (Receipt A R)) → RisesTo low receipts clock → clock ≤ later → RisesTo low receipts later
RisesTo-later low clock later [] r h = omega (arith, r)
RisesTo-later low clock later (x ∷ xs) r h = (r.0, RisesTo-later x.stamp clock later xs r.1 h)
