-- Two containers after two runs of one list of calls, from a fact about any two runs of their kind.
use Rattle.std.proofs.Common.{◌≡◌, ◌∙◌, ℕ, ◌+◌, Bool, List, [], ◌++◌, Result, Ok, Err, length, inl, inr, sym, ap, subst, append-nil}
use Rattle.std.specs.Result.{OnOk, OnErr}
use Rattle.scc_common.specs.Contents.{entries}
use Rattle.scc_calls.specs.Copies.{Means}
use Rattle.scc_calls.specs.Means.{means_same}
use Rattle.scc_calls.specs.Run.{IsRun, done}
use Rattle.scc_calls.specs.States.{State, ResizesTo, run_setting, state_of}
use Rattle.scc_calls.proofs.Runs.{run-as, when_err}
use Rattle.scc_uses.specs.Alikeness.{AgreeAlong, AreExact}
use Rattle.scc_uses.specs.Mirrored.{Side, AddsRun, RunsOnBoth}
use Rattle.scc_uses.proofs.Replies.{as-many}

-- if a result is no success, any fact about its success holds
not-ok : {X Y : Type 0} (P : Type 0) (r : Result X Y) → OnOk r ⊥ → OnOk r P
not-ok P (Ok x) e = absurd e
not-ok P (Err y) e = tt

-- if a result is no refusal, any fact about its refusal holds
not-err : {X Y : Type 0} (P : Type 0) (r : Result X Y) → OnErr r ⊥ → OnErr r P
not-err P (Ok x) e = tt
not-err P (Err y) e = absurd e

-- a fact that holds in any case holds if the result is a success
when_ok : {X Y P : Type 0} (r : Result X Y) → P → OnOk r P
when_ok (Ok x) p = p
when_ok (Err y) p = tt

-- if equal calls and replies are identical, a run of what the calls mean is a run of the calls themselves
exact : {S C R : Type 0} {equal_calls : C → C → Bool} {equal_replies : R → R → Bool} {moves : S → C → R → S → Type 0} {resizes : S → ℕ → S → Type 0} {s u : S} {calls : List C} {made : List R}
    → AreExact equal_calls equal_replies → IsRun (Means equal_calls equal_replies moves) resizes s calls made u → IsRun moves resizes s calls made u
exact {moves} e r = run-as (λ s call reply t. means_same _ _ moves e.0 e.1 s t call reply) r

module _ {C R E H I : Type 0} (equal_calls : C → C → Bool) (equal_replies : R → R → Bool) (moves : State E → C → R → State E → Type 0) (agree : R → R → Type 0)
    (alike same : List E → List E → Type 0) (calls : List C) (a : Side E H R) (b : Side E I R) (c : Side E H R) (d : Side E I R) where
  -- any two runs of the calls agree, and if the containers began with the same entries, their replies are identical
  pub record RunsAgree : Type 0 where
    pub along : (made : List R) (others : List R) → IsRun (Means equal_calls equal_replies moves) (ResizesTo (run_setting a.0)) (state_of a.0) calls made (state_of c.0)
        → IsRun (Means equal_calls equal_replies moves) (ResizesTo (run_setting b.0)) (state_of b.0) calls others (state_of d.0)
        → AgreeAlong agree made others × (length others ≡ length made → alike (entries c.0) (entries d.0) × (length (entries d.0) ≡ length (entries c.0)))
    pub all_same : same (entries a.0) (entries b.0) → (made : List R) (others : List R) → IsRun moves (ResizesTo (run_setting a.0)) (state_of a.0) calls made (state_of c.0)
        → IsRun moves (ResizesTo (run_setting b.0)) (state_of b.0) calls others (state_of d.0) → length made ≡ length calls → length others ≡ length calls
        → (made ≡ others) × same (entries c.0) (entries d.0)
    pub first_same : same (entries a.0) (entries b.0) → (made : List R) (others : List R) → IsRun moves (ResizesTo (run_setting a.0)) (state_of a.0) calls made (state_of c.0)
        → IsRun moves (ResizesTo (run_setting b.0)) (state_of b.0) calls others (state_of d.0) → length made ≡ length calls → (rest : List R) × (made ≡ others ++ rest)

  module _ {X Y : Type 0} (result : Result X Y) where
    -- if both containers answered each call, `RunsOnBoth` holds
    pub both-answered : OnErr result ⊥ → RunsAgree → AddsRun (Means equal_calls equal_replies moves) calls a c → AddsRun (Means equal_calls equal_replies moves) calls b d
        → length c.1 ≡ length a.1 + length calls → length d.1 ≡ length b.1 + length calls → RunsOnBoth equal_calls equal_replies moves agree alike same calls a b result c d
    both-answered never agrees r s m n =
        let made = as-many _ _ r.0 _ r.1 m in
        let others = as-many _ _ s.0 _ s.1 n in
        let along = agrees.along r.0 s.0 r.2 s.2 in
        let ends = along.1 (others ∙ sym made) in
        record {
          first = r;
          second = s;
          all = when_ok result m;
          replies = when_ok result (r.0, s.0, r.1, s.1, others ∙ sym made, along.0);
          contents = when_ok result ends.0;
          count = when_ok result ends.1;
          refused = not-err _ result never;
          exact_first = λ e. (r.0, r.1, exact e r.2);
          exact_second = λ e. (s.0, s.1, exact e s.2);
          exact_replies = λ e z. let q = agrees.all_same z r.0 s.0 (exact e r.2) (exact e s.2) made others in when_ok result (r.0, r.1, s.1 ∙ ap (λ l. b.1 ++ l) (sym q.0));
          exact_contents = λ e z. when_ok result (agrees.all_same z r.0 s.0 (exact e r.2) (exact e s.2) made others).1;
          exact_refused = λ e z. not-err _ result never;
        }

    -- if the first container answered each call, and the second was stopped, `RunsOnBoth` holds
    pub second-stopped : OnOk result ⊥ → RunsAgree → AddsRun (Means equal_calls equal_replies moves) calls a c → AddsRun (Means equal_calls equal_replies moves) calls b d
        → length c.1 ≡ length a.1 + length calls → RunsOnBoth equal_calls equal_replies moves agree alike same calls a b result c d
    second-stopped never agrees r s m =
        let made = as-many _ _ r.0 _ r.1 m in
        record {
          first = r;
          second = s;
          all = not-ok _ result never;
          replies = not-ok _ result never;
          contents = not-ok _ result never;
          count = not-ok _ result never;
          refused = when_err result (inr (r.0, s.0, r.1, s.1, made, (agrees.along r.0 s.0 r.2 s.2).0));
          exact_first = λ e. (r.0, r.1, exact e r.2);
          exact_second = λ e. (s.0, s.1, exact e s.2);
          exact_replies = λ e z. not-ok _ result never;
          exact_contents = λ e z. not-ok _ result never;
          exact_refused = λ e z. let q = agrees.first_same z r.0 s.0 (exact e r.2) (exact e s.2) made in when_err result (inr (s.0, q.0, r.1 ∙ ap (λ l. a.1 ++ l) q.1, s.1, ap length (sym q.1) ∙ made));
        }

    -- if the first container was stopped, and the second is unchanged, `RunsOnBoth` holds
    pub first-stopped : OnOk result ⊥ → AddsRun (Means equal_calls equal_replies moves) calls a c → d ≡ b → RunsOnBoth equal_calls equal_replies moves agree alike same calls a b result c d
    first-stopped never r still =
        let s : AddsRun (Means equal_calls equal_replies moves) calls b d = subst (AddsRun (Means equal_calls equal_replies moves) calls b) (sym still) ([], sym (append-nil b.1), done) in
        record {
          first = r;
          second = s;
          all = not-ok _ result never;
          replies = not-ok _ result never;
          contents = not-ok _ result never;
          count = not-ok _ result never;
          refused = when_err result (inl (ap (λ p. p.0) still, ap (λ p. p.1) still));
          exact_first = λ e. (r.0, r.1, exact e r.2);
          exact_second = λ e. (s.0, s.1, exact e s.2);
          exact_replies = λ e z. not-ok _ result never;
          exact_contents = λ e z. not-ok _ result never;
          exact_refused = λ e z. when_err result (inl (ap (λ p. p.0) still, ap (λ p. p.1) still));
        }
