-- Walks whose closure only tests: the pairs that stay are a filter of the pairs. What look-ups find after such a walk.
use Rattle.std.proofs.Common.{◌≡◌, Bool, true, false, cond, not, List, [], ◌∷◌, ◌++◌, Option, None, Some, Result, refl, sym, ap, subst, ◌∙◌, append-nil}
use Rattle.std.proofs.lemmas.Result.{on_ok_weaker}
use Rattle.std.specs.Cmp.{IsEquivalence}
use Rattle.std.specs.List.{filter, IsDistinct, AllByRecursion}
use Rattle.std.specs.List.Sorted.{IsPermutation}
use Rattle.std.specs.Map.{keys_of}
use Rattle.std.specs.Result.{OnOk}
use Rattle.std.proofs.lemmas.List.Sorted.{IsPermutation-refl, IsPermutation-sym, IsPermutation-cons, IsPermutation-trans, IsPermutation-middle}
use Rattle.std.proofs.lemmas.Map.Keys.{IsDistinct-head, IsDistinct-tail}
use Rattle.scc_common.specs.Contents.{Contents, entries}
use Rattle.scc_common.specs.Pairs.{find, IsUnique}
use Rattle.scc_common.specs.Steps.{Holds}
use Rattle.scc_common.specs.declared.errors.WalkError.{WalkError}
use Rattle.scc_common.specs.declared.verdict.Verdict.{Verdict}
use Rattle.scc_common.specs.declared.verdict.Verdict.TheVariants.{Keep, Take, KeepStop, TakeStop}
use Rattle.scc_common.specs.PairWalks.{Retains, Takes}
use Rattle.scc_common.specs.PairWalks as walks
use Rattle.scc_owned.proofs.CallerLemmas.{by_answer, cond-true, cond-false}
use Rattle.scc_buckets.proofs.Lookups.{along, apart-none, find-IsPermutation, distinct-IsPermutation}

module _ {F K V : Type 0} (T : F → K × V → Bool → V → F → Type 0) (test : K × V → Bool) (f : F) (says : (p : K × V) (b : Bool) (w : V) (f' : F) → T f p b w f' → (b ≡ test p) × (w ≡ p.1) × (f' ≡ f)) where
  said : (g : F) (p : K × V) (b : Bool) (w : V) (g' : F) → g ≡ f → T g p b w g' → (b ≡ test p) × (w ≡ p.1) × (g' ≡ f)
  said g p b w g' e t = says p b w g' (subst (λ z. T z p b w g') e t)

  walked : {g last : F} {es stay : List (K × V)} → g ≡ f → Retains T g es stay last → stay ≡ filter test es
  walked e walks.ended = refl
  walked e (walks.kept {f = g} {f' = g'} {p = p} {w = w} {es = es} {stay = stay} t rest) =
      let s = said g p true w g' e t in
      let r = walked s.2 rest in
      (λ i. (p.0, s.1 i) ∷ r i) ∙ sym (cond-true (p ∷ filter test es) (filter test es) (sym s.0))
  walked e (walks.removed {f = g} {f' = g'} {p = p} {w = w} {es = es} {stay = stay} t rest) =
      let s = said g p false w g' e t in
      walked s.2 rest ∙ sym (cond-false (p ∷ filter test es) (filter test es) (sym s.0))

  -- if the closure only tests, the pairs that stay are the pairs that pass the test
  pub retains-filter : (es stay : List (K × V)) (last : F) → Retains T f es stay last → stay ≡ filter test es
  retains-filter es stay last r = walked refl r

keeps : (b : Bool) → Keep ≡ cond b Take Keep → b ≡ false
keeps true e = absurd (let h : Keep ≡ Take = e in cc)
keeps false e = refl

takes : (b : Bool) → Take ≡ cond b Take Keep → b ≡ true
takes true e = refl
takes false e = absurd (let h : Take ≡ Keep = e in cc)

stops : (b : Bool) → KeepStop ≡ cond b Take Keep → ⊥
stops true e = let h : KeepStop ≡ Take = e in cc
stops false e = let h : KeepStop ≡ Keep = e in cc

stops_taking : (b : Bool) → TakeStop ≡ cond b Take Keep → ⊥
stops_taking true e = let h : TakeStop ≡ Take = e in cc
stops_taking false e = let h : TakeStop ≡ Keep = e in cc

-- all pairs that a walk took pass, and the others stay. If the walk went through, just the pairs that fail stay
pub record Sorts {K V E : Type 0} (test : K × V → Bool) (es stay more : List (K × V)) (r : Result Bool E) : Type 0 where
  pub all : IsPermutation es (stay ++ more)
  pub taken : AllByRecursion (λ p. test p ≡ true) more
  pub left : OnOk r (stay ≡ filter (λ p. not (test p)) es)

module _ {F K V : Type 0} (T : F → K × V → Verdict → V → F → Type 0) (test : K × V → Bool) (f : F) (says : (p : K × V) (v : Verdict) (w : V) (f' : F) → T f p v w f' → (v ≡ cond (test p) Take Keep) × (w ≡ p.1) × (f' ≡ f)) where
  told : (g : F) (p : K × V) (v : Verdict) (w : V) (g' : F) → g ≡ f → T g p v w g' → (v ≡ cond (test p) Take Keep) × (w ≡ p.1) × (g' ≡ f)
  told g p v w g' e t = says p v w g' (subst (λ z. T z p v w g') e t)

  sorted : {g last : F} {es stay more : List (K × V)} {r : Result Bool WalkError} → g ≡ f → Takes T g es stay more r last → Sorts test es stay more r
  sorted e walks.ended = record { all = IsPermutation-refl []; taken = tt; left = refl }
  sorted e (walks.refused {p = p} {es = es}) = record { all = subst (IsPermutation (p ∷ es)) (sym (append-nil (p ∷ es))) (IsPermutation-refl (p ∷ es)); taken = tt; left = tt }
  sorted e (walks.kept {f = g} {f' = g'} {p = p} {w = w} {es = es} {stay = stay} {taken = more} {r = r} t rest) =
      let s = told g p Keep w g' e t in
      let n = sorted s.2 rest in
      let no : not (test p) ≡ true = ap not (keeps (test p) s.0) in
      record {
        all = subst (λ v. IsPermutation (p ∷ es) ((p.0, v) ∷ (stay ++ more))) (sym s.1) (IsPermutation-cons p es (stay ++ more) n.all);
        taken = n.taken;
        left = on_ok_weaker r (λ h. (λ i. (p.0, s.1 i) ∷ h i) ∙ sym (cond-true (p ∷ filter (λ p. not (test p)) es) (filter (λ p. not (test p)) es) no)) n.left;
      }
  sorted e (walks.took {f = g} {f' = g'} {p = p} {w = w} {es = es} {stay = stay} {taken = more} {r = r} t rest) =
      let s = told g p Take w g' e t in
      let n = sorted s.2 rest in
      let yes : test p ≡ true = takes (test p) s.0 in
      record {
        all = subst (λ v. IsPermutation (p ∷ es) (stay ++ (p.0, v) ∷ more)) (sym s.1) (IsPermutation-trans (p ∷ es) (p ∷ (stay ++ more)) (stay ++ p ∷ more) (IsPermutation-cons p es (stay ++ more) n.all) (IsPermutation-sym (stay ++ p ∷ more) (p ∷ (stay ++ more)) (IsPermutation-middle stay p more)));
        taken = (subst (λ v. test (p.0, v) ≡ true) (sym s.1) yes, n.taken);
        left = on_ok_weaker r (λ h. h ∙ sym (cond-false (p ∷ filter (λ p. not (test p)) es) (filter (λ p. not (test p)) es) (ap not yes))) n.left;
      }
  sorted e (walks.kept_last {f = g} {f' = g'} {p = p} {w = w} t) = absurd (stops (test p) (told g p KeepStop w g' e t).0)
  sorted e (walks.took_last {f = g} {f' = g'} {p = p} {w = w} t) = absurd (stops_taking (test p) (told g p TakeStop w g' e t).0)

  -- if the closure only tests, the walk takes only pairs that pass the test
  pub takes-sort : (es stay more : List (K × V)) (r : Result Bool WalkError) (last : F) → Takes T f es stay more r last → Sorts test es stay more r
  takes-sort es stay more r last t = sorted refl t

module _ {K V : Type 0} where
  -- the pair, if it passes
  abbrev pub passing : (K × V → Bool) → Option (K × V) → Option (K × V)
  passing test None = None
  passing test (Some p) = cond (test p) (Some p) None

module _ {K V : Type 0} {eq : K → K → Bool} (laws : IsEquivalence eq) (test : K × V → Bool) where
  -- a look-up in a filter finds the pair that it finds in the list, if that pair passes
  pub find-filter : (es : List (K × V)) (q : K) → IsDistinct eq (keys_of es) → find eq (filter test es) q ≡ passing test (find eq es q)
  find-filter [] q u = refl
  find-filter (x ∷ es) q u =
      let inner = find-filter es q (IsDistinct-tail eq x.0 (keys_of es) u) in
      by_answer (eq q x.0)
      (λ y.
      let near : eq x.0 q ≡ true = laws.symm x.0 q ∙ y in
      let gone : find eq es q ≡ None = apart-none (eq q) es (along (λ w h. sym (laws.congr x.0 q w near) ∙ h) (keys_of es) (IsDistinct-head eq x.0 (keys_of es) u)) in
      let here : find eq (x ∷ es) q ≡ Some x = cond-true (Some x) (find eq es q) y in
      by_answer (test x)
      (λ z. ap (λ l. find eq l q) (cond-true (x ∷ filter test es) (filter test es) z) ∙ cond-true (Some x) (find eq (filter test es) q) y ∙ sym (ap (passing test) here ∙ cond-true (Some x) None z))
      (λ z. ap (λ l. find eq l q) (cond-false (x ∷ filter test es) (filter test es) z) ∙ inner ∙ ap (passing test) gone ∙ sym (ap (passing test) here ∙ cond-false (Some x) None z)))
      (λ y.
      let past : find eq (x ∷ es) q ≡ find eq es q = cond-false (Some x) (find eq es q) y in
      by_answer (test x)
      (λ z. ap (λ l. find eq l q) (cond-true (x ∷ filter test es) (filter test es) z) ∙ cond-false (Some x) (find eq (filter test es) q) y ∙ inner ∙ sym (ap (passing test) past))
      (λ z. ap (λ l. find eq l q) (cond-false (x ∷ filter test es) (filter test es) z) ∙ inner ∙ sym (ap (passing test) past)))

  -- if just the pairs that pass stay, a look-up finds the pair that it found before, if that pair passes
  pub finds-filtered : {S : Type 0} (c d : Contents (K × V) S) (es stay : List (K × V)) → IsPermutation (entries c) es → stay ≡ filter test es → Holds c stay d → IsUnique eq c → IsUnique eq d → (q : K) → find eq (entries d) q ≡ passing test (find eq (entries c) q)
  finds-filtered c d es stay p e h u v q =
      find-IsPermutation laws stay (entries d) q h.same (distinct-IsPermutation laws (entries d) stay (IsPermutation-sym stay (entries d) h.same) v)
      ∙ ap (λ l. find eq l q) e
      ∙ find-filter es q (distinct-IsPermutation laws (entries c) es p u)
      ∙ ap (passing test) (find-IsPermutation laws (entries c) es q p u)
