-- Walks that take pairs out, pair by pair.
use Rattle.std.proofs.Common.{◌≡◌, suc, ◌+◌, List, [], ◌∷◌, ◌++◌, length, take, drop, Bool, false, Option, Some, Result, Ok, Err, refl, sym, ap, ◌∙◌, arith, subst, append_assoc, append-nil, take-append-drop, length-append, inl, inr}
use Rattle.std.specs.List.{slice_get, remove}
use Rattle.std.proofs.lemmas.List.{nil_from_length}
use Rattle.scc_common.specs.Contents.{Contents, entries, list_of}
use Rattle.scc_buckets.specs.Places.{IsSpot, index_of_spot}
use Rattle.scc_common.specs.Steps.{Holds, HoldsExactly, Resizes}
use Rattle.scc_common.specs.declared.errors.WalkError.{WalkError}
use Rattle.scc_buckets.specs.declared.place.Place.{Place}
use Rattle.scc_common.specs.declared.verdict.Verdict.{Verdict}
use Rattle.scc_common.specs.declared.verdict.Verdict.TheVariants.{Keep, Take, KeepStop, TakeStop}
use Rattle.scc_buckets.proofs.Spots.{place-get}
use Rattle.scc_buckets.specs.Placed.{at, at-get}
use Rattle.scc_common.specs.PairWalks.{Takes, ended, refused, kept, took, kept_last, took_last}
use Rattle.scc_buckets.proofs.Placed.{drop-here}
use Rattle.scc_table.proofs.walks.Steps.{reached}
use Rattle.scc_buckets.proofs.PairSplits.{split-place}
use Rattle.scc_table.proofs.walks.Visits.{Visited, kept-before, took-before, took-after}

-- each pair of a walk stays or is taken out
pub takes-count : {F K V : Type 0} {T : F → K × V → Verdict → V → F → Type 0} {f last : F} {es stay more : List (K × V)} {r : Result Bool WalkError} → Takes T f es stay more r last → length es ≡ length stay + length more
takes-count ended = refl
takes-count (refused {es = es}) = omega arith
takes-count (kept t x) = omega (arith, takes-count x)
takes-count (took t x) = omega (arith, takes-count x)
takes-count (kept_last t) = omega arith
takes-count (took_last t) = omega arith

-- the pair that is taken out has the key of q and the written value w
pub took-pair : {K V S : Type 0} (m : Contents (K × V) S) (p : Place) (q : K × V) (w : V) (n : Contents (K × V) S) → Visited m p q w n → (x : K × V) → slice_get (entries n) (index_of_spot n p) ≡ Some x → x ≡ (q.0, w)
took-pair m p q w n v x got = let s : Some x ≡ Some (q.0, w) = sym got ∙ ap (slice_get (entries n)) v.index ∙ v.got in cc

module _ {F K V S : Type 0} {T : F → K × V → Verdict → V → F → Type 0} (first : F) (all : List (K × V)) (m : Contents (K × V) S) (p : Place) (f : F) (more : List (K × V))
    (calls : (stay next : List (K × V)) (r : Result Bool WalkError) (last : F) → Takes T f (drop (index_of_spot m p) (entries m)) stay next r last → Takes T first all (take (index_of_spot m p) (entries m) ++ stay) (more ++ next) r last) where
  -- the walk ends before the pair at p, for lack of room
  pub takes-refused : IsSpot m p → (e : WalkError) → Takes T first all (entries m) more (Err e) f
  takes-refused within e =
      let x : K × V = at (list_of m p.bucket) p.slot within.slot in
      let got = place-get m p within x (at-get (list_of m p.bucket) p.slot within.slot) in
      let here = drop-here (entries m) (index_of_spot m p) x got in
      let front : take (index_of_spot m p) (entries m) ++ drop (index_of_spot m p) (entries m) ≡ entries m = take-append-drop (index_of_spot m p) (entries m) in
      let run : Takes T f (drop (index_of_spot m p) (entries m)) (drop (index_of_spot m p) (entries m)) [] (Err e) f = subst (λ z. Takes T f z z [] (Err e) f) (sym here) refused in
      subst (λ z. Takes T first all z more (Err e) f) front (subst (λ z. Takes T first all (take (index_of_spot m p) (entries m) ++ drop (index_of_spot m p) (entries m)) z (Err e) f) (append-nil more) (calls (drop (index_of_spot m p) (entries m)) [] (Err e) f run))

  module _ (f' : F) (q : K × V) (w : V) (n : Contents (K × V) S) (v : Visited m p q w n) where
    -- if the closure keeps the pair q, a walk from the next pair on gives a walk over all pairs
    pub takes-kept : T f q Keep w f' → (o : Option Place) → reached n o ≡ suc (index_of_spot m p) → (stay next : List (K × V)) (r : Result Bool WalkError) (last : F) → Takes T f' (drop (reached n o) (entries n)) stay next r last
        → Takes T first all (take (reached n o) (entries n) ++ stay) (more ++ next) r last
    takes-kept t o e stay next r last run =
        let rest : Takes T f' (drop (suc (index_of_spot m p)) (entries m)) stay next r last = subst (λ z. Takes T f' z stay next r last) (ap (λ i. drop i (entries n)) e ∙ v.after) run in
        let here : Takes T f (drop (index_of_spot m p) (entries m)) ((q.0, w) ∷ stay) next r last = subst (λ z. Takes T f z ((q.0, w) ∷ stay) next r last) (sym v.here) (kept t rest) in
        let front : take (index_of_spot m p) (entries m) ++ ((q.0, w) ∷ stay) ≡ take (reached n o) (entries n) ++ stay =
        sym (append_assoc (take (index_of_spot m p) (entries m)) ((q.0, w) ∷ []) stay) ∙ ap (λ z. z ++ stay) (sym (kept-before m p q w n v) ∙ ap (λ i. take i (entries n)) (sym e)) in
        subst (λ z. Takes T first all z (more ++ next) r last) front (calls ((q.0, w) ∷ stay) next r last here)

    -- the walk stops at the pair q, which stays
    pub takes-kept_last : T f q KeepStop w f' → Takes T first all (entries n) more (Ok false) f'
    takes-kept_last t =
        let back : List (K × V) = drop (suc (index_of_spot m p)) (entries m) in
        let here : Takes T f (drop (index_of_spot m p) (entries m)) ((q.0, w) ∷ back) [] (Ok false) f' = subst (λ z. Takes T f z ((q.0, w) ∷ back) [] (Ok false) f') (sym v.here) (kept_last t) in
        let front : take (index_of_spot m p) (entries m) ++ ((q.0, w) ∷ back) ≡ entries n =
        ap (λ z. z ++ ((q.0, w) ∷ back)) (sym v.before) ∙ ap (λ z. take (index_of_spot m p) (entries n) ++ ((q.0, w) ∷ z)) (sym v.after) ∙ sym (split-place (entries n) (index_of_spot m p) (q.0, w) v.got) in
        subst (λ z. Takes T first all z more (Ok false) f') front (subst (λ z. Takes T first all (take (index_of_spot m p) (entries m) ++ ((q.0, w) ∷ back)) z (Ok false) f') (append-nil more) (calls ((q.0, w) ∷ back) [] (Ok false) f' here))

    module _ (d : Contents (K × V) S) (out : HoldsExactly n (remove (entries n) (index_of_spot n p)) d) where
      -- if the pair q is taken out, a walk from the next pair on gives a walk over all pairs
      pub takes-took : T f q Take w f' → (o : Option Place) → reached d o ≡ index_of_spot m p → (stay next : List (K × V)) (r : Result Bool WalkError) (last : F) → Takes T f' (drop (reached d o) (entries d)) stay next r last
          → Takes T first all (take (reached d o) (entries d) ++ stay) ((more ++ (q.0, w) ∷ []) ++ next) r last
      takes-took t o e stay next r last run =
          let rest : Takes T f' (drop (suc (index_of_spot m p)) (entries m)) stay next r last = subst (λ z. Takes T f' z stay next r last) (ap (λ i. drop i (entries d)) e ∙ took-after m p q w n v d out) run in
          let here : Takes T f (drop (index_of_spot m p) (entries m)) stay ((q.0, w) ∷ next) r last = subst (λ z. Takes T f z stay ((q.0, w) ∷ next) r last) (sym v.here) (took t rest) in
          let front : take (index_of_spot m p) (entries m) ++ stay ≡ take (reached d o) (entries d) ++ stay = ap (λ z. z ++ stay) (sym (took-before m p q w n v d out) ∙ ap (λ i. take i (entries d)) (sym e)) in
          subst (λ z. Takes T first all z ((more ++ (q.0, w) ∷ []) ++ next) r last) front
          (subst (λ z. Takes T first all (take (index_of_spot m p) (entries m) ++ stay) z r last) (sym (append_assoc more ((q.0, w) ∷ []) next)) (calls stay ((q.0, w) ∷ next) r last here))

      -- the walk stops at the pair q, which is taken out
      pub takes-took_last : T f q TakeStop w f' → Takes T first all (entries d) (more ++ (q.0, w) ∷ []) (Ok false) f'
      takes-took_last t =
          let back : List (K × V) = drop (suc (index_of_spot m p)) (entries m) in
          let here : Takes T f (drop (index_of_spot m p) (entries m)) back ((q.0, w) ∷ []) (Ok false) f' = subst (λ z. Takes T f z back ((q.0, w) ∷ []) (Ok false) f') (sym v.here) (took_last t) in
          let front : take (index_of_spot m p) (entries m) ++ back ≡ entries d =
          ap (λ z. z ++ back) (sym (took-before m p q w n v d out)) ∙ ap (λ z. take (index_of_spot m p) (entries d) ++ z) (sym (took-after m p q w n v d out)) ∙ take-append-drop (index_of_spot m p) (entries d) in
          subst (λ z. Takes T first all z (more ++ (q.0, w) ∷ []) (Ok false) f') front (calls back ((q.0, w) ∷ []) (Ok false) f' here)

-- entries that stay in their order, and then are resized, stay in some order
pub holds-after : {E S : Type 0} (a b c : Contents E S) (es : List E) → HoldsExactly a es b → Resizes b c → Holds a es c
holds-after a b c es h r = record {
  same = rw h.exact at r.same;
  size = record {
    lawful = elim r.size.lawful [ inl z ↦ inl (z ∙ h.buckets) | inr z ↦ inr z ];
    minimum = λ less. let m = r.size.minimum (rw h.buckets less) in rw h.settings at m;
  };
  settings = r.settings ∙ h.settings;
}

-- if xs stays as it is after `more` is added at its end, `more` is empty
pub appended-none : {X : Type 0} (xs ys more : List X) → ys ≡ xs ++ more → ys ≡ xs → length more ≡ 0
appended-none xs ys more e s = omega (arith, length-append xs more, ap length e, ap length s)

-- if `more` is empty, xs stays as it is after `more` is added at its end
pub appended-some : {X : Type 0} (xs ys more : List X) → ys ≡ xs ++ more → length more ≡ 0 → ys ≡ xs
appended-some xs ys more e n = e ∙ ap (λ z. xs ++ z) (nil_from_length more n) ∙ append-nil xs
