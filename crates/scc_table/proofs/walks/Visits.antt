-- A pair that a walk visits: it stays with the written value, or it is taken out.
use Rattle.std.proofs.Common.{◌≡◌, ℕ, zero, suc, ◌<◌, ◌-◌, List, [], ◌∷◌, ◌++◌, length, take, drop, Bool, true, false, Option, None, Some, MatchOption, IfSome, refl, sym, ap, ◌∙◌, arith, subst, append_assoc}
use Rattle.std.specs.List.{slice_get, remove}
use Rattle.scc_common.specs.Contents.{Contents, entries, bucket_count, settings_of, list_of, notes_of}
use Rattle.scc_buckets.specs.Places.{IsSpot, index_of_spot}
use Rattle.scc_buckets.specs.Standing.{StandsAtSpot}
use Rattle.scc_common.specs.Steps.{HoldsExactly}
use Rattle.scc_array.specs.ShelfWrites.{write_at}
use Rattle.scc_buckets.specs.Writes.{with_write_at_spot, IsPlace-with_write_at}
use Rattle.scc_buckets.specs.declared.place.Place.{Place}
use Rattle.scc_buckets.proofs.Standing.{index-below}
use Rattle.scc_buckets.proofs.WritingTables.{exactly-write}
use Rattle.scc_common.specs.Walks.{HoldsInTurn}
use Rattle.scc_common.proofs.WalkLemmas.{turn-first, turn-others}
use Rattle.scc_buckets.specs.Placed.{at-get}
use Rattle.scc_common.specs.Pairs.{with_pair_value}
use Rattle.scc_common.specs.PairWalks.{Retains, kept, removed}
use Rattle.scc_buckets.proofs.Placed.{front-write, back-write}
use Rattle.scc_buckets.proofs.Placed.{take-more, drop-here, take-removed, drop-removed}
use Rattle.scc_table.proofs.walks.Steps.{reached, reached-at}
use Rattle.scc_buckets.proofs.KeyWrites.{index-write, get-write_at, noted-write}

length-write : {E X : Type 0} (put : E → X → E) (es : List E) (i : ℕ) (w : X) → length (write_at put es i w) ≡ length es
length-write put [] i w = refl
length-write put (x ∷ es) zero w = refl
length-write put (x ∷ es) (suc i) w = ap suc (length-write put es i w)

pub shorter : {X : Type 0} (es : List X) (i : ℕ) → i < length es → suc (length (remove es i)) ≡ length es
shorter [] i h = absurd (omega arith)
shorter (x ∷ es) zero h = refl
shorter (x ∷ es) (suc i) h = ap suc (shorter es i (omega arith))

-- n is m after w is written at p, the place of the pair q
pub record Visited {K V S : Type 0} (m : Contents (K × V) S) (p : Place) (q : K × V) (w : V) (n : Contents (K × V) S) : Type 0 where
  pub here : drop (index_of_spot m p) (entries m) ≡ q ∷ drop (suc (index_of_spot m p)) (entries m)
  pub within : IsSpot n p
  pub index : index_of_spot n p ≡ index_of_spot m p
  pub got : slice_get (entries n) (index_of_spot m p) ≡ Some (q.0, w)
  pub before : take (index_of_spot m p) (entries n) ≡ take (index_of_spot m p) (entries m)
  pub after : drop (suc (index_of_spot m p)) (entries n) ≡ drop (suc (index_of_spot m p)) (entries m)
  pub count : length (entries n) ≡ length (entries m)
  pub buckets : bucket_count n ≡ bucket_count m
  pub settings : settings_of n ≡ settings_of m
  pub noted : notes_of n ≡ notes_of m

module _ {K V S : Type 0} (m : Contents (K × V) S) (p : Place) where
  pub visited : (q : K × V) (w : V) (n : Contents (K × V) S) → IsSpot m p → slice_get (entries m) (index_of_spot m p) ≡ Some q → n ≡ with_write_at_spot with_pair_value m p w → Visited m p q w n
  visited q w n within got new =
      let i : ℕ = index_of_spot m p in
      let es : List (K × V) = entries m in
      let h = exactly-write with_pair_value m p within _ (at-get (list_of m p.bucket) p.slot within.slot) w in
      let all : entries n ≡ write_at with_pair_value es i w = ap entries new ∙ h.exact in
      record {
        here = drop-here es i q got;
        within = subst (λ c. IsSpot c p) (sym new) (IsPlace-with_write_at with_pair_value m p w within);
        index = ap (λ c. index_of_spot c p) new ∙ index-write with_pair_value m p w;
        got = ap (λ z. slice_get z i) all ∙ get-write_at with_pair_value es i q w got;
        before = ap (take i) all ∙ front-write with_pair_value es i w;
        after = ap (drop (suc i)) all ∙ back-write with_pair_value es i w;
        count = ap length all ∙ length-write with_pair_value es i w;
        buckets = ap bucket_count new ∙ h.buckets;
        settings = ap settings_of new ∙ h.settings;
        noted = ap notes_of new ∙ noted-write with_pair_value m p w;
      }

  module _ (q : K × V) (w : V) (n : Contents (K × V) S) (v : Visited m p q w n) where
    -- if the pair stays, the walk goes on at the next pair
    pub kept-next : (o : Option Place) → MatchOption o (suc (index_of_spot n p) ≡ length (entries n)) (StandsAtSpot n (suc (index_of_spot n p))) → (reached n o ≡ suc (index_of_spot m p)) × IfSome o (IsSpot n)
    kept-next o h = let r = reached-at n (suc (index_of_spot n p)) o h in (r.0 ∙ ap suc v.index, r.1)

    pub kept-before : take (suc (index_of_spot m p)) (entries n) ≡ take (index_of_spot m p) (entries m) ++ (q.0, w) ∷ []
    kept-before = take-more (entries n) (index_of_spot m p) (q.0, w) v.got ∙ ap (λ z. z ++ (q.0, w) ∷ []) v.before

    pub kept-nearer : (o : Option Place) → IsSpot m p → reached n o ≡ suc (index_of_spot m p) → length (entries n) - reached n o < length (entries m) - index_of_spot m p
    kept-nearer o within e = omega (arith, index-below m p within, v.count)

    module _ (d : Contents (K × V) S) (out : HoldsExactly n (remove (entries n) (index_of_spot n p)) d) where
      out-is : entries d ≡ remove (entries n) (index_of_spot m p)
      out-is = out.exact ∙ ap (remove (entries n)) v.index

      pub took-count : suc (length (entries d)) ≡ length (entries n)
      took-count = ap (λ z. suc (length z)) out-is ∙ shorter (entries n) (index_of_spot m p) (let b = index-below n p v.within in omega (arith, v.index))

      -- if the pair is taken out, the walk goes on at the pair that stood after it
      pub took-next : (o : Option Place) → MatchOption o (suc (index_of_spot n p) ≡ length (entries n)) (StandsAtSpot d (index_of_spot n p)) → (reached d o ≡ index_of_spot m p) × IfSome o (IsSpot d)
      took-next None e = (let l : suc (length (entries d)) ≡ length (entries n) = took-count in omega (arith, v.index), tt)
      took-next (Some x) s = (s.index ∙ v.index, s.within)

      pub took-before : take (index_of_spot m p) (entries d) ≡ take (index_of_spot m p) (entries m)
      took-before = ap (take (index_of_spot m p)) out-is ∙ take-removed (entries n) (index_of_spot m p) ∙ v.before

      pub took-after : drop (index_of_spot m p) (entries d) ≡ drop (suc (index_of_spot m p)) (entries m)
      took-after = ap (drop (index_of_spot m p)) out-is ∙ drop-removed (entries n) (index_of_spot m p) ∙ v.after

      pub took-nearer : (o : Option Place) → IsSpot m p → reached d o ≡ index_of_spot m p → length (entries d) - reached d o < length (entries m) - index_of_spot m p
      took-nearer o within e = omega (arith, index-below m p within, v.count, took-count)

module _ {F K V S : Type 0} {T : F → K × V → Bool → V → F → Type 0} (first : F) (all : List (K × V)) (m : Contents (K × V) S) (p : Place) (f f' : F) (q : K × V) (w : V) (n : Contents (K × V) S) (v : Visited m p q w n)
    (calls : (stay : List (K × V)) (last : F) → Retains T f (drop (index_of_spot m p) (entries m)) stay last → Retains T first all (take (index_of_spot m p) (entries m) ++ stay) last) where
  -- if the closure keeps the pair q, a walk from the next pair on gives a walk over all pairs
  pub retains-kept : T f q true w f' → (o : Option Place) → reached n o ≡ suc (index_of_spot m p) → (stay : List (K × V)) (last : F) → Retains T f' (drop (reached n o) (entries n)) stay last → Retains T first all (take (reached n o) (entries n) ++ stay) last
  retains-kept t o e stay last r =
      let rest : Retains T f' (drop (suc (index_of_spot m p)) (entries m)) stay last = subst (λ z. Retains T f' z stay last) (ap (λ i. drop i (entries n)) e ∙ v.after) r in
      let here : Retains T f (drop (index_of_spot m p) (entries m)) ((q.0, w) ∷ stay) last = subst (λ z. Retains T f z ((q.0, w) ∷ stay) last) (sym v.here) (kept t rest) in
      let front : take (index_of_spot m p) (entries m) ++ ((q.0, w) ∷ stay) ≡ take (reached n o) (entries n) ++ stay =
      sym (append_assoc (take (index_of_spot m p) (entries m)) ((q.0, w) ∷ []) stay) ∙ ap (λ z. z ++ stay) (sym (kept-before m p q w n v) ∙ ap (λ i. take i (entries n)) (sym e)) in
      subst (λ z. Retains T first all z last) front (calls ((q.0, w) ∷ stay) last here)

  -- if the pair q is taken out, a walk from the next pair on gives a walk over all pairs
  pub retains-removed : T f q false w f' → (d : Contents (K × V) S) (out : HoldsExactly n (remove (entries n) (index_of_spot n p)) d) (o : Option Place) → reached d o ≡ index_of_spot m p → (stay : List (K × V)) (last : F)
      → Retains T f' (drop (reached d o) (entries d)) stay last → Retains T first all (take (reached d o) (entries d) ++ stay) last
  retains-removed t d out o e stay last r =
      let rest : Retains T f' (drop (suc (index_of_spot m p)) (entries m)) stay last = subst (λ z. Retains T f' z stay last) (ap (λ i. drop i (entries d)) e ∙ took-after m p q w n v d out) r in
      let here : Retains T f (drop (index_of_spot m p) (entries m)) stay last = subst (λ z. Retains T f z stay last) (sym v.here) (removed t rest) in
      let front : take (index_of_spot m p) (entries m) ++ stay ≡ take (reached d o) (entries d) ++ stay = ap (λ z. z ++ stay) (sym (took-before m p q w n v d out) ∙ ap (λ i. take i (entries d)) (sym e)) in
      subst (λ z. Retains T first all z last) front (calls stay last here)

-- what holds in turn of the pairs from p on
module _ {F K V S : Type 0} {Step : F → K × V → F → Type 0} {Q : F → K × V → Type 0} (m : Contents (K × V) S) (p : Place) where
  pub turn-here : {f : F} → HoldsInTurn Step Q f (drop (index_of_spot m p) (entries m)) → (x : K × V) → slice_get (entries m) (index_of_spot m p) ≡ Some x → Q f x
  turn-here {f = f} h x e = turn-first Step Q (subst (HoldsInTurn Step Q f) (drop-here (entries m) (index_of_spot m p) x e) h)

  module _ (q : K × V) (w : V) (n : Contents (K × V) S) (v : Visited m p q w n) {f f' : F} (h : HoldsInTurn Step Q f (drop (index_of_spot m p) (entries m))) (t : Step f q f') where
    turn-next : HoldsInTurn Step Q f' (drop (suc (index_of_spot m p)) (entries m))
    turn-next = turn-others Step Q (subst (HoldsInTurn Step Q f) v.here h) t

    -- after a step in which the pair stays, `HoldsInTurn` holds from the next pair on
    pub turn-kept : (o : Option Place) → reached n o ≡ suc (index_of_spot m p) → HoldsInTurn Step Q f' (drop (reached n o) (entries n))
    turn-kept o e = subst (HoldsInTurn Step Q f') (sym (ap (λ i. drop i (entries n)) e ∙ v.after)) turn-next

    -- after a step in which the pair is taken out, `HoldsInTurn` holds from the next pair on
    pub turn-removed : (d : Contents (K × V) S) → HoldsExactly n (remove (entries n) (index_of_spot n p)) d → (o : Option Place) → reached d o ≡ index_of_spot m p → HoldsInTurn Step Q f' (drop (reached d o) (entries d))
    turn-removed d out o e = subst (HoldsInTurn Step Q f') (sym (ap (λ i. drop i (entries d)) e ∙ took-after m p q w n v d out)) turn-next
