-- A pair that a walk visits: the pair stays, or the walk removes it.
use Rattle.std.proofs.Common.{◌≡◌, suc, ◌<◌, ◌-◌, List, [], ◌∷◌, ◌++◌, length, take, drop, Bool, true, false, Option, None, Some, MatchOption, IfSome, sym, ap, ◌∙◌, arith, subst, append_assoc}
use Rattle.std.specs.List.{slice_get, remove}
use Rattle.scc_common.specs.Contents.{Contents, entries}
use Rattle.scc_table.specs.Places.{IsPlace, StandsAt, index_of, spot_of}
use Rattle.scc_common.specs.Steps.{HoldsExactly}
use Rattle.scc_common.specs.Walks.{HoldsInTurn}
use Rattle.scc_buckets.specs.declared.place.Place.{Place}
use Rattle.scc_buckets.proofs.Placed.{take-more, drop-here, take-removed, drop-removed}
use Rattle.scc_buckets.proofs.Standing.{index-below}
use Rattle.scc_common.proofs.WalkLemmas.{turn-first, turn-others}
use Rattle.scc_owned.specs.IndexWalks.{Retains, kept, removed}
use Rattle.scc_table.proofs.walks.Reach.{reached}
use Rattle.scc_table.proofs.walks.Visits.{shorter}

module _ {K V S : Type 0} (m : Contents (K × V) S) (p : Place) (q : K × V) (within : IsPlace m p) (got : slice_get (entries m) (index_of m p) ≡ Some q) where
  here : drop (index_of m p) (entries m) ≡ q ∷ drop (suc (index_of m p)) (entries m)
  here = drop-here (entries m) (index_of m p) q got

  module _ (d : Contents (K × V) S) (out : HoldsExactly m (remove (entries m) (index_of m p)) d) where
    took-count : suc (length (entries d)) ≡ length (entries m)
    took-count = ap (λ z. suc (length z)) out.exact ∙ shorter (entries m) (index_of m p) (index-below m (spot_of m p) within)

    -- after the pair is removed, the walk goes on at the index of the removed pair
    pub took-next : (o : Option Place) → MatchOption o (suc (index_of m p) ≡ length (entries m)) (StandsAt d (index_of m p)) → (reached d o ≡ index_of m p) × IfSome o (IsPlace d)
    took-next None e = (let l : suc (length (entries d)) ≡ length (entries m) = took-count in omega arith, tt)
    took-next (Some x) s = (s.index, s.within)

    took-before : take (index_of m p) (entries d) ≡ take (index_of m p) (entries m)
    took-before = ap (take (index_of m p)) out.exact ∙ take-removed (entries m) (index_of m p)

    pub took-after : drop (index_of m p) (entries d) ≡ drop (suc (index_of m p)) (entries m)
    took-after = ap (drop (index_of m p)) out.exact ∙ drop-removed (entries m) (index_of m p)

    pub took-nearer : (o : Option Place) → reached d o ≡ index_of m p → length (entries d) - reached d o < length (entries m) - index_of m p
    took-nearer o e = let l = index-below m (spot_of m p) within in omega (arith, took-count)

  module _ {F : Type 0} {T : F → K × V → Bool → F → Type 0} (first : F) (all : List (K × V)) (f f' : F)
      (calls : (stay : List (K × V)) (last : F) → Retains T f (drop (index_of m p) (entries m)) stay last → Retains T first all (take (index_of m p) (entries m) ++ stay) last) where
    -- if the closure kept this pair, a walk from the next pair on extends to a walk over all pairs
    pub retains-kept : T f q true f' → (o : Option Place) → reached m o ≡ suc (index_of m p) → (stay : List (K × V)) (last : F) → Retains T f' (drop (reached m o) (entries m)) stay last → Retains T first all (take (reached m o) (entries m) ++ stay) last
    retains-kept t o e stay last r =
        let rest : Retains T f' (drop (suc (index_of m p)) (entries m)) stay last = subst (λ z. Retains T f' z stay last) (ap (λ i. drop i (entries m)) e) r in
        let run : Retains T f (drop (index_of m p) (entries m)) (q ∷ stay) last = subst (λ z. Retains T f z (q ∷ stay) last) (sym here) (kept t rest) in
        let front : take (index_of m p) (entries m) ++ (q ∷ stay) ≡ take (reached m o) (entries m) ++ stay =
        sym (append_assoc (take (index_of m p) (entries m)) (q ∷ []) stay) ∙ ap (λ z. z ++ stay) (sym (take-more (entries m) (index_of m p) q got) ∙ ap (λ i. take i (entries m)) (sym e)) in
        subst (λ z. Retains T first all z last) front (calls (q ∷ stay) last run)

    -- if the closure removed this pair, a walk from the next pair on extends to a walk over all pairs
    pub retains-removed : T f q false f' → (d : Contents (K × V) S) → HoldsExactly m (remove (entries m) (index_of m p)) d → (o : Option Place) → reached d o ≡ index_of m p → (stay : List (K × V)) (last : F)
        → Retains T f' (drop (reached d o) (entries d)) stay last → Retains T first all (take (reached d o) (entries d) ++ stay) last
    retains-removed t d out o e stay last r =
        let rest : Retains T f' (drop (suc (index_of m p)) (entries m)) stay last = subst (λ z. Retains T f' z stay last) (ap (λ i. drop i (entries d)) e ∙ took-after d out) r in
        let run : Retains T f (drop (index_of m p) (entries m)) stay last = subst (λ z. Retains T f z stay last) (sym here) (removed t rest) in
        let front : take (index_of m p) (entries m) ++ stay ≡ take (reached d o) (entries d) ++ stay = ap (λ z. z ++ stay) (sym (took-before d out) ∙ ap (λ i. take i (entries d)) (sym e)) in
        subst (λ z. Retains T first all z last) front (calls stay last run)

  -- if Q holds in turn from the place on, Q holds at the pair of the place
  module _ {F : Type 0} {Step : F → K × V → F → Type 0} {Q : F → K × V → Type 0} {f : F} (h : HoldsInTurn Step Q f (drop (index_of m p) (entries m))) where
    pub turn-here : Q f q
    turn-here = turn-first Step Q (subst (HoldsInTurn Step Q f) here h)

    turn-next : {f' : F} → Step f q f' → HoldsInTurn Step Q f' (drop (suc (index_of m p)) (entries m))
    turn-next t = turn-others Step Q (subst (HoldsInTurn Step Q f) here h) t

    -- after a step that kept the pair, Q holds in turn from the next pair on
    pub turn-kept : {f' : F} → Step f q f' → (o : Option Place) → reached m o ≡ suc (index_of m p) → HoldsInTurn Step Q f' (drop (reached m o) (entries m))
    turn-kept {f'} t o e = subst (HoldsInTurn Step Q f') (sym (ap (λ i. drop i (entries m)) e)) (turn-next t)

    -- after a step that removed the pair, Q holds in turn from the next pair on
    pub turn-removed : {f' : F} → Step f q f' → (d : Contents (K × V) S) → HoldsExactly m (remove (entries m) (index_of m p)) d → (o : Option Place) → reached d o ≡ index_of m p → HoldsInTurn Step Q f' (drop (reached d o) (entries d))
    turn-removed {f'} t d out o e = subst (HoldsInTurn Step Q f') (sym (ap (λ i. drop i (entries d)) e ∙ took-after d out)) (turn-next t)
