-- A pair that a walk over two arrays visits: it stays with the written value, or it is taken out.
use Rattle.std.proofs.Common.{◌≡◌, suc, [], length, Option, Some, MatchOption, IfSome, sym, subst}
use Rattle.std.specs.List.{slice_get, remove}
use Rattle.scc_common.specs.Contents.{Contents, entries}
use Rattle.scc_common.specs.Pairs.{with_pair_value}
use Rattle.scc_buckets.specs.Places as spots
use Rattle.scc_common.specs.Steps.{HoldsExactly}
use Rattle.scc_buckets.specs.declared.place.Place.{Place}
use Rattle.scc_table.specs.Places.{IsPlace, StandsAt, index_of, spot_of, with_write_at}
use Rattle.scc_table.proofs.walks.Reach.{walk_spot, stands-spot, within-spot, spot-written}
use Rattle.scc_table.proofs.walks.Steps.{reached, reached-first}
use Rattle.scc_table.proofs.walks.Takes.{took-pair}
use Rattle.scc_table.proofs.walks.Visits.{Visited, kept-next, took-next}

-- no entry stands before the place at which a walk starts
pub first-spot : {E S : Type 0} (c : Contents E S) (o : Option Place) → MatchOption o (entries c ≡ []) (StandsAt c 0) → (reached c (walk_spot c o) ≡ 0) × IfSome o (IsPlace c)
first-spot c o h = let r = reached-first c (walk_spot c o) (stands-spot c (entries c ≡ []) 0 o h) in (r.0, within-spot c o r.1)

module _ {K V S : Type 0} (m : Contents (K × V) S) (p : Place) (q : K × V) (w : V) (n : Contents (K × V) S) (new : n ≡ with_write_at with_pair_value m p w) (v : Visited m (spot_of m p) q w n) where
  same-spot : spot_of n p ≡ spot_of m p
  same-spot = spot-written m with_pair_value p w n new p

  -- p is still a place after the write
  pub place-after : IsPlace n p
  place-after = subst (λ s. spots.IsSpot n s) (sym same-spot) v.within

  -- if the pair stays, the walk goes on at the next pair
  pub kept-spot : (o : Option Place) → MatchOption o (suc (index_of n p) ≡ length (entries n)) (StandsAt n (suc (index_of n p))) → (reached n (walk_spot n o) ≡ suc (index_of m p)) × IfSome o (IsPlace n)
  kept-spot o h =
      let here = subst (λ s. MatchOption o (suc (spots.index_of_spot n s) ≡ length (entries n)) (StandsAt n (suc (spots.index_of_spot n s)))) same-spot h in
      let i = suc (spots.index_of_spot n (spot_of m p)) in
      let r = kept-next m (spot_of m p) q w n v (walk_spot n o) (stands-spot n (i ≡ length (entries n)) i o here) in
      (r.0, within-spot n o r.1)

  -- the pair that is taken out has the key of q and the written value w
  pub pair-out : (x : K × V) → slice_get (entries n) (index_of n p) ≡ Some x → x ≡ (q.0, w)
  pair-out x got = took-pair m (spot_of m p) q w n v x (subst (λ s. slice_get (entries n) (spots.index_of_spot n s) ≡ Some x) same-spot got)

  module _ (d : Contents (K × V) S) (out : HoldsExactly n (remove (entries n) (index_of n p)) d) where
    -- the pair at the spot of p in m is taken out, and the other pairs stay
    pub others-out : HoldsExactly n (remove (entries n) (spots.index_of_spot n (spot_of m p))) d
    others-out = subst (λ s. HoldsExactly n (remove (entries n) (spots.index_of_spot n s)) d) same-spot out

    -- if the pair is taken out, the walk goes on at the pair that stood after it
    pub took-spot : (o : Option Place) → MatchOption o (suc (index_of n p) ≡ length (entries n)) (StandsAt d (index_of n p)) → (reached d (walk_spot d o) ≡ index_of m p) × IfSome o (IsPlace d)
    took-spot o h =
        let here = subst (λ s. MatchOption o (suc (spots.index_of_spot n s) ≡ length (entries n)) (StandsAt d (spots.index_of_spot n s))) same-spot h in
        let i = spots.index_of_spot n (spot_of m p) in
        let r = took-next m (spot_of m p) q w n v d others-out (walk_spot d o) (stands-spot d (suc i ≡ length (entries n)) i o here) in
        (r.0, within-spot d o r.1)
