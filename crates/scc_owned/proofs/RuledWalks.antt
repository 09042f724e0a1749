-- The pairs that a walk over a map or an index under a rule has left behind it, and those that stand before it.
use Rattle.std.proofs.Common.{◌≡◌, ◌∙◌, suc, ◌+◌, List, [], ◌∷◌, ◌++◌, length, take, drop, Bool, Result, sym, ap, arith, length-append, take-append-drop, append-nil}
use Rattle.std.specs.List.{remove}
use Rattle.scc_buckets.specs.Places.{index_of_spot}
use Rattle.scc_buckets.specs.declared.place.Place.{Place}
use Rattle.scc_common.specs.Contents.{Contents, entries}
use Rattle.scc_common.specs.PairWalks.{Takes}
use Rattle.scc_common.specs.Steps.{HoldsExactly}
use Rattle.scc_common.specs.declared.errors.WalkError.{WalkError}
use Rattle.scc_common.specs.declared.verdict.Verdict.{Verdict}
use Rattle.scc_table.proofs.walks.Takes.{takes-count}
use Rattle.scc_table.proofs.walks.Visits.{Visited, kept-before, took-before, took-after}

-- stay has the pairs before the pair q at p, which the walk visits: w becomes its value
module _ {K V S : Type 0} (m : Contents (K × V) S) (p : Place) (q : K × V) (w : V) (n : Contents (K × V) S) (v : Visited m p q w n) (stay : List (K × V)) (front : take (index_of_spot m p) (entries m) ≡ stay) where
  -- if the pair stays, it stands before the walk
  pub stays-kept : take (suc (index_of_spot m p)) (entries n) ≡ stay ++ (q.0, w) ∷ []
  stays-kept = kept-before m p q w n v ∙ ap (λ z. z ++ (q.0, w) ∷ []) front

  -- if the walk stops at the pair, which stays, the pairs after it stay as well
  pub stays-kept_last : entries n ≡ (stay ++ (q.0, w) ∷ []) ++ drop (suc (index_of_spot m p)) (entries m)
  stays-kept_last = sym (take-append-drop (suc (index_of_spot m p)) (entries n)) ∙ ap (λ z. z ++ drop (suc (index_of_spot m p)) (entries n)) stays-kept ∙ ap (λ z. (stay ++ (q.0, w) ∷ []) ++ z) v.after

  module _ (d : Contents (K × V) S) (out : HoldsExactly n (remove (entries n) (index_of_spot n p)) d) where
    -- if the pair is taken out, the same pairs stand before the walk as before
    pub stays-took : take (index_of_spot m p) (entries d) ≡ stay ++ []
    stays-took = took-before m p q w n v d out ∙ front ∙ sym (append-nil stay)

    -- if the walk stops at the pair, which is taken out, the pairs after it stay
    pub stays-took_last : entries d ≡ (stay ++ []) ++ drop (suc (index_of_spot m p)) (entries m)
    stays-took_last = sym (take-append-drop (index_of_spot m p) (entries d)) ∙ ap (λ z. z ++ drop (index_of_spot m p) (entries d)) stays-took ∙ ap (λ z. (stay ++ []) ++ z) (took-after m p q w n v d out)

-- a walk over es, the first of all pairs, which leaves `stay` of them, has taken as many as are missing
pub taken-count : {F K V : Type 0} {T : F → K × V → Verdict → V → F → Type 0} {f last : F} (es rest stay more all left : List (K × V)) {r : Result Bool WalkError} → Takes T f es stay more r last → all ≡ es ++ rest → left ≡ stay ++ rest → length all ≡ length left + length more
taken-count es rest stay more all left t before after = omega (arith, takes-count t, ap length before, ap length after, length-append es rest, length-append stay rest)
