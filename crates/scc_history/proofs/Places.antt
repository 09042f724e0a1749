-- From a merge of places to a merge of steps.
use Rattle.std.proofs.Common.{◌≡◌, ℕ, zero, suc, ◌+◌, ◌<◌, List, [], ◌∷◌, length, map, drop, Some, refl, ap, ◌∙◌, arith, add-one}
use Rattle.std.specs.Prelude.{slice_get, slice_set, slice_index}
use Rattle.std.specs.List.{AllByRecursion}
use Rattle.scc_calls.specs.Histories.{Merge}
use Rattle.scc_history.specs.Orders.{MergeFrom, IsMergeOrder, steps_at}

module _ (X : Type 0) where
  abbrev rests : List (List X) → List ℕ → List (List X)
  rests [] ds = []
  rests (h ∷ hs) [] = h ∷ rests hs []
  rests (h ∷ hs) (d ∷ ds) = drop d h ∷ rests hs ds

  rests_get : (hs : List (List X)) (ds : List ℕ) (i : ℕ) (h : List X) (d : ℕ) → slice_get hs i ≡ Some h → slice_get ds i ≡ Some d → slice_get (rests hs ds) i ≡ Some (drop d h)
  rests_get [] ds i h d e f = cc
  rests_get (g ∷ hs) [] i h d e f = cc
  rests_get (g ∷ hs) (c ∷ ds) zero h d e f = let a : g ≡ h = cc in let b : c ≡ d = cc in rw (a, b) refl
  rests_get (g ∷ hs) (c ∷ ds) (suc i) h d e f = rests_get hs ds i h d e f

  rests_set : (hs : List (List X)) (ds : List ℕ) (i : ℕ) (h : List X) (d n : ℕ) → slice_get hs i ≡ Some h → slice_get ds i ≡ Some d → slice_set (rests hs ds) i (drop n h) ≡ rests hs (slice_set ds i n)
  rests_set [] ds i h d n e f = cc
  rests_set (g ∷ hs) [] i h d n e f = cc
  rests_set (g ∷ hs) (c ∷ ds) zero h d n e f = let a : g ≡ h = cc in rw a refl
  rests_set (g ∷ hs) (c ∷ ds) (suc i) h d n e f = ap (λ l. drop c g ∷ l) (rests_set hs ds i h d n e f)

  there : (hs : List (List X)) (i j : ℕ) → j < slice_index (map length hs) i → (h : List X) × (slice_get hs i ≡ Some h) × (j < length h)
  there [] i j e = absurd (omega arith)
  there (h ∷ hs) zero j e = (h, refl, e)
  there (h ∷ hs) (suc i) j e = there hs i j e

  item : (h : List X) (j : ℕ) → j < length h → (x : X) × (slice_get h j ≡ Some x) × (drop j h ≡ x ∷ drop (j + 1) h)
  item [] j e = absurd (omega arith)
  item (x ∷ h) zero e = (x, refl, refl)
  item (x ∷ h) (suc j) e = let r = item h j (omega arith) in (r.0, r.1, rw add-one (rw add-one at r.2))

  drop_whole : (h : List X) → drop (length h) h ≡ []
  drop_whole [] = refl
  drop_whole (x ∷ h) = drop_whole h

  rests_done : (hs : List (List X)) → AllByRecursion (λ (xs : List X). xs ≡ []) (rests hs (map length hs))
  rests_done [] = tt
  rests_done (h ∷ hs) = (drop_whole h, rests_done hs)

  rests_start : (hs : List (List X)) → rests hs (map (λ _. 0) hs) ≡ hs
  rests_start [] = refl
  rests_start (h ∷ hs) = ap (λ l. h ∷ l) (rests_start hs)

  merge_from : (hs : List (List X)) (done : List ℕ) (places : List (ℕ × ℕ)) → MergeFrom (map length hs) done places → Merge (rests hs done) (steps_at hs places)
  merge_from hs done [] m = rw m (rests_done hs)
  merge_from hs done (place ∷ places) m =
      let h = there hs place.0 place.1 m.1 in
      let x = item h.0 place.1 h.2 in
      let next = merge_from hs (slice_set done place.0 (place.1 + 1)) places m.2 in
      let get = rests_get hs done place.0 h.0 place.1 h.1 m.0 in
      let set = rests_set hs done place.0 h.0 place.1 (place.1 + 1) h.1 m.0 in
      rw (h.1, x.1) (drop (place.1 + 1) h.0, get ∙ ap Some x.2, rw set next)

  pub merge_of : (hs : List (List X)) (places : List (ℕ × ℕ)) → IsMergeOrder hs places → Merge hs (steps_at hs places)
  merge_of hs places m = rw (rests_start hs) at (merge_from hs (map (λ _. 0) hs) places m)
