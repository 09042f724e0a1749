-- If a fact holds of every pair of a cache, the fact holds of every pair after a call.
use Rattle.std.proofs.Common.{◌≡◌, ℕ, zero, suc, ◌<◌, Bool, true, List, [], ◌∷◌, ◌++◌, length, Option, None, Some, sym, subst, arith}
use Rattle.std.specs.List.{AllByRecursion, filter, flat_map, remove, slice_get, slice_set, slice_index_or}
use Rattle.scc_buckets.specs.Bounded.{IsResized, ShrinksBounded, stays_wide, denied_narrow, narrows}
use Rattle.scc_common.specs.Contents.{Contents, entries, bucket_count, list_of, lists_of}
use Rattle.scc_buckets.proofs.PairSplits.{by_answer, cond-true, cond-false}
use Rattle.scc_table.specs.Bounded.{GrowsBelow, makes, has_room, is_full, DoublesBelow, stays, denied, doubles}
use Rattle.scc_owned_cache.specs.CacheSteps.{PutsNew, TakesThen, list_number}
use Rattle.scc_owned_cache.specs.Caches.{Cached}
use Rattle.scc_owned_cache.specs.ListSteps.{IsThere, PutsPair, Refreshes, list_for}
use Rattle.scc_owned_cache.proofs.Caching.{position-passes}

module _ {X : Type 0} (P : X → Type 0) where
  abbrev pub All : List X → Type 0
  All xs = AllByRecursion P xs

  -- P holds of each element of each list
  abbrev pub Each : List (List X) → Type 0
  Each ls = AllByRecursion (λ l. AllByRecursion P l) ls

  all-append : (xs ys : List X) → All xs → All ys → All (xs ++ ys)
  all-append [] ys h k = k
  all-append (x ∷ xs) ys h k = (h.0, all-append xs ys h.1 k)

  all-tail : (x : X) (xs ys : List X) → ys ≡ x ∷ xs → All ys → All xs
  all-tail x xs ys e h = let both : All (x ∷ xs) = subst (λ z. AllByRecursion P z) e h in both.1

  all-removed : (xs : List X) (i : ℕ) → All xs → All (remove xs i)
  all-removed [] zero h = tt
  all-removed [] (suc i) h = tt
  all-removed (x ∷ xs) zero h = h.1
  all-removed (x ∷ xs) (suc i) h = (h.0, all-removed xs i h.1)

  pub all-got : (xs : List X) (i : ℕ) (x : X) → slice_get xs i ≡ Some x → All xs → P x
  all-got [] zero x e h = absurd (let z : None ≡ Some x = e in cc)
  all-got [] (suc i) x e h = absurd (let z : None ≡ Some x = e in cc)
  all-got (y ∷ xs) zero x e h = let s : y ≡ x = cc in subst P s h.0
  all-got (y ∷ xs) (suc i) x e h = all-got xs i x e h.1

  all-filtered : (t : X → Bool) (xs : List X) → All xs → All (filter t xs)
  all-filtered t [] h = tt
  all-filtered t (x ∷ xs) h = by_answer (t x)
      (λ y. subst (λ z. AllByRecursion P z) (sym (cond-true (x ∷ filter t xs) (filter t xs) y)) (h.0, all-filtered t xs h.1))
      (λ y. subst (λ z. AllByRecursion P z) (sym (cond-false (x ∷ filter t xs) (filter t xs) y)) (all-filtered t xs h.1))

  pub each-list : (ls : List (List X)) (i : ℕ) → Each ls → All (slice_index_or ls i [])
  each-list [] zero h = tt
  each-list [] (suc i) h = tt
  each-list (l ∷ ls) zero h = h.0
  each-list (l ∷ ls) (suc i) h = each-list ls i h.1

  each-set : (ls : List (List X)) (i : ℕ) (es : List X) → All es → Each ls → Each (slice_set ls i es)
  each-set [] zero es k h = tt
  each-set [] (suc i) es k h = tt
  each-set (l ∷ ls) zero es k h = (k, h.1)
  each-set (l ∷ ls) (suc i) es k h = (h.0, each-set ls i es k h.1)

  each-flat : (ls : List (List X)) → Each ls → All (flat_map (λ l. l) ls)
  each-flat [] h = tt
  each-flat (l ∷ ls) h = all-append l (flat_map (λ x. x) ls) h.0 (each-flat ls h.1)

  each-from : (ls : List (List X)) → ((i : ℕ) → i < length ls → All (slice_index_or ls i [])) → Each ls
  each-from [] h = tt
  each-from (l ∷ ls) h = (h 0 (omega arith), each-from ls (λ i b. h (suc i) (omega arith)))

  module _ {S : Type 0} (hash : X → ℕ) where
    each-resized : (c d : Contents X S) → IsResized hash c d → Each (lists_of c) → Each (lists_of d)
    unfolding entries bucket_count list_of lists_of
    each-resized c d r h =
        each-from d.lists (λ i b.
        let same = r.lists.each i b in
        subst (λ z. AllByRecursion P z) (sym same) (all-filtered _ (flat_map (λ l. l) c.lists) (each-flat c.lists h)))

    each-doubled : (most : ℕ) (c d : Contents X S) → DoublesBelow hash most c d → Each (lists_of c) → Each (lists_of d)
    each-doubled most c d (stays due e) h = subst (λ z. Each (lists_of z)) (sym e) h
    each-doubled most c d (denied due up k) h = subst (λ z. Each z) (sym k.lists) h
    each-doubled most c d (doubles due untried down twice r) h = each-resized c d r h

    each-shrunk : (c d : Contents X S) → ShrinksBounded hash c d → Each (lists_of c) → Each (lists_of d)
    each-shrunk c d (stays_wide due e) h = subst (λ z. Each (lists_of z)) (sym e) h
    each-shrunk c d (denied_narrow n smaller up marked k) h = subst (λ z. Each z) (sym k.lists) h
    each-shrunk c d (narrows smaller least down marked r) h = each-resized c d r h

    each-grown : (most i : ℕ) (c d : Contents X S) → GrowsBelow hash most i c d → Each (lists_of c) → Each (lists_of d)
    each-grown most i c d (makes none size noted r) h = each-resized c d r h
    each-grown most i c d (has_room some room e) h = subst (λ z. Each (lists_of z)) (sym e) h
    each-grown most i c d (is_full some full g) h = each-doubled most c d g h

module _ {K V : Type 0} (P : K × V → Type 0) (eq : K → K → Bool) where
  pub each-refreshed : (number : ℕ → K → ℕ) (k : K) (p : K × V) (ls ms : List (List (K × V))) → Refreshes number eq k p ls ms → Each P ls → Each P ms
  each-refreshed number k p ls ms (i, at, e) h =
      let list = list_for number ls k in
      let all = each-list P ls (number (length ls) k) h in
      subst (λ z. Each P z) (sym e) (each-set P ls (number (length ls) k) (remove list i ++ p ∷ []) (all-append P (remove list i) (p ∷ []) (all-removed P list i all) (all-got P list i p at.pair all, tt)) h)

  each-put : (number : ℕ → K → ℕ) (p : K × V) (x : Option (K × V)) (ls ms : List (List (K × V))) → PutsPair number eq p x ls ms → P p → Each P ls → Each P ms
  each-put number p None ls ms s h each =
      let list = list_for number ls p.0 in
      let all = each-list P ls (number (length ls) p.0) each in
      subst (λ z. Each P z) (sym s.3) (each-set P ls (number (length ls) p.0) (list ++ p ∷ []) (all-append P list (p ∷ []) all (h, tt)) each)
  each-put number p (Some y) ls ms s h each =
      let all = each-list P ls (number (length ls) p.0) each in
      subst (λ z. Each P z) (sym s.2.2) (each-set P ls (number (length ls) p.0) (s.2.0 ++ p ∷ []) (all-append P s.2.0 (p ∷ []) (all-tail P y s.2.0 (list_for number ls p.0) s.2.1 all) (h, tt)) each)

  -- if P holds of a new pair, P holds of each pair after the put of the new pair
  pub each-new : {S : Type 0} (hash : K → ℕ) (c d : Cached (K × V) S) (p : K × V) (x : Option (K × V)) → PutsNew hash eq c p x d → P p → Each P (lists_of c.contents) → Each P (lists_of d.contents)
  each-new hash c d p x (grown, grows, puts) h each = each-put (list_number hash c.contents) p x (lists_of grown.contents) (lists_of d.contents) puts.lists h (each-grown P (λ e. hash e.0) c.maximum (list_number hash c.contents (bucket_count c.contents) p.0) c.contents grown.contents grows.grows each)

  -- P holds of each pair that is left after a removal
  pub each-taken : {S : Type 0} (hash : K → ℕ) (c d : Cached (K × V) S) (k : K) (p : K × V) → TakesThen hash eq c k p d → Each P (lists_of c.contents) → Each P (lists_of d.contents)
  each-taken hash c d k p (left, change, shrinks) each =
      let number = list_number hash c.contents in
      let ls = lists_of c.contents in
      let list = list_for number ls k in
      let i = change.lists.0 in
      let out : Each P (lists_of left.contents) = subst (λ z. Each P z) (sym change.lists.2) (each-set P ls (number (length ls) k) (remove list i) (all-removed P list i (each-list P ls (number (length ls) k) each)) each) in
      each-shrunk P (λ e. hash e.0) left.contents d.contents shrinks.shrinks out

  -- P holds of the pair of k, and the key of that pair equals k
  pub each-there : (number : ℕ → K → ℕ) (k : K) (i : ℕ) (p : K × V) (ls : List (List (K × V))) → IsThere number eq ls k i p → Each P ls → P p × (eq k p.0 ≡ true)
  each-there number k i p ls at each =
      let list = list_for number ls k in
      (all-got P list i p at.pair (each-list P ls (number (length ls) k) each), position-passes (λ (q : K × V). eq k q.0) list i p at.first at.pair)
