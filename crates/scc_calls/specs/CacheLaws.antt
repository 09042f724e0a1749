-- Keys stay in their part of a cache.
use Rattle.std.proofs.Common.{◌≡◌, ℕ, zero, suc, ◌<◌, List, [], ◌∷◌, ◌++◌, length, map, Bool, true, false, cond, Option, None, Some, sym, subst, arith}
use Rattle.std.specs.Prelude.{◌==◌, replicate, remove}
use Rattle.std.specs.List.{AllByRecursion, filter, flat_map, slice_get, slice_index_or, slice_set}
use Rattle.std.specs.Map.{keys_of}
use Rattle.scc_common.specs.Sizes.{IsArraySize}
use Rattle.scc_owned_cache.specs.ListSteps.{list_for, PutsPair, RefreshesAs, TakesOut}
use Rattle.scc_calls.specs.CacheCalls.{cache_key, keys_in, CacheMoves, CacheResizes}
use Rattle.scc_calls.specs.Parts.{Routed, KeyRouted}
use Rattle.scc_calls.specs.declared.fixed.Setting.{Setting}
use Rattle.scc_calls.specs.declared.calls_as_values.CacheCall.{CacheCall}
use Rattle.scc_calls.specs.declared.calls_as_values.CacheCall.TheVariants.{Put, Get, Write, Replace, Remove, Read, Contains, Clear, Len}
use Rattle.scc_calls.specs.declared.replies.Reply.{Reply}
use Rattle.scc_calls.specs.declared.replies.Reply.TheVariants.{Evicted, Exists, Old, Key, Pair, Value, Has, Cleared, Count}

-- there is one size of an array for n slots
pub one_size : (n p q : ℕ) → IsArraySize n p → IsArraySize n q → p ≡ q
one_size n p q a b =
    let l = a.fewest q b.power b.least b.enough in
    let m = b.fewest p a.power a.least a.enough in
    omega arith

module _ {K V : Type 0} (P : K → Type 0) where
  -- P holds of each key of the list
  abbrev All : List (K × V) → Type 0
  All [] = Unit {0}
  All (p ∷ es) = P p.0 × All es

  -- P holds of each key of each list
  abbrev Each : List (List (K × V)) → Type 0
  Each [] = Unit {0}
  Each (l ∷ ls) = All l × Each ls

  both : (xs ys : List (K × V)) → All xs → All ys → All (xs ++ ys)
  both [] ys a b = b
  both (x ∷ xs) ys a b = (a.0, both xs ys a.1 b)

  parts : (xs ys : List (K × V)) → All (xs ++ ys) → All xs × All ys
  parts [] ys a = (tt, a)
  parts (x ∷ xs) ys a = let r = parts xs ys a.1 in ((a.0, r.0), r.1)

  all-remove : (es : List (K × V)) (i : ℕ) → All es → All (remove es i)
  all-remove [] zero a = a
  all-remove [] (suc i) a = a
  all-remove (e ∷ es) zero a = a.1
  all-remove (e ∷ es) (suc i) a = (a.0, all-remove es i a.1)

  all-set : (es : List (K × V)) (i : ℕ) (q : K × V) → P q.0 → All es → All (slice_set es i q)
  all-set [] zero q h a = a
  all-set [] (suc i) q h a = a
  all-set (e ∷ es) zero q h a = (h, a.1)
  all-set (e ∷ es) (suc i) q h a = (a.0, all-set es i q h a.1)

  all-get : (es : List (K × V)) (i : ℕ) (q : K × V) → slice_get es i ≡ Some q → All es → P q.0
  all-get [] zero q g a = absurd (let n : None ≡ Some q = g in cc)
  all-get [] (suc i) q g a = absurd (let n : None ≡ Some q = g in cc)
  all-get (e ∷ es) zero q g a = let s : e ≡ q = cc in subst (λ (x : K × V). P x.0) s a.0
  all-get (e ∷ es) (suc i) q g a = all-get es i q g a.1

  all-filter : (t : K × V → Bool) (es : List (K × V)) → All es → All (filter t es)
  all-filter t [] a = tt
  all-filter t (e ∷ es) a = by (t e) (all-filter t es a.1)
    where
      by : (b : Bool) → All (filter t es) → All (cond b (e ∷ filter t es) (filter t es))
      by true r = (a.0, r)
      by false r = r

  each-at : (ls : List (List (K × V))) (j : ℕ) → Each ls → All (slice_index_or ls j [])
  each-at [] zero a = tt
  each-at [] (suc j) a = tt
  each-at (l ∷ ls) zero a = a.0
  each-at (l ∷ ls) (suc j) a = each-at ls j a.1

  each-set : (ls : List (List (K × V))) (j : ℕ) (es : List (K × V)) → All es → Each ls → Each (slice_set ls j es)
  each-set [] zero es h a = a
  each-set [] (suc j) es h a = a
  each-set (l ∷ ls) zero es h a = (h, a.1)
  each-set (l ∷ ls) (suc j) es h a = (a.0, each-set ls j es h a.1)

  each-none : (ls : List (List (K × V))) → Each (map (λ _. []) ls)
  each-none [] = tt
  each-none (l ∷ ls) = (tt, each-none ls)

  each-by : (ls : List (List (K × V))) → ((j : ℕ) → j < length ls → All (slice_index_or ls j [])) → Each ls
  each-by [] h = tt
  each-by (l ∷ ls) h = (h 0 (omega arith), each-by ls (λ j q. h (suc j) (omega arith)))

  flat : (ls : List (List (K × V))) → Each ls → All (flat_map (λ l. l) ls)
  flat [] a = tt
  flat (l ∷ ls) a = both l (flat_map (λ x. x) ls) a.0 (flat ls a.1)

  unflat : (ls : List (List (K × V))) → All (flat_map (λ l. l) ls) → Each ls
  unflat [] a = tt
  unflat (l ∷ ls) a = let r = parts l (flat_map (λ x. x) ls) a in (r.0, unflat ls r.1)

  to-keys : (es : List (K × V)) → All es → AllByRecursion P (keys_of es)
  to-keys [] a = tt
  to-keys (e ∷ es) a = (a.0, to-keys es a.1)

  from-keys : (es : List (K × V)) → AllByRecursion P (keys_of es) → All es
  from-keys [] a = tt
  from-keys (e ∷ es) a = (a.0, from-keys es a.1)

  keys-to : (ls : List (List (K × V))) → Each ls → AllByRecursion P (keys_in ls)
  keys-to ls a = to-keys (flat_map (λ l. l) ls) (flat ls a)

  keys-from : (ls : List (List (K × V))) → AllByRecursion P (keys_in ls) → Each ls
  keys-from ls a = unflat ls (from-keys (flat_map (λ l. l) ls) a)

  module _ (eq : K → K → Bool) (number : ℕ → K → ℕ) (s t : List (List (K × V))) (a : Each s) where
    puts-each : (p : K × V) (x : Option (K × V)) → P p.0 → PutsPair number eq p x s t → Each t
    puts-each p None h m = subst Each (sym m.3) (each-set s (number (length s) p.0) _ (both (list_for number s p.0) (p ∷ []) (each-at s (number (length s) p.0) a) (h, tt)) a)
    puts-each p (Some x) h m =
        let rest = subst All m.2.1 (each-at s (number (length s) p.0) a) in
        subst Each (sym m.2.2) (each-set s (number (length s) p.0) _ (both m.2.0 (p ∷ []) rest.1 (h, tt)) a)

    moves-last : (k : K) (p q : K × V) → P q.0 → RefreshesAs number eq k p q s t → Each t
    moves-last k p q h m = subst Each (sym m.2) (each-set s (number (length s) k) _ (both (remove (list_for number s k) m.0) (q ∷ []) (all-remove (list_for number s k) m.0 (each-at s (number (length s) k) a)) (h, tt)) a)

    -- if P holds of each key before a refresh or a removal, it does after it
    refreshes-each : (k l : K) (w v : V) → RefreshesAs number eq k (l, w) (l, v) s t → Each t
    refreshes-each k l w v m = moves-last k (l, w) (l, v) (all-get (list_for number s k) m.0 (l, w) m.1.pair (each-at s (number (length s) k) a)) m

    takes-each : (k : K) (p : K × V) → TakesOut number eq k p s t → Each t
    takes-each k p m = subst Each (sym m.2) (each-set s (number (length s) k) _ (all-remove (list_for number s k) m.0 (each-at s (number (length s) k) a)) a)

module _ {K V : Type 0} (eq : K → K → Bool) (number : ℕ → K → ℕ) (route : K → ℕ) (i : ℕ) where
  moves-each : (s t : List (List (K × V))) (call : CacheCall K V) (reply : Reply K V) → Each (λ k. route k ≡ i) s → KeyRouted route i (cache_key call) → CacheMoves eq number s call reply t → Each (λ k. route k ≡ i) t
  moves-each s t (Put k v) (Evicted x) a h m = puts-each (λ k. route k ≡ i) eq number s t a (k, v) x h m
  moves-each s t (Put k v) (Exists l w) a h m = subst (Each (λ k. route k ≡ i)) (sym m.3) a
  moves-each s t (Get k) (Value None) a h m = subst (Each (λ k. route k ≡ i)) (sym m.1) a
  moves-each s t (Get k) (Value (Some v)) a h m = refreshes-each (λ k. route k ≡ i) eq number s t a k m.0 v v m.1
  moves-each s t (Write k v) (Old None) a h m = subst (Each (λ k. route k ≡ i)) (sym m.1) a
  moves-each s t (Write k v) (Old (Some w)) a h m = refreshes-each (λ k. route k ≡ i) eq number s t a k m.0 w v m.1
  moves-each s t (Replace k) (Key None) a h m = subst (Each (λ k. route k ≡ i)) (sym m.1) a
  moves-each s t (Replace k) (Key (Some l)) a h m = moves-last (λ k. route k ≡ i) eq number s t a k (l, m.0) (k, m.0) h m.1
  moves-each s t (Remove k) (Pair None) a h m = subst (Each (λ k. route k ≡ i)) (sym m.1) a
  moves-each s t (Remove k) (Pair (Some p)) a h m = takes-each (λ k. route k ≡ i) eq number s t a k p m
  moves-each s t (Read k) (Value None) a h m = subst (Each (λ k. route k ≡ i)) (sym m.1) a
  moves-each s t (Read k) (Value (Some v)) a h m = subst (Each (λ k. route k ≡ i)) (sym m.1) a
  moves-each s t (Contains k) (Has true) a h m = subst (Each (λ k. route k ≡ i)) (sym m.1) a
  moves-each s t (Contains k) (Has false) a h m = subst (Each (λ k. route k ≡ i)) (sym m.1) a
  moves-each s t Clear Cleared a h m = subst (Each (λ k. route k ≡ i)) (sym m) (each-none (λ k. route k ≡ i) s)
  moves-each s t Len (Count n) a h m = subst (Each (λ k. route k ≡ i)) (sym m.1) a
  moves-each s t call reply a h m = absurd m

  -- after a call whose key belongs to part i, all keys of the part belong to part i
  pub cache_call_keeps : (s t : List (List (K × V))) (call : CacheCall K V) (reply : Reply K V) → Routed route i (keys_in s) → KeyRouted route i (cache_key call) → CacheMoves eq number s call reply t → Routed route i (keys_in t)
  cache_call_keeps s t call reply a h m = keys-to (λ k. route k ≡ i) t (moves-each s t call reply (keys-from (λ k. route k ≡ i) s a) h m)

module _ {K V H : Type 0} (g : Setting H) (number : ℕ → K → ℕ) (route : K → ℕ) (i : ℕ) where
  -- after a resize of part i, all keys of the part belong to part i
  pub cache_resize_keeps : (s t : List (List (K × V))) (n : ℕ) → Routed route i (keys_in s) → CacheResizes g number s n t → Routed route i (keys_in t)
  cache_resize_keeps s t n a r =
      let P : K → Type 0 = λ k. route k ≡ i in
      keys-to P t (each-by P t (λ j l. subst (All P) (sym (r.lists j (omega (arith, r.count)))) (all-filter P (λ p. number n p.0 == j) (flat_map (λ l. l) s) (from-keys P (flat_map (λ l. l) s) a))))

each-empty : {K : Type 0} (V : Type 0) (P : K → Type 0) (b : ℕ) → Each {V = V} P (replicate b [])
each-empty V P zero = tt
each-empty V P (suc b) = (tt, each-empty V P b)

-- all keys of a part without pairs belong to part i
pub empty_keys : {K : Type 0} (V : Type 0) (route : K → ℕ) (i b : ℕ) → Routed route i (keys_in {V = V} (replicate b []))
empty_keys {K} V route i b = keys-to {V = V} (λ k. route k ≡ i) (replicate b []) (each-empty V (λ k. route k ≡ i) b)
