-- The replies of a cache's calls from its lists, and how many lists a call leaves.
use Rattle.std.proofs.Common.{◌≡◌, ◌∙◌, ℕ, ◌<◌, ◌≤◌, inl, inr, nat_lt, Bool, true, false, cond, List, [], length, Option, None, Some, Ok, refl, sym, ap, subst, arith, length-set, rules}
use Rattle.std.specs.Cmp.{IsPartialEquivalence}
use Rattle.std.specs.Prelude.{IsTrue, is_some, slice_get}
use Rattle.std.specs.List.{flat_map, position}
use Rattle.std.specs.Option.{option_map}
use Rattle.std.proofs.lemmas.List.{length-map}
use Rattle.scc_common.specs.Contents.{Contents, bucket_count, entries, list_of, lists_of}
use Rattle.scc_buckets.proofs.Lookups.{find-position}
use Rattle.scc_owned_cache.specs.CacheSteps as steps
use Rattle.scc_owned_cache.specs.CacheSteps.{Clears, DrivesNoneOut, DrivesOut, IsAbsent, IsPresent, IsPreparedForPut, Puts, Removes, list_number, pair_of}
use Rattle.scc_owned_cache.specs.Caches.{Cached}
use Rattle.scc_owned_cache.specs.ListSteps.{list_for, pair_for, IsMissing, IsThere, PutsPair, RefreshesAs}
use Rattle.scc_owned_cache.proofs.Caching.{list-is, shrunk-within}
use Rattle.scc_owned_cache.proofs.Found.{missing-found, there-found}
use Rattle.scc_calls.specs.CacheCalls.{cache_answer, cache_setting, first_of_full, CacheIsMade, CacheMoves, CacheResizes}
use Rattle.scc_calls.specs.Resized.{MovesResized}
use Rattle.scc_calls.specs.Copies.{Answers, ClonesEqual}
use Rattle.scc_calls.specs.Means.{answered}
use Rattle.scc_calls.specs.Stems.{CacheStems}
use Rattle.scc_calls.specs.declared.calls_as_values.CacheCall.{CacheCall}
use Rattle.scc_calls.specs.declared.calls_as_values.CacheCall.TheVariants.{Put, Get, Write, Replace, Remove, Read, Contains, Clear, Len}
use Rattle.scc_calls.specs.declared.replies.Reply.{Reply}
use Rattle.scc_calls.specs.declared.replies.Reply.TheVariants.{Evicted, Exists, Old, Key, Pair, Value, Has, Cleared, Count}
use Rattle.scc_calls.proofs.Copying.{equal-copies}
use Rattle.scc_calls.proofs.CacheCalls.{grown, puts-length, takes-length}

module _ {X : Type 0} (l : List X) where
  -- a put into a list with room evicts no pair, and a put into a full list evicts its first pair
  pub roomy-none : length l < 32 → first_of_full l ≡ None
  roomy-none h = let z : nat_lt (length l) 32 ≡ true = search rules in ap (λ b. cond b None (slice_get l 0)) z

  pub full-first : 32 ≤ length l → first_of_full l ≡ slice_get l 0
  full-first h = let z : nat_lt (length l) 32 ≡ false = search rules in ap (λ b. cond b None (slice_get l 0)) z

by_number : {P : Type 0} (o : Option ℕ) → ((i : ℕ) → o ≡ Some i → P) → (o ≡ None → P) → P
by_number (Some i) f n = f i refl
by_number None f n = n refl

module _ {K V : Type 0} (eq : K → K → Bool) (number : ℕ → K → ℕ) where
  put-missing : (p : K × V) (x : Option (K × V)) (s t : List (List (K × V))) → PutsPair number eq p x s t → IsMissing number eq s p.0
  put-missing p None s t h = h.0
  put-missing p (Some y) s t h = h.0

  put-first : (p : K × V) (x : Option (K × V)) (s t : List (List (K × V))) → PutsPair number eq p x s t → first_of_full (list_for number s p.0) ≡ x
  put-first p None s t h = roomy-none (list_for number s p.0) h.2
  put-first p (Some y) s t h = full-first (list_for number s p.0) h.1 ∙ ap (λ (l : List (K × V)). slice_get l 0) h.2.1

  -- a call gives the reply that `cache_answer` reads from its lists
  pub moves-answer : (s t : List (List (K × V))) (call : CacheCall K V) (reply : Reply K V) → CacheMoves eq number s call reply t → cache_answer eq number s call ≡ reply
  moves-answer s t (Put k v) (Evicted x) m =
      ap (λ (o : Option (K × V)). cond (is_some o) (Exists k v) (Evicted (first_of_full (list_for number s k)))) (missing-found number eq s k (put-missing (k, v) x s t m)) ∙ ap (λ (o : Option (K × V)). let r : Reply K V = Evicted o in r) (put-first (k, v) x s t m)
  moves-answer s t (Put k v) (Exists l w) m =
      let a : l ≡ k = m.0 in
      let b : w ≡ v = m.1 in
      ap (λ (o : Option (K × V)). cond (is_some o) (Exists k v) (Evicted (first_of_full (list_for number s k)))) (there-found number eq s k m.2.1 m.2.0 m.2.2) ∙ (let e : Exists k v ≡ Exists l w = cc in e)
  moves-answer s t (Get k) (Value None) m = ap (λ (o : Option (K × V)). let r : Reply K V = Value (option_map (λ p. p.1) o) in r) (missing-found number eq s k m.0)
  moves-answer s t (Get k) (Value (Some v)) m = ap (λ (o : Option (K × V)). let r : Reply K V = Value (option_map (λ p. p.1) o) in r) (there-found number eq s k m.1.0 (m.0, v) m.1.1)
  moves-answer s t (Write k v) (Old None) m = ap (λ (o : Option (K × V)). let r : Reply K V = Old (option_map (λ p. p.1) o) in r) (missing-found number eq s k m.0)
  moves-answer s t (Write k v) (Old (Some w)) m = ap (λ (o : Option (K × V)). let r : Reply K V = Old (option_map (λ p. p.1) o) in r) (there-found number eq s k m.1.0 (m.0, w) m.1.1)
  moves-answer s t (Replace k) (Key None) m = ap (λ (o : Option (K × V)). let r : Reply K V = Key (option_map (λ p. p.0) o) in r) (missing-found number eq s k m.0)
  moves-answer s t (Replace k) (Key (Some l)) m = ap (λ (o : Option (K × V)). let r : Reply K V = Key (option_map (λ p. p.0) o) in r) (there-found number eq s k m.1.0 (l, m.0) m.1.1)
  moves-answer s t (Remove k) (Pair None) m = ap (λ (o : Option (K × V)). let r : Reply K V = Pair o in r) (missing-found number eq s k m.0)
  moves-answer s t (Remove k) (Pair (Some p)) m = ap (λ (o : Option (K × V)). let r : Reply K V = Pair o in r) (there-found number eq s k m.0 p m.1)
  moves-answer s t (Read k) (Value None) m = ap (λ (o : Option (K × V)). let r : Reply K V = Value (option_map (λ p. p.1) o) in r) (missing-found number eq s k m.0)
  moves-answer s t (Read k) (Value (Some v)) m = ap (λ (o : Option (K × V)). let r : Reply K V = Value (option_map (λ p. p.1) o) in r) (there-found number eq s k m.0.1 (m.0.0, v) m.0.2)
  moves-answer s t (Contains k) (Has true) m = ap (λ (o : Option (K × V)). let r : Reply K V = Has (is_some o) in r) (there-found number eq s k m.0.1 m.0.0 m.0.2)
  moves-answer s t (Contains k) (Has false) m = ap (λ (o : Option (K × V)). let r : Reply K V = Has (is_some o) in r) (missing-found number eq s k m.0)
  moves-answer s t Clear Cleared m = refl
  moves-answer s t Len (Count n) m = ap (λ x. let r : Reply K V = Count x in r) (sym m.0)
  moves-answer s t call reply m = absurd m

  -- a call with a resize also gives the reply of `cache_answer`, unless the resize is a growth
  pub changes-answer : (R : List (List (K × V)) → ℕ → List (List (K × V)) → Type 0) (s t : List (List (K × V))) (call : CacheCall K V) (reply : Reply K V) → length t ≤ length s → MovesResized length (CacheMoves eq number) R s call reply t → cache_answer eq number s call ≡ reply
  changes-answer R s t call reply less (inl c) = moves-answer s t call reply c.1
  changes-answer R s t call reply less (inr (inl c)) = absurd (let more = c.0 in omega arith)
  changes-answer R s t call reply less (inr (inr c)) = moves-answer s c.1.0 call reply c.1.1

  -- a key is there, or is missing
  pub by_place : {P : Type 0} (s : List (List (K × V))) (k : K) → ((i : ℕ) (p : K × V) → IsThere number eq s k i p → P) → (IsMissing number eq s k → P) → P
  by_place s k f n =
      by_number (position (λ p. eq k p.0) (list_for number s k))
      (λ i e. let q = find-position (eq k) (list_for number s k) i e in f i q.0 record { first = e; pair = q.1 })
      n

  -- a read returns the value of the pair that a look-up finds
  pub read-moves : (s : List (List (K × V))) (k : K) → CacheMoves eq number s (Read k) (Value (option_map (λ p. p.1) (pair_for number eq s k))) s
  read-moves s k =
      let P : Option (K × V) → Type 0 = λ o. CacheMoves eq number s (Read k) (Value (option_map (λ p. p.1) o)) s in
      by_place s k
      (λ i p at. subst P (sym (there-found number eq s k i p at)) ((p.0, i, at), refl))
      (λ none. subst P (sym (missing-found number eq s k none)) (none, refl))

module _ {K V H : Type 0} (hash : K → ℕ) (eq : K → K → Bool) (c d : Cached (K × V) H) where
  -- a put doesn't lessen the number of lists
  pub put-more : (k : K) (v : V) (x : Option (K × V)) → Puts hash eq c (k, v) (Ok x) d → length (lists_of c.contents) ≤ length (lists_of d.contents)
  unfolding bucket_count lists_of
  put-more k v x h =
      let size = puts-length eq (list_number hash c.contents) (k, v) x (lists_of h.1.0.contents) (lists_of d.contents) h.1.2.lists in
      elim (grown (λ e. hash e.0) _ c h.1.0 h.1.1) as (λ _. length (lists_of c.contents) ≤ length (lists_of d.contents)) [
        | inl e ↦ let n = ap length e in omega arith
        | inr r ↦ let l = r.0 in omega arith
      ]

  -- a put doesn't add lists if its preparation is made
  pub put-once : (k : K) (v : V) (x : Option (K × V)) → Puts hash eq c (k, v) (Ok x) d → (IsPreparedForPut hash c k → bucket_count d.contents ≡ bucket_count c.contents) → CacheIsMade eq hash c (Put k v) → length (lists_of d.contents) ≤ length (lists_of c.contents)
  unfolding bucket_count lists_of
  put-once k v x h once (inl p) = absurd (let z : None ≡ Some p.1.0 = sym h.0 ∙ p.1.1.first in cc)
  put-once k v x h once (inr ready) = let e = once ready in omega arith

  -- a removal doesn't add lists
  pub remove-less : (k : K) (o : Option (K × V)) → Removes hash eq c k o d → length (lists_of d.contents) ≤ length (lists_of c.contents)
  unfolding bucket_count lists_of
  remove-less k None h = let e = ap (λ x. length (lists_of x.contents)) h.1 in omega arith
  remove-less k (Some p) h =
      let size = takes-length eq (list_number hash c.contents) k p (lists_of c.contents) (lists_of h.0.contents) h.1.lists in
      let less = (shrunk-within (λ e. hash e.0) h.0.contents d.contents h.2.shrinks).0 in
      omega arith

  pub clear-less : Clears hash c d → length (lists_of d.contents) ≤ length (lists_of c.contents)
  unfolding bucket_count lists_of
  clear-less h =
      let size : length (lists_of h.0.contents) ≡ length (lists_of c.contents) = ap length h.1.lists ∙ length-map (lists_of c.contents) (λ _. []) in
      let less = (shrunk-within (λ e. hash e.0) h.0.contents d.contents h.2.shrinks).0 in
      omega arith

  -- a pair that moves within its list leaves the number of lists
  pub refresh-same : (k : K) (p q : K × V) → steps.ChangesLists (RefreshesAs (list_number hash c.contents) eq k p q) c d → length (lists_of d.contents) ≡ length (lists_of c.contents)
  refresh-same k p q h = ap length h.lists.2 ∙ length-set (lists_of c.contents) _ _

module _ {K V S : Type 0} (hash : K → ℕ) (eq : K → K → Bool) (c : Contents (K × V) S) (k : K) where
  -- the pair that a put would evict
  pub drives-out : (p : K × V) → DrivesOut hash eq c k p → first_of_full (list_of c (list_number hash c (bucket_count c) k)) ≡ Some p
  drives-out p h = full-first (list_of c (list_number hash c (bucket_count c) k)) h.full ∙ h.first

  pub drives-none : IsAbsent hash eq c k → DrivesNoneOut hash eq c k → first_of_full (list_of c (list_number hash c (bucket_count c) k)) ≡ None
  drives-none absent (inl p) = absurd (let z : None ≡ Some p.1.0 = sym absent ∙ p.1.1.first in cc)
  drives-none absent (inr room) = roomy-none (list_of c (list_number hash c (bucket_count c) k)) room

  -- the list of the key
  pub list-here : list_for (list_number hash c) (lists_of c) k ≡ list_of c (list_number hash c (bucket_count c) k)
  list-here = sym (list-is eq (list_number hash c) c k (list_number hash c (bucket_count c) k) refl)

module _ {K V S : Type 0} (hash : K → ℕ) (eq : K → K → Bool) (c : Contents (K × V) S) (k : K) where
  -- the replies to a put of a new key, and to a put of a key that is there
  pub put-new : (v : V) → IsAbsent hash eq c k → cache_answer eq (list_number hash c) (lists_of c) (Put k v) ≡ Evicted (first_of_full (list_of c (list_number hash c (bucket_count c) k)))
  put-new v absent =
      ap (λ (o : Option (K × V)). cond (is_some o) (Exists k v) (Evicted (first_of_full (list_for (list_number hash c) (lists_of c) k)))) (missing-found (list_number hash c) eq (lists_of c) k absent)
      ∙ ap (λ (l : List (K × V)). let r : Reply K V = Evicted (first_of_full l) in r) (list-here hash eq c k)

  pub put-there : (v : V) → (p : K × V) × IsPresent hash eq c k p → cache_answer eq (list_number hash c) (lists_of c) (Put k v) ≡ Exists k v
  put-there v p = ap (λ (o : Option (K × V)). cond (is_some o) (Exists k v) (Evicted (first_of_full (list_for (list_number hash c) (lists_of c) k)))) (there-found (list_number hash c) eq (lists_of c) k p.1.0 p.0 p.1.1)

  -- a look-up tells if the key is there
  pub told-there : (b : Bool) → (IsTrue b → (p : K × V) × IsPresent hash eq c k p) → ((IsTrue b → ⊥) → IsAbsent hash eq c k) → is_some (pair_of hash eq c k) ≡ b
  told-there true there none = let y : IsTrue true = search rules in let p = there y in ap (λ (o : Option (K × V)). is_some o) (there-found (list_number hash c) eq (lists_of c) k p.1.0 p.0 p.1.1)
  told-there false there none = let never : IsTrue false → ⊥ = search rules in ap (λ (o : Option (K × V)). is_some o) (missing-found (list_number hash c) eq (lists_of c) k (none never))

pub count-lists : {E S : Type 0} (c : Contents E S) → length (flat_map (λ l. l) (lists_of c)) ≡ length (entries c)
unfolding entries lists_of
count-lists c = refl

-- a move to some lists is a move to equal lists
pub moves-same : {K V : Type 0} (eq : K → K → Bool) (number : ℕ → K → ℕ) (s t u : List (List (K × V))) (call : CacheCall K V) (reply : Reply K V) → CacheMoves eq number s call reply t → u ≡ t → CacheMoves eq number s call reply u
moves-same eq number s t u call reply m same = subst (λ x. CacheMoves eq number s call reply x) (sym same) m

-- a call that was made, and a reply that stems from the call's own reply
pub answers-own : {K V H : Type 0} (clone : V → V → Type 0) (hash : K → ℕ) (eq : K → K → Bool) (c d : Cached (K × V) H) (call own : CacheCall K V) → call ≡ own → (given reply : Reply K V) → CacheStems clone own given reply
    → MovesResized length (CacheMoves eq (list_number hash c.contents)) (CacheResizes (cache_setting c) (list_number hash c.contents)) (lists_of c.contents) own given (lists_of d.contents)
    → MovesResized length (Answers (CacheStems clone) (CacheMoves eq (list_number hash c.contents))) (CacheResizes (cache_setting c) (list_number hash c.contents)) (lists_of c.contents) call reply (lists_of d.contents)
answers-own {K = K} clone hash eq c d call own is given reply from raw =
    let number : ℕ → K → ℕ = list_number hash c.contents in
    rw is (answered (CacheStems clone) (CacheMoves eq number) length (CacheResizes (cache_setting c) number) (lists_of c.contents) (lists_of d.contents) own given reply from raw)

-- a call that was made, and the copies of its reply
module _ {K V H : Type 0} {clone : Reply K V → Reply K V → Type 0} {replies : Reply K V → Reply K V → Bool} (clones : ClonesEqual clone replies) (hash : K → ℕ) (eq : K → K → Bool) (c d : Cached (K × V) H) (call own : CacheCall K V) (is : call ≡ own) (made : Reply K V)
    (raw : MovesResized length (CacheMoves eq (list_number hash c.contents)) (CacheResizes (cache_setting c) (list_number hash c.contents)) (lists_of c.contents) own made (lists_of d.contents)) where
  -- a copy that is equal to the reply of `cache_answer` is equal to the call's own reply
  pub answers-made : (copy : Reply K V) → length (lists_of d.contents) ≤ length (lists_of c.contents) → replies (cache_answer eq (list_number hash c.contents) (lists_of c.contents) call) copy ≡ true → replies made copy ≡ true
  answers-made copy less asked =
      let number : ℕ → K → ℕ = list_number hash c.contents in
      let given : cache_answer eq number (lists_of c.contents) call ≡ made = ap (cache_answer eq number (lists_of c.contents)) is ∙ changes-answer eq number (CacheResizes (cache_setting c) number) (lists_of c.contents) (lists_of d.contents) own made less raw in
      subst (λ r. replies r copy ≡ true) given asked

  -- such a copy is equal to each other copy of the call's own reply
  pub answers-given : IsPartialEquivalence replies → (given copy : Reply K V) → replies made given ≡ true → length (lists_of d.contents) ≤ length (lists_of c.contents) → replies (cache_answer eq (list_number hash c.contents) (lists_of c.contents) call) copy ≡ true → replies given copy ≡ true
  answers-given laws given copy same less asked = equal-copies clones laws made given copy same (answers-made copy less asked)
