-- The calls of a cache as calls on its lists.
use Rattle.std.proofs.Common.{◌≡◌, ◌==◌, ◌∙◌, ℕ, ◌+◌, ◌*◌, ◌<◌, ◌≤◌, ◌⊎◌, inl, inr, Bool, true, false, List, [], length, Option, None, Some, Ok, Err, refl, sym, ap, subst, arith, length-set, eq-eqb, rules}
use Rattle.std.specs.List.{filter, flat_map}
use Rattle.std.proofs.lemmas.List.{length-map}
use Rattle.scc_common.specs.Routing.{bucket_number}
use Rattle.scc_buckets.specs.Bounded.{IsResized, HasListsOf, stays_wide, denied_narrow, narrows}
use Rattle.scc_table.specs.Bounded.{makes, has_room, is_full, stays, denied, doubles}
use Rattle.scc_common.specs.Contents.{Contents, Settings, entries, bucket_count, settings_of, minimum_of, list_of, lists_of}
use Rattle.scc_owned_cache.specs.CacheSteps.{AnswersOn, GrowsForPut, IsAbsent, IsPresent, IsPresentAt, ShrinksTo, Puts, Removes, TakesThen, Clears, list_number}
use Rattle.scc_owned_cache.specs.Caches.{Cached}
use Rattle.scc_owned_cache.specs.CacheSteps as steps
use Rattle.scc_owned_cache.specs.ListSteps.{IsThere, PutsPair, Refreshes, RefreshesAs, TakesOut}
use Rattle.std.specs.Prelude.{IsTrue, MatchOption}
use Rattle.std.specs.Borrow.{Bor}
use Rattle.std.specs.Fn.{Once}
use Rattle.scc_owned_cache.proofs.Caching.{shrunk-within}
use Rattle.scc_calls.specs.CacheCalls.{cache_setting, CacheMayRefuse, CacheMoves, CacheResizes}
use Rattle.scc_calls.specs.Resized.{MovesResized, Stays}
use Rattle.scc_calls.specs.declared.calls_as_values.CacheCall.TheVariants.{Put, Get, Write, Replace, Remove, Read, Contains, Clear, Len}
use Rattle.scc_calls.specs.declared.fixed.Setting.{Setting}
use Rattle.scc_calls.specs.declared.replies.Reply.TheVariants.{Evicted, Exists, Old, Key, Pair, Value, Has, Cleared, Count}
use Rattle.scc_common.specs.declared.errors.InsertError.TheVariants.{Memory}
use Rattle.scc_common.specs.declared.errors.InsertError.TheVariants as error

-- a state that is equal to the state before stays
pub stays-same : {X : Type 0} (R : List X → ℕ → List X → Type 0) (s t : List X) → t ≡ s → Stays length R s t
stays-same R s t e = subst (λ z. Stays length R s z) (sym e) (let y : (length s == length s) ≡ true = eq-eqb (length s) (length s) refl in rw y refl)

module _ {E H : Type 0} where
  pub same-setting : (c d : Cached E H) → settings_of d.contents ≡ settings_of c.contents → d.maximum ≡ c.maximum → cache_setting d ≡ cache_setting c
  same-setting c d e m =
      ap (λ (s : Settings H). let r : Setting H = record { hasher = s.hasher; skipped = s.skipped; minimum = s.asked + s.reserved; maximum = d.maximum } in r) e
      ∙ ap (λ x. let r : Setting H = record { hasher = (settings_of c.contents).hasher; skipped = (settings_of c.contents).skipped; minimum = (settings_of c.contents).asked + (settings_of c.contents).reserved; maximum = x } in r) m

  lists-same : (c d : Contents E H) → HasListsOf c d → lists_of d ≡ lists_of c
  lists-same c d k = k.lists

  -- a growth for a new pair leaves the lists, or makes more of them
  pub grown : (hash : E → ℕ) (i : ℕ) (c d : Cached E H) → GrowsForPut hash i c d → (lists_of d.contents ≡ lists_of c.contents) ⊎ ((bucket_count c.contents < bucket_count d.contents) × IsResized hash c.contents d.contents)
  grown hash i c d g = elim g.grows [
    | makes none size noted r ↦ inr (let l = r.array.least in omega arith, r)
    | has_room some room e ↦ inl (ap lists_of e)
    | is_full some full ds ↦ elim ds [
      | stays due e ↦ inl (ap lists_of e)
      | denied due up k ↦ inl (lists-same c.contents d.contents k)
      | doubles due untried down twice r ↦ inr (omega arith, r)
    ]
  ]

  -- a shrink leaves the lists, or makes fewer of them but not below the minimum
  shrunk : (hash : E → ℕ) (c d : Cached E H) → ShrinksTo hash c d → (lists_of d.contents ≡ lists_of c.contents) ⊎ ((bucket_count d.contents < bucket_count c.contents) × (minimum_of c.contents ≤ 32 * bucket_count d.contents) × IsResized hash c.contents d.contents)
  shrunk hash c d s = elim s.shrinks [
    | stays_wide due e ↦ inl (ap lists_of e)
    | denied_narrow n smaller up marked k ↦ inl (lists-same c.contents d.contents k)
    | narrows smaller least down marked r ↦ inr (smaller.fewer, least, r)
  ]

module _ {K V : Type 0} (eq : K → K → Bool) where
  pub puts-length : (number : ℕ → K → ℕ) (p : K × V) (x : Option (K × V)) (s t : List (List (K × V))) → PutsPair number eq p x s t → length t ≡ length s
  puts-length number p None s t h = ap length h.3 ∙ length-set s (number (length s) p.0) _
  puts-length number p (Some x) s t h = ap length h.2.2 ∙ length-set s (number (length s) p.0) _

  pub takes-length : (number : ℕ → K → ℕ) (k : K) (p : K × V) (s t : List (List (K × V))) → TakesOut number eq k p s t → length t ≡ length s
  takes-length number k p s t h = ap length h.2 ∙ length-set s (number (length s) k) _

module _ {K V H : Type 0} (hash : K → ℕ) where
  -- a resize of the table is a resize of the lists, under the setting of the cache before the call
  pub resized : (o c d : Cached (K × V) H) → settings_of c.contents ≡ settings_of o.contents → c.maximum ≡ o.maximum → IsResized (λ e. hash e.0) c.contents d.contents → ((i : ℕ) → length (list_of d.contents i) ≤ 32) → 32 * bucket_count d.contents ≤ c.maximum
      → (bucket_count d.contents < bucket_count c.contents → minimum_of c.contents ≤ 32 * bucket_count d.contents)
      → CacheResizes (cache_setting o) (list_number hash o.contents) (lists_of c.contents) (bucket_count d.contents) (lists_of d.contents)
  unfolding bucket_count lists_of list_of entries
  resized o c d e m r short within least = record {
    count = refl;
    lawful = r.array;
    lists = λ i l. r.lists.each i l ∙ ap (λ s. filter (λ p. bucket_number s.skipped (length d.contents.lists) (hash p.0) == i) (flat_map (λ l. l) c.contents.lists)) e;
    short = short;
    within = subst (λ x. 32 * length d.contents.lists ≤ x) m within;
    minimum = λ less. subst (λ s. s.asked + s.reserved ≤ 32 * length d.contents.lists) e (least less);
  }

  module _ (eq : K → K → Bool) where
    -- a put of a new key is a call on the lists
    pub put-changes : (c d : Cached (K × V) H) (k : K) (v : V) (x : Option (K × V)) → Puts hash eq c (k, v) (Ok x) d → 32 * bucket_count d.contents ≤ d.maximum
        → MovesResized length (CacheMoves eq (list_number hash c.contents)) (CacheResizes (cache_setting c) (list_number hash c.contents)) (lists_of c.contents) (Put k v) (Evicted x) (lists_of d.contents)
    unfolding bucket_count lists_of
    put-changes c d k v x h within =
        let number : ℕ → K → ℕ = list_number hash c.contents in
        let g = h.1.0 in
        let grows = h.1.1 in
        let puts = h.1.2 in
        let size = puts-length eq number (k, v) x (lists_of g.contents) (lists_of d.contents) puts.lists in
        elim (grown (λ e. hash e.0) _ c g grows) as (λ _. MovesResized length (CacheMoves eq number) (CacheResizes (cache_setting c) number) (lists_of c.contents) (Put k v) (Evicted x) (lists_of d.contents)) [
          | inl e ↦ inl (size ∙ ap length e, subst (λ s. PutsPair number eq (k, v) x s (lists_of d.contents)) e puts.lists)
          | inr r ↦ inr (inl (
            omega (arith, r.0),
            (
              lists_of g.contents,
              subst (λ n. CacheResizes (cache_setting c) number (lists_of c.contents) n (lists_of g.contents)) (sym size) (resized c c g refl refl r.1 grows.listed.short (let m = puts.maximum in let n = grows.maximum in omega arith) (λ less. absurd (omega (arith, r.0)))),
              puts.lists,
            ),
          ))
        ]

    -- a removal is a call on the lists
    pub takes-changes : (c d : Cached (K × V) H) (k : K) (p : K × V) → TakesThen hash eq c k p d → ((i : ℕ) → length (list_of d.contents i) ≤ 32) → 32 * bucket_count d.contents ≤ d.maximum
        → MovesResized length (CacheMoves eq (list_number hash c.contents)) (CacheResizes (cache_setting c) (list_number hash c.contents)) (lists_of c.contents) (Remove k) (Pair (Some p)) (lists_of d.contents)
    unfolding bucket_count lists_of
    takes-changes c d k p h short within =
        let number : ℕ → K → ℕ = list_number hash c.contents in
        let left = h.0 in
        let takes = h.1 in
        let size = takes-length eq number k p (lists_of c.contents) (lists_of left.contents) takes.lists in
        elim (shrunk (λ e. hash e.0) left d h.2) as (λ _. MovesResized length (CacheMoves eq number) (CacheResizes (cache_setting c) number) (lists_of c.contents) (Remove k) (Pair (Some p)) (lists_of d.contents)) [
          | inl e ↦ inl (ap length e ∙ size, subst (λ s. TakesOut number eq k p (lists_of c.contents) s) (sym e) takes.lists)
          | inr r ↦ inr (inr (omega (arith, r.0), (lists_of left.contents, takes.lists, resized c left d takes.settings takes.maximum r.2 short (let m = h.2.maximum in omega arith) (λ less. r.1))))
        ]

    pub clear-changes : (c d : Cached (K × V) H) → Clears hash c d → ((i : ℕ) → length (list_of d.contents i) ≤ 32) → 32 * bucket_count d.contents ≤ d.maximum
        → MovesResized length (CacheMoves eq (list_number hash c.contents)) (CacheResizes (cache_setting c) (list_number hash c.contents)) (lists_of c.contents) Clear Cleared (lists_of d.contents)
    unfolding bucket_count lists_of
    clear-changes c d h short within =
        let number : ℕ → K → ℕ = list_number hash c.contents in
        let left = h.0 in
        let change = h.1 in
        let size : length (lists_of left.contents) ≡ length (lists_of c.contents) = ap length change.lists ∙ length-map (lists_of c.contents) (λ _. []) in
        elim (shrunk (λ e. hash e.0) left d h.2) as (λ _. MovesResized length (CacheMoves eq number) (CacheResizes (cache_setting c) number) (lists_of c.contents) Clear Cleared (lists_of d.contents)) [
          | inl e ↦ inl (ap length e ∙ size, e ∙ change.lists)
          | inr r ↦ inr (inr (omega (arith, r.0), (lists_of left.contents, change.lists, resized c left d change.settings change.maximum r.2 short (let m = h.2.maximum in omega arith) (λ less. r.1))))
        ]

    -- a put of a key that is there is a call on the lists
    pub exists-changes : (c d : Cached (K × V) H) (k : K) (v : V) (q : K × V) → Puts hash eq c (k, v) (Err (error.Exists q)) d
        → MovesResized length (CacheMoves eq (list_number hash c.contents)) (CacheResizes (cache_setting c) (list_number hash c.contents)) (lists_of c.contents) (Put k v) (Exists q.0 q.1) (lists_of d.contents)
    exists-changes c d k v q h = let e = ap (λ x. lists_of x.contents) h.2 in inl (ap length e, (ap (λ (p : K × V). p.0) h.0, ap (λ (p : K × V). p.1) h.0, (h.1.0, h.1.1.0, h.1.1.1), e))

    pub memory-refused : (c d : Cached (K × V) H) (k : K) (v : V) (q : K × V) → Puts hash eq c (k, v) (Err (Memory q)) d → CacheMayRefuse eq (list_number hash c.contents) (lists_of c.contents) (Put k v)
    unfolding bucket_count lists_of
    memory-refused c d k v q h = (h.1, h.2)

    pub remove-changes : (c d : Cached (K × V) H) (k : K) (o : Option (K × V)) → Removes hash eq c k o d → ((i : ℕ) → length (list_of d.contents i) ≤ 32) → 32 * bucket_count d.contents ≤ d.maximum
        → MovesResized length (CacheMoves eq (list_number hash c.contents)) (CacheResizes (cache_setting c) (list_number hash c.contents)) (lists_of c.contents) (Remove k) (Pair o) (lists_of d.contents)
    remove-changes c d k None h short within = let e = ap (λ x. lists_of x.contents) h.1 in inl (ap length e, (h.0, e))
    remove-changes c d k (Some p) h short within = takes-changes c d k p h short within

    -- no call changes the setting
    pub takes-setting : (c d : Cached (K × V) H) (k : K) (p : K × V) → TakesThen hash eq c k p d → cache_setting d ≡ cache_setting c
    takes-setting c d k p h = same-setting c d ((shrunk-within (λ e. hash e.0) h.0.contents d.contents h.2.shrinks).1 ∙ h.1.settings) (h.2.maximum ∙ h.1.maximum)

    pub remove-setting : (c d : Cached (K × V) H) (k : K) (o : Option (K × V)) → Removes hash eq c k o d → cache_setting d ≡ cache_setting c
    remove-setting c d k None h = ap cache_setting h.1
    remove-setting c d k (Some p) h = takes-setting c d k p h

    pub clear-setting : (c d : Cached (K × V) H) → Clears hash c d → cache_setting d ≡ cache_setting c
    clear-setting c d h = same-setting c d ((shrunk-within (λ e. hash e.0) h.0.contents d.contents h.2.shrinks).1 ∙ h.1.settings) (h.2.maximum ∙ h.1.maximum)

    pub put-setting : (c d : Cached (K × V) H) (k : K) (v : V) (x : Option (K × V)) → Puts hash eq c (k, v) (Ok x) d → cache_setting d ≡ cache_setting c
    put-setting c d k v x h = same-setting c d (h.1.2.settings ∙ h.1.1.settings) (h.1.2.maximum ∙ h.1.1.maximum)

    -- a look-up is a call on the lists
    pub contains-changes : (c : Cached (K × V) H) (k : K) (b : Bool) → (IsTrue b → (p : K × V) × IsPresent hash eq c.contents k p) → ((IsTrue b → ⊥) → IsAbsent hash eq c.contents k)
        → MovesResized length (CacheMoves eq (list_number hash c.contents)) (CacheResizes (cache_setting c) (list_number hash c.contents)) (lists_of c.contents) (Contains k) (Has b) (lists_of c.contents)
    contains-changes c k true there none = let yes_it : IsTrue true = search rules in let y = there yes_it in inl (refl, ((y.0, y.1.0, y.1.1), refl))
    contains-changes c k false there none = let never : IsTrue false → ⊥ = search rules in inl (refl, (none never, refl))

    pub read-changes : {F : Type 0} (g : Once F (Bor K × (Bor V × Unit {0})) V) (f : F) (c : Cached (K × V) H) (k : K) (r : Option V) → MatchOption r (IsAbsent hash eq c.contents k) (AnswersOn hash eq g f c.contents k)
        → ((a : Bor K) (b : Bor V) (x : V) → g.post f (a, (b, tt)) x → x ≡ b.now)
        → MovesResized length (CacheMoves eq (list_number hash c.contents)) (CacheResizes (cache_setting c) (list_number hash c.contents)) (lists_of c.contents) (Read k) (Value r) (lists_of c.contents)
    read-changes g f c k None m reads = inl (refl, (m, refl))
    read-changes g f c k (Some x) m reads =
        let is : m.value.now ≡ x = sym (reads m.key m.value x m.met) in
        inl (refl, ((m.key.now, m.shows.0, subst (λ y. IsThere (list_number hash c.contents) eq (lists_of c.contents) k m.shows.0 (m.key.now, y)) is m.shows.1), refl))

    pub len-changes : (c : Cached (K × V) H) (n : ℕ) → n ≡ length (entries c.contents)
        → MovesResized length (CacheMoves eq (list_number hash c.contents)) (CacheResizes (cache_setting c) (list_number hash c.contents)) (lists_of c.contents) Len (Count n) (lists_of c.contents)
    unfolding entries lists_of
    len-changes c n e = inl (refl, (e, refl))

    -- a get that finds its key is a call on the lists
    pub get-moves : (c d : Cached (K × V) H) (k : K) (p : K × V) (v : V) → v ≡ p.1 → steps.ChangesLists (Refreshes (list_number hash c.contents) eq k p) c d → CacheMoves eq (list_number hash c.contents) (lists_of c.contents) (Get k) (Value (Some v)) (lists_of d.contents)
    get-moves c d k p v is h = (p.0, subst (λ x. Refreshes (list_number hash c.contents) eq k (p.0, x) (lists_of c.contents) (lists_of d.contents)) (sym is) h.lists)

    pub get-changes : (c d : Cached (K × V) H) (k : K) (p : K × V) (v : V) → v ≡ p.1 → steps.ChangesLists (Refreshes (list_number hash c.contents) eq k p) c d
        → MovesResized length (CacheMoves eq (list_number hash c.contents)) (CacheResizes (cache_setting c) (list_number hash c.contents)) (lists_of c.contents) (Get k) (Value (Some v)) (lists_of d.contents)
    get-changes c d k p v is h = inl (ap length h.lists.2 ∙ length-set (lists_of c.contents) _ _, get-moves c d k p v is h)

    -- a write of a value is a call on the lists
    pub write-moves : (c d : Cached (K × V) H) (k : K) (p : K × V) (w v : V) → w ≡ p.1 → steps.ChangesLists (RefreshesAs (list_number hash c.contents) eq k p (p.0, v)) c d
        → CacheMoves eq (list_number hash c.contents) (lists_of c.contents) (Write k v) (Old (Some w)) (lists_of d.contents)
    write-moves c d k p w v is h = (p.0, subst (λ x. RefreshesAs (list_number hash c.contents) eq k (p.0, x) (p.0, v) (lists_of c.contents) (lists_of d.contents)) (sym is) h.lists)

    pub write-changes : (c d : Cached (K × V) H) (k : K) (p : K × V) (w v : V) → w ≡ p.1 → steps.ChangesLists (RefreshesAs (list_number hash c.contents) eq k p (p.0, v)) c d
        → MovesResized length (CacheMoves eq (list_number hash c.contents)) (CacheResizes (cache_setting c) (list_number hash c.contents)) (lists_of c.contents) (Write k v) (Old (Some w)) (lists_of d.contents)
    write-changes c d k p w v is h = inl (ap length h.lists.2 ∙ length-set (lists_of c.contents) _ _, write-moves c d k p w v is h)

    -- a replacement of a key is a call on the lists
    pub replace-moves : (c d : Cached (K × V) H) (k l : K) (v : V) (q : K × V) → q ≡ (k, v) → steps.ChangesLists (RefreshesAs (list_number hash c.contents) eq k (l, v) q) c d
        → CacheMoves eq (list_number hash c.contents) (lists_of c.contents) (Replace k) (Key (Some l)) (lists_of d.contents)
    replace-moves c d k l v q is h = (v, subst (λ x. RefreshesAs (list_number hash c.contents) eq k (l, v) x (lists_of c.contents) (lists_of d.contents)) is h.lists)

    pub replace-changes : (c d : Cached (K × V) H) (k l : K) (v : V) (q : K × V) → q ≡ (k, v) → steps.ChangesLists (RefreshesAs (list_number hash c.contents) eq k (l, v) q) c d
        → MovesResized length (CacheMoves eq (list_number hash c.contents)) (CacheResizes (cache_setting c) (list_number hash c.contents)) (lists_of c.contents) (Replace k) (Key (Some l)) (lists_of d.contents)
    replace-changes c d k l v q is h = inl (ap length h.lists.2 ∙ length-set (lists_of c.contents) _ _, replace-moves c d k l v q is h)
