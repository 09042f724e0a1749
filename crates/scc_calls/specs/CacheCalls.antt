-- What the calls of a cache do to its lists, by the reply. The state of a cache is its lists, each from the least to
-- the most recent pair.
use Rattle.std.specs.Prelude.{◌≡◌, ◌==◌, ℕ, ◌+◌, ◌*◌, ◌<◌, ◌≤◌, ◌⊎◌, nat_lt, Bool, true, false, cond, List, [], length, map, Option, None, Some, MatchOption, is_some, slice_get}
use Rattle.std.specs.List.{filter, flat_map, slice_index_or}
use Rattle.std.specs.Option.{option_map}
use Rattle.std.specs.Map.{keys_of}
use Rattle.scc_buckets.specs.declared.place.Place.{Place}
use Rattle.scc_common.specs.Contents.{lists_of, settings_of}
use Rattle.scc_common.specs.Routing.{bucket_number}
use Rattle.scc_common.specs.Sizes.{IsBucketCount}
use Rattle.scc_owned_cache.specs.CacheSteps.{list_number, IsAbsent, IsFound, IsPresent, IsPreparedForPut}
use Rattle.scc_owned_cache.specs.Caches.{Cached}
use Rattle.scc_owned_cache.specs.ListSteps.{list_for, pair_for, IsMissing, IsThere, PutsPair, Refreshes, RefreshesAs, TakesOut}
use Rattle.scc_calls.specs.declared.fixed.Setting.{Setting}
use Rattle.scc_calls.specs.declared.calls_as_values.CacheCall.{CacheCall}
use Rattle.scc_calls.specs.declared.calls_as_values.CacheCall.TheVariants.{Put, Get, Write, Replace, Remove, Read, Contains, Clear, Len}
use Rattle.scc_calls.specs.declared.replies.Reply.{Reply}
use Rattle.scc_calls.specs.declared.replies.Reply.TheVariants.{Evicted, Exists, Old, Key, Pair, Value, Has, Cleared, Count}

-- what no call changes
abbrev pub cache_setting : {E H : Type 0} → Cached E H → Setting H
cache_setting c = record { hasher = (settings_of c.contents).hasher; skipped = (settings_of c.contents).skipped; minimum = (settings_of c.contents).asked + (settings_of c.contents).reserved; maximum = c.maximum }

-- the number of the list of key k, among n lists
abbrev pub number_by : {K H : Type 0} → (H → K → ℕ) → Setting H → ℕ → K → ℕ
number_by hash g n k = bucket_number g.skipped n (hash g.hasher k)

-- the pair that a new pair of list l evicts: the first pair, if l holds 32 or more
abbrev pub first_of_full : {X : Type 0} → List X → Option X
first_of_full l = cond (nat_lt (length l) 32) None (slice_get l 0)

module _ {K V : Type 0} where
  -- the keys in these lists
  abbrev pub keys_in : List (List (K × V)) → List K
  keys_in ls = keys_of (flat_map (λ l. l) ls)

  -- the key of a call, or `None` if the call concerns all keys
  abbrev pub cache_key : CacheCall K V → Option K
  cache_key (Put k v) = Some k
  cache_key (Get k) = Some k
  cache_key (Write k v) = Some k
  cache_key (Replace k) = Some k
  cache_key (Remove k) = Some k
  cache_key (Read k) = Some k
  cache_key (Contains k) = Some k
  cache_key Clear = None
  cache_key Len = None

  -- the call may add a key
  abbrev pub cache_adds : CacheCall K V → Type 0
  cache_adds (Put k v) = Unit {0}
  cache_adds call = ⊥

  -- a resize to n lists: list i gets the pairs that belong to it, in the order that they had, and at most 32 of them;
  -- n is lawful, within the maximum, and, if it is lower than before, not below the minimum
  pub record CacheResizes {H : Type 0} (g : Setting H) (number : ℕ → K → ℕ) (s : List (List (K × V))) (n : ℕ) (t : List (List (K × V))) : Type 0 where
    pub count : length t ≡ n
    pub lawful : IsBucketCount n
    pub lists : (i : ℕ) → i < n → slice_index_or t i [] ≡ filter (λ p. number n p.0 == i) (flat_map (λ l. l) s)
    pub short : (i : ℕ) → length (slice_index_or t i []) ≤ 32
    pub within : 32 * n ≤ g.maximum
    pub minimum : n < length s → g.minimum ≤ 32 * n

  module _ (eq : K → K → Bool) (number : ℕ → K → ℕ) where
    -- the call may give the reply and lead from s to t, without a resize
    abbrev pub CacheMoves : List (List (K × V)) → CacheCall K V → Reply K V → List (List (K × V)) → Type 0
    CacheMoves s (Put k v) (Evicted x) t = PutsPair number eq (k, v) x s t
    CacheMoves s (Put k v) (Exists l w) t = (l ≡ k) × (w ≡ v) × ((p : K × V) × (i : ℕ) × IsThere number eq s k i p) × (t ≡ s)
    CacheMoves s (Get k) (Value None) t = IsMissing number eq s k × (t ≡ s)
    CacheMoves s (Get k) (Value (Some v)) t = (l : K) × Refreshes number eq k (l, v) s t
    CacheMoves s (Write k v) (Old None) t = IsMissing number eq s k × (t ≡ s)
    CacheMoves s (Write k v) (Old (Some w)) t = (l : K) × RefreshesAs number eq k (l, w) (l, v) s t
    CacheMoves s (Replace k) (Key None) t = IsMissing number eq s k × (t ≡ s)
    CacheMoves s (Replace k) (Key (Some l)) t = (v : V) × RefreshesAs number eq k (l, v) (k, v) s t
    CacheMoves s (Remove k) (Pair None) t = IsMissing number eq s k × (t ≡ s)
    CacheMoves s (Remove k) (Pair (Some p)) t = TakesOut number eq k p s t
    CacheMoves s (Read k) (Value None) t = IsMissing number eq s k × (t ≡ s)
    CacheMoves s (Read k) (Value (Some v)) t = ((l : K) × (i : ℕ) × IsThere number eq s k i (l, v)) × (t ≡ s)
    CacheMoves s (Contains k) (Has true) t = ((p : K × V) × (i : ℕ) × IsThere number eq s k i p) × (t ≡ s)
    CacheMoves s (Contains k) (Has false) t = IsMissing number eq s k × (t ≡ s)
    CacheMoves s Clear Cleared t = t ≡ map (λ _. []) s
    CacheMoves s Len (Count n) t = (n ≡ length (flat_map (λ l. l) s)) × (t ≡ s)
    CacheMoves s call reply t = ⊥

    -- memory may be refused to a put of a missing key if there is no array, and to no other call
    abbrev pub CacheMayRefuse : List (List (K × V)) → CacheCall K V → Type 0
    CacheMayRefuse s (Put k v) = IsMissing number eq s k × (length s ≡ 0)
    CacheMayRefuse s call = ⊥

    -- the reply that the call gives if a cache has the lists s and the call makes no growth
    abbrev pub cache_answer : List (List (K × V)) → CacheCall K V → Reply K V
    cache_answer s (Put k v) = cond (is_some (pair_for number eq s k)) (Exists k v) (Evicted (first_of_full (list_for number s k)))
    cache_answer s (Get k) = Value (option_map (λ p. p.1) (pair_for number eq s k))
    cache_answer s (Write k v) = Old (option_map (λ p. p.1) (pair_for number eq s k))
    cache_answer s (Replace k) = Key (option_map (λ p. p.0) (pair_for number eq s k))
    cache_answer s (Remove k) = Pair (pair_for number eq s k)
    cache_answer s (Read k) = Value (option_map (λ p. p.1) (pair_for number eq s k))
    cache_answer s (Contains k) = Has (is_some (pair_for number eq s k))
    cache_answer s Clear = Cleared
    cache_answer s Len = Count (length (flat_map (λ l. l) s))

  module _ {S : Type 0} (eq : K → K → Bool) (hash : K → ℕ) (c : Cached (K × V) S) where
    -- if the call may add a key, the pair of this key stands at the place that was found, or the key is missing
    abbrev pub CacheKnows : CacheCall K V → Option Place → Type 0
    CacheKnows (Put k v) found = MatchOption found (IsAbsent hash eq c.contents k) (IsFound hash eq c.contents k)
    CacheKnows call found = Unit {0}

    -- the call makes no growth: a put of k finds k or is prepared
    abbrev pub CacheIsMade : CacheCall K V → Type 0
    CacheIsMade (Put k v) = ((p : K × V) × IsPresent hash eq c.contents k p) ⊎ IsPreparedForPut hash c k
    CacheIsMade call = Unit {0}

    -- the call makes no growth, and its reply equals copy
    abbrev pub CacheIsPrepared : (Reply K V → Reply K V → Bool) → CacheCall K V → Reply K V → Type 0
    CacheIsPrepared same call copy = CacheIsMade call × (same (cache_answer eq (list_number hash c.contents) (lists_of c.contents) call) copy ≡ true)
