-- What a memo holds, and what a call leaves of it.
use Rattle.std.specs.Prelude.{◌≡◌, ℕ, Bool, Option, refl}
use Rattle.std.specs.Coded.{Coded, code_by, coded×}
use Rattle.std.specs.List.{AllByRecursion}
use Rattle.scc_common.specs.Contents.{Contents, bucket_count, lists_of}
use Rattle.scc_owned_cache.specs.CacheSteps.{ChangesLists, IsAbsent, PutsNew, list_number}
use Rattle.scc_owned_cache.specs.Caches.{Cached, cached_code}
use Rattle.scc_owned_cache.specs.ListSteps.{Refreshes}
use Rattle.scc_owned_cache.specs.Relocations.{RelocatesOne, RelocatesTwoWithin}

-- a function, and the cache of its values
pub record Memoized (P E S : Type 0) : Type 0 where
  pub function : P
  pub cache : Cached E S

-- the code of a memo's model
abbrev pub memo_code : {P E S : Type 0} → Coded P → Coded E → Coded S → Coded (Memoized P E S)
memo_code {P} {E} {S} p e s = code_by (P × Cached E S) (coded× p (cached_code e s)) (λ m. (m.function, m.cache)) (λ q. record { function = q.0; cache = q.1 }) (λ _. refl)

module _ {K V S : Type 0} where
  -- each pair of each list is a key with its value
  pub record HasValues (value : K → V) (c : Contents (K × V) S) : Type 0 where
    pub each : AllByRecursion (λ l. AllByRecursion (λ p. p.1 ≡ value p.0) l) (lists_of c)

  module _ (hash : K → ℕ) (eq : K → K → Bool) where
    -- what a look-up of k, whose value is v, leaves of the cache: the pair of k moved to the end of its list; or (k,
    -- v) was inserted, after a growth if one was due; or nothing changed, as there was no array and memory for one was
    -- refused
    pub data Remembers (c : Cached (K × V) S) (k : K) (v : V) (d : Cached (K × V) S) : Type 0 where
      refreshed : (p : K × V) → ChangesLists (Refreshes (list_number hash c.contents) eq k p) c d → RelocatesOne (hash k) c.contents d.contents → Remembers c k v d
      stored : (x : Option (K × V)) → IsAbsent hash eq c.contents k → PutsNew hash eq c (k, v) x d → RelocatesTwoWithin (hash k) c.contents d.contents → Remembers c k v d
      refused : IsAbsent hash eq c.contents k → bucket_count c.contents ≡ 0 → d ≡ c → Remembers c k v d
