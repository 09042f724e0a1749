-- What a walk over the pairs of a cache leaves in its lists.
use Rattle.std.specs.Prelude.{◌≡◌, ℕ, ◌<◌, Bool, true, false, List, [], ◌∷◌, Option, None, Some}
use Rattle.std.specs.Borrow.{MutBor}
use Rattle.std.specs.Fn.{Once, FnOnceReturnsAtMut}
use Rattle.std.specs.List.Sorted.{IsPermutation}
use Rattle.scc_common.specs.Contents.{Contents, entries, bucket_count, list_of, notes_of, settings_of}
use Rattle.scc_buckets.specs.Pour.{destined_for}
use Rattle.scc_owned_cache.specs.CacheSteps.{ChangesLists, IsAbsent, ShrinksTo, TakesThen, list_number}
use Rattle.scc_owned_cache.specs.Caches.{Cached}
use Rattle.scc_owned_cache.specs.ListSteps.{Rewrites}

module _ {K V S : Type 0} (hash : K → ℕ) where
  -- es has the pairs of c, and the pairs of each list in the order of the list
  pub record GoesOver (c : Contents (K × V) S) (es : List (K × V)) : Type 0 where
    pub same : IsPermutation (entries c) es
    pub order : (i : ℕ) → i < bucket_count c → destined_for (λ p. hash p.0) (settings_of c).skipped (bucket_count c) i es ≡ list_of c i

  -- d has as many lists as c and the pairs es, the pairs of each list in the order of es; settings, maximum, note and
  -- mark are those of c
  pub record LeavesPairs (c : Cached (K × V) S) (es : List (K × V)) (d : Cached (K × V) S) : Type 0 where
    pub buckets : bucket_count d.contents ≡ bucket_count c.contents
    pub pairs : GoesOver d.contents es
    pub settings : settings_of d.contents ≡ settings_of c.contents
    pub refused : notes_of d.contents ≡ notes_of c.contents
    pub maximum : d.maximum ≡ c.maximum

  -- the array may shrink if a pair was taken
  abbrev pub ShrinksIfTaken : List (K × V) → Cached (K × V) S → Cached (K × V) S → Type 0
  ShrinksIfTaken [] c d = d ≡ c
  ShrinksIfTaken (p ∷ ps) c d = ShrinksTo (λ e. hash e.0) c d

  -- a removal of the pair of k if f returns true on its value; what f left goes with the pair, and stays if f returns
  -- false
  module _ (eq : K → K → Bool) {F : Type 0} (g : Once F (MutBor V × Unit {0}) (Bool × (MutBor V × Unit {0}))) (f : F) (c : Cached (K × V) S) (k : K) where
    -- a missing key changes nothing; if f returned false, the pair stays with the value that f wrote; if f returned
    -- true, the pair is removed and returned
    pub data RemovesIf (r : Option (K × V)) (d : Cached (K × V) S) : Type 0 where
      missing : IsAbsent hash eq c.contents k → r ≡ None → d ≡ c → RemovesIf r d
      declined : (p : K × V) (w : V) → FnOnceReturnsAtMut g f p.1 false w → r ≡ None → ChangesLists (Rewrites (list_number hash c.contents) eq k p (p.0, w)) c d → RemovesIf r d
      removed : (p : K × V) (w : V) → FnOnceReturnsAtMut g f p.1 true w → r ≡ Some (p.0, w) → TakesThen hash eq c k p d → RemovesIf r d
