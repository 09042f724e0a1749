-- What holds of the pairs of a cache under a rule: equal keys are alike to the rule.
use Rattle.std.proofs.Common.{◌≡◌, ◌∙◌, ℕ, Bool, true, false, List, ◌∷◌, Option, None, Some, Result, Ok, Err, refl, sym, subst}
use Rattle.std.specs.Borrow.{Bor, MutBor}
use Rattle.std.specs.Fn.{Once, FnOnceReturnsAtMut, FnOnceTakesAtMut}
use Rattle.std.specs.List.{position, slice_get}
use Rattle.std.specs.Prelude.{IfErr, IfOk, IfSome}
use Rattle.scc_buckets.specs.declared.place.Place.{Place}
use Rattle.scc_buckets.proofs.Lookups.{find-position_none}
use Rattle.scc_buckets.proofs.PairSplits.{none-find}
use Rattle.scc_common.specs.Contents.{bucket_count, list_of, lists_of}
use Rattle.scc_common.specs.Rules.{IsCalledOn, IsKeptAt, IsTested, KeepsTested, ReadsKept}
use Rattle.scc_table.specs.Places.{spot_of}
use Rattle.scc_owned_cache.specs.CacheSteps.{IsAbsent, IsLastAt, IsPresent, PutsNew, list_number}
use Rattle.scc_owned_cache.specs.Caches.{Cached}
use Rattle.scc_owned_cache.specs.Evictions.{IsEvictedFor}
use Rattle.scc_owned_cache.specs.KeyCalls.{Recalls, RecallsCloned, dropped, put, refused as refuse, stored}
use Rattle.scc_owned_cache.specs.ListSteps.{PutsPair}
use Rattle.scc_owned_cache.proofs.Replies.{there-equal}

-- what holds of the value of each success, and of the error of each failure
pub if-ok : {A B : Type 0} (r : Result A B) (P : A → Type 0) → ((a : A) → r ≡ Ok a → P a) → IfOk r P
if-ok (Ok a) P h = h a refl
if-ok (Err b) P h = tt

pub if-err : {A B : Type 0} (r : Result A B) (P : B → Type 0) → ((b : B) → r ≡ Err b → P b) → IfErr r P
if-err (Ok a) P h = tt
if-err (Err b) P h = h b refl

-- the pair that makes room for p has another key
evicted-apart : {K V : Type 0} (eq : K → K → Bool) (number : ℕ → K → ℕ) (p y : K × V) (ls ms : List (List (K × V))) → PutsPair number eq p (Some y) ls ms → eq p.0 y.0 ≡ false
evicted-apart eq number p y ls ms s =
    let none = subst (λ es. position (λ (q : _ × _). eq p.0 q.0) es ≡ None) s.2.1 s.0 in
    (none-find (eq p.0) (y ∷ s.2.0) (find-position_none (eq p.0) (y ∷ s.2.0) none)).0

module _ {K V : Type 0} (eq : K → K → Bool) (holds : K → V → Type 0) where
  -- the pair that makes room for a new one has another key, and keeps the rule
  pub evicts : {S : Type 0} (hash : K → ℕ) (c d : Cached (K × V) S) (p : K × V) (x : Option (K × V)) → PutsNew hash eq c p x d → IfSome x (λ q. holds q.0 q.1) → IsEvictedFor eq holds p.0 x
  evicts hash c d p None s kept = tt
  evicts hash c d p (Some y) (grown, grows, puts) kept = (evicted-apart eq (list_number hash c.contents) p y (lists_of grown.contents) (lists_of d.contents) puts.lists, kept)

-- the pair that a refresh moved was the pair of its key
module _ {K V S : Type 0} (eq : K → K → Bool) (hash : K → ℕ) (c : Cached (K × V) S) (k : K) (d : Cached (K × V) S) (at : Place) (s : IsLastAt hash eq c k d at) where
  pub last-is : (q : K × V) → slice_get (list_of d.contents (spot_of d.contents at).bucket) (spot_of d.contents at).slot ≡ Some q → s.pair ≡ q
  last-is q got = let same : Some s.pair ≡ Some q = sym s.here ∙ got in cc

  pub last-present : (q : K × V) → slice_get (list_of d.contents (spot_of d.contents at).bucket) (spot_of d.contents at).slot ≡ Some q → IsPresent hash eq c.contents k q
  last-present q got = subst (IsPresent hash eq c.contents k) (last-is q got) (s.changes.lists.0, s.changes.lists.1)

-- the rule, for which equal keys are alike; `==` is symmetric
module _ {K V : Type 0} (eq : K → K → Bool) (holds : K → V → Type 0) (alike : (j k : K) (v : V) → eq j k ≡ true → holds j v → holds k v) (symm : (j k : K) → eq j k ≡ eq k j) where
  -- what keeps the rule under a key keeps it under an equal one
  pub kept-at : (k : K) (p : K × V) → eq k p.0 ≡ true → holds p.0 p.1 → IsKeptAt eq holds k p
  kept-at k p same kept = (same, kept, alike p.0 k p.1 (symm p.0 k ∙ same) kept)

  module _ {S : Type 0} (hash : K → ℕ) (c : Cached (K × V) S) (k : K) where
    pub kept-present : (p : K × V) → IsPresent hash eq c.contents k p → holds p.0 p.1 → IsKeptAt eq holds k p
    kept-present p (i, at) kept = kept-at k p (there-equal (list_number hash c.contents) eq (lists_of c.contents) k i p at) kept

    module _ {F A : Type 0} (g : Once F (Bor K × (Bor V × Unit {0})) A) (f : F) (a : Bor K) (b : Bor V) (here : IsPresent hash eq c.contents k (a.now, b.now)) (kept : holds a.now b.now) where
      -- a closure that may be called on such pairs may be called on the pair of k
      pub called-on : IsCalledOn eq holds g f k → g.pre f (a, (b, tt))
      called-on callable = let e = kept-present (a.now, b.now) here kept in callable a b e.0 e.1 e.2

      pub reads-kept : (r : A) → g.post f (a, (b, tt)) r → ReadsKept eq holds g f k r
      reads-kept r met = let e = kept-present (a.now, b.now) here kept in ((a.now, b.now), e.0, e.1, e.2, record { key = a; value = b; shows = refl; met = met })

    module _ {F : Type 0} (g : Once F (MutBor V × Unit {0}) (Bool × (MutBor V × Unit {0}))) (f : F) (p : K × V) where
      -- a closure that may be called on values under k may be called on the value of the pair of k
      pub tested-on : IsPresent hash eq c.contents k p → holds p.0 p.1 → IsTested holds g f k → FnOnceTakesAtMut g f p.1
      tested-on here kept tested = tested p.1 (kept-present p here kept).2

      -- what it leaves there may stand under the key of the pair
      pub keeps-tested : (b : Bool) (w : V) → IsPresent hash eq c.contents k p → holds p.0 p.1 → KeepsTested holds g f k → FnOnceReturnsAtMut g f p.1 b w → holds p.0 w
      keeps-tested b w here kept keeps left = let e = kept-present p here kept in alike k p.0 w e.0 (keeps p.1 w b e.2 left)

-- a value that was made is put in, or memory for a first array is refused
pub recalls-made : {K V S : Type 0} (hash : K → ℕ) (eq : K → K → Bool) (Made : V → Type 0) (c : Cached (K × V) S) (k : K) (v : V) (d : Cached (K × V) S) (r : Result (Option (K × V) × Place) (K × V)) → IsAbsent hash eq c.contents k → Made v → IfOk r (λ x. PutsNew hash eq c (k, v) x.0 d) → IfErr r (λ p. (p ≡ (k, v)) × (bucket_count c.contents ≡ 0) × (d ≡ c))
    → Recalls hash eq Made c k v d
recalls-made hash eq Made c k v d (Ok x) absent made puts refused = put x.0 made (absent, puts)
recalls-made hash eq Made c k v d (Err p) absent made puts refused = refuse made (refl, absent, refused.1, refused.2)

-- a clone of a value that was made is returned; the value is put in, or memory for a first array is refused
pub recalls-clone : {K V S : Type 0} (hash : K → ℕ) (eq : K → K → Bool) (C : V → V → Type 0) (Sure : V → Type 0) (Made : V → Type 0) (c : Cached (K × V) S) (k : K) (w v : V) (d : Cached (K × V) S) (r : Result (Option (K × V) × Place) (K × V)) → IsAbsent hash eq c.contents k → Made w → C w v → IfOk r (λ x. PutsNew hash eq c (k, w) x.0 d)
    → IfErr r (λ p. (p ≡ (k, w)) × (bucket_count c.contents ≡ 0) × (d ≡ c)) → RecallsCloned hash eq C Sure Made c k v d
recalls-clone hash eq C Sure Made c k w v d (Ok x) absent made clone puts refused = stored w x.0 made clone (absent, puts)
recalls-clone hash eq C Sure Made c k w v d (Err p) absent made clone puts refused = dropped w made clone (refl, absent, refused.1, refused.2)
