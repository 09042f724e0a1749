-- Each pair of a memo's cache stays a key with the value of that key.
use Rattle.std.proofs.Common.{◌≡◌, ℕ, Bool, false, true, List, [], ◌∷◌, ◌++◌, ◌⊎◌, Option, None, Some, Result, Ok, Err, MatchOption, inl, inr, refl, sym, ◌∙◌, subst}
use Rattle.std.specs.List.{flat_map}
use Rattle.std.specs.Option.{is_some}
use Rattle.std.specs.Prelude.{IsSome, IsTrue, OnOk}
use Rattle.scc_common.specs.declared.errors.InsertError.{InsertError}
use Rattle.scc_common.specs.declared.errors.InsertError.TheVariants.{Exists, Memory}
use Rattle.std.specs.Borrow.{Bor}
use Rattle.std.specs.Fn.{Once}
use Rattle.scc_common.specs.Contents.{Contents, entries, lists_of}
use Rattle.scc_owned_cache.specs.CacheSteps.{AnswersOn, IsAbsent, IsPresent, Puts, PutsNew, Removes, list_number}
use Rattle.scc_owned_cache.specs.Caches.{Cached}
use Rattle.scc_owned_cache.specs.ListSteps.{IsThere}
use Rattle.scc_owned_cache.specs.Relocations.{RelocatesTwoWithin}
use Rattle.scc_owned_cache.proofs.EachPair.{All, Each, each-new, each-refreshed, each-taken, each-there}
use Rattle.scc_memo.specs.Memos.{HasValues, Remembers, refreshed, stored, refused}

module _ {X : Type 0} (P : X → Type 0) where
  both-parts : (xs ys : List X) → All P (xs ++ ys) → All P xs × All P ys
  both-parts [] ys h = (tt, h)
  both-parts (x ∷ xs) ys h = let r = both-parts xs ys h.1 in ((h.0, r.0), r.1)

  each-apart : (ls : List (List X)) → All P (flat_map (λ l. l) ls) → Each P ls
  each-apart [] h = tt
  each-apart (l ∷ ls) h = let r = both-parts l (flat_map (λ x. x) ls) h in (r.0, each-apart ls r.1)

pub was-there : {X : Type 0} (r : Option X) (b : Bool) → b ≡ is_some r → (IsTrue b → IsSome r) × (IsSome r → IsTrue b)
was-there None b e = (λ t. let z : false ≡ true = sym e ∙ t in cc, λ s. let z : false ≡ true = s in cc)
was-there (Some x) b e = (λ t. refl, λ s. e)

-- what is a or a clone of u is b or a clone of b, if a and u equal b
pub value-or-clone : {V : Type 0} (is_clone : V → V → Type 0) (a b u r : V) → a ≡ b → u ≡ b → (r ≡ a) ⊎ is_clone u r → (r ≡ b) ⊎ is_clone b r
value-or-clone is_clone a b u r same kept (inl e) = inl (e ∙ same)
value-or-clone is_clone a b u r same kept (inr e) = inr (subst (λ x. is_clone x r) kept e)

module _ {K V S : Type 0} (value : K → V) where
  -- a cache without pairs has the values of every function
  pub values-none : (c : Contents (K × V) S) → entries c ≡ [] → HasValues value c
  unfolding entries lists_of
  values-none c none = record { each = each-apart (λ p. p.1 ≡ value p.0) c.lists (subst (λ es. All (λ (p : K × V). p.1 ≡ value p.0) es) (sym none) tt) }

  module _ (hash : K → ℕ) (eq : K → K → Bool) where
    pub values-removed : (c d : Cached (K × V) S) (k : K) (r : Option (K × V)) → Removes hash eq c k r d → HasValues value c.contents → HasValues value d.contents
    values-removed c d k None s h = subst (λ (z : Cached (K × V) S). HasValues value z.contents) (sym s.1) h
    values-removed c d k (Some p) s h = record { each = each-taken (λ p. p.1 ≡ value p.0) eq hash c d k p s h.each }

    -- if a cache has the values of a function, the cache that a look-up leaves has them too
    pub values-remembered : (c d : Cached (K × V) S) (k : K) (v : V) → Remembers hash eq c k v d → v ≡ value k → HasValues value c.contents → HasValues value d.contents
    values-remembered c d k v (refreshed p s m) is h = record { each = each-refreshed (λ p. p.1 ≡ value p.0) eq (list_number hash c.contents) k p (lists_of c.contents) (lists_of d.contents) s.lists h.each }
    values-remembered c d k v (stored x absent s m) is h = record { each = each-new (λ p. p.1 ≡ value p.0) eq hash c d (k, v) x s is h.each }
    values-remembered c d k v (refused absent none e) is h = subst (λ (z : Cached (K × V) S). HasValues value z.contents) (sym e) h

    -- a put of a missing key is a step that remembers the key
    pub remembers-put : (c d : Cached (K × V) S) (k : K) (v w : V) (r : Result (Option (K × V)) (InsertError K V)) → v ≡ w → IsAbsent hash eq c.contents k → Puts hash eq c (k, v) r d → OnOk r (RelocatesTwoWithin (hash k) c.contents d.contents) → Remembers hash eq c k w d
    remembers-put c d k v w (Ok x) is absent s m = stored x absent (subst (λ u. PutsNew hash eq c (k, u) x d) is s.1) m
    remembers-put c d k v w (Err (Exists q)) is absent s m = absurd (let z : None ≡ Some s.1.1.0 = sym absent ∙ s.1.1.1.first in cc)
    remembers-put c d k v w (Err (Memory q)) is absent s m = refused absent s.2 s.3

    -- if a step that remembers k leaves d, and e is equal to d, the step leaves e
    pub remembers-as : (c : Cached (K × V) S) (k : K) (v : V) (d e : Cached (K × V) S) → e ≡ d → Remembers hash eq c k v d → Remembers hash eq c k v e
    remembers-as c k v d e same h = subst (λ x. Remembers hash eq c k v x) (sym same) h

    -- the stored key equals k
    pub key-there : (c : Contents (K × V) S) (k : K) (i : ℕ) (p : K × V) → IsThere (list_number hash c) eq (lists_of c) k i p → HasValues value c → eq k p.0 ≡ true
    key-there c k i p at h = (each-there (λ p. p.1 ≡ value p.0) eq (list_number hash c) k i p (lists_of c) at h.each).1

    module _ (alike : (j k : K) → eq j k ≡ true → value j ≡ value k) where
      -- the pair of k has the value of k, because equal keys have equal values
      pub value-there : (c : Contents (K × V) S) (k : K) (i : ℕ) (p : K × V) → IsThere (list_number hash c) eq (lists_of c) k i p → HasValues value c → p.1 ≡ value k
      value-there c k i p at h =
          let r = each-there (λ p. p.1 ≡ value p.0) eq (list_number hash c) k i p (lists_of c) at h.each in
          r.0 ∙ sym (alike k p.0 r.1)

      -- the stored key has the value of k
      pub value-under : (c : Contents (K × V) S) (k : K) (i : ℕ) (p : K × V) → IsThere (list_number hash c) eq (lists_of c) k i p → HasValues value c → value p.0 ≡ value k
      value-under c k i p at h = sym (alike k p.0 (key-there c k i p at h))

      -- a look-up that moves no pair returns the value of k
      pub values-known : {F : Type 0} (g : Once F (Bor K × (Bor V × Unit {0})) V) (f : F) (c : Contents (K × V) S) (k : K) (r : Option V) → MatchOption r (IsAbsent hash eq c k) (AnswersOn hash eq g f c k) → HasValues value c → ((a : Bor K) (b : Bor V) (x : V) → g.post f (a, (b, tt)) x → x ≡ b.now)
          → MatchOption r (IsAbsent hash eq c k) (λ v. (v ≡ value k) × ((p : K × V) × IsPresent hash eq c k p))
      values-known g f c k None m h met = m
      values-known g f c k (Some v) m h met = (met m.key m.value v m.met ∙ value-there c k m.shows.0 (m.key.now, m.value.now) m.shows.1 h, ((m.key.now, m.value.now), m.shows))

-- a put through an entry remembers the key in the cache, for the cache and the key that the entry was made of
pub remembers-through : {K V S : Type 0} (value : K → V) (hash : Contents (K × V) S → K → ℕ) (eq : K → K → Bool) (c e d : Cached (K × V) S) (k j : K) (v w : V) (r : Result (Option (K × V)) (InsertError K V)) → e ≡ c → j ≡ k → v ≡ w → IsAbsent (hash c.contents) eq c.contents k → Puts (hash e.contents) eq e (j, v) r d
    → OnOk r (RelocatesTwoWithin (hash e.contents j) e.contents d.contents) → Remembers (hash c.contents) eq c k w d
remembers-through {K} {V} {S} value hash eq c e d k j v w r same key is absent puts moves =
    let P : Cached (K × V) S → K → Type 0 = λ a i. Puts (hash a.contents) eq a (i, v) r d in
    let M : Cached (K × V) S → K → Type 0 = λ a i. OnOk r (RelocatesTwoWithin (hash a.contents i) a.contents d.contents) in
    remembers-put value (hash c.contents) eq c d k v w r is absent (subst (λ a. P a k) same (subst (λ i. P e i) key puts)) (subst (λ a. M a k) same (subst (λ i. M e i) key moves))
