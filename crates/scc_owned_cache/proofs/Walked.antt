-- The lists of a cache, joined to one list of its pairs.
use Rattle.std.proofs.Common.{◌≡◌, ◌==◌, ◌≢◌, ℕ, zero, suc, ◌+◌, ◌<◌, true, false, List, [], ◌∷◌, ◌++◌, length, Some, refl, sym, ap, ◌∙◌, subst, arith, rules, eq-eqb}
use Rattle.std.specs.List.{filter, flat_map, slice_get, slice_index_or}
use Rattle.std.proofs.lemmas.List.{append-nil}
use Rattle.std.proofs.lemmas.List.Elements.{filter-append}
use Rattle.std.proofs.lemmas.List.Sorted.{IsPermutation-refl}
use Rattle.scc_buckets.specs.Bounded.{IsListed}
use Rattle.scc_common.specs.Contents.{Contents, Settings, entries, bucket_count, list_of, notes_of, settings_of, waiting_of}
use Rattle.scc_buckets.specs.Pour.{destined_for}
use Rattle.scc_common.specs.Routing.{bucket_number}
use Rattle.scc_common.specs.Steps.{HoldsExactly}
use Rattle.scc_owned_cache.specs.CacheWalks.{GoesOver, LeavesPairs, ShrinksIfTaken}
use Rattle.scc_owned_cache.specs.CacheSteps.{ShrinksTo}
use Rattle.scc_owned_cache.specs.Caches.{Cached}
use Rattle.scc_owned_cache.specs.Lends.{with_value_at}
use Rattle.scc_buckets.specs.Writes.{with_write_at_spot}
use Rattle.scc_table.specs.Places.{IsPlace, index_of, spot_of}
use Rattle.scc_buckets.specs.declared.place.Place.{Place}
use Rattle.scc_table.proofs.walks.Visits.{Visited, visited}

not_equal : (a b : ℕ) → a ≢ b → (a == b) ≡ false
not_equal a b h = search rules

module _ {E : Type 0} (number : E → ℕ) where
  abbrev Own : ℕ → List E → Type 0
  Own k xs = (j : ℕ) (e : E) → slice_get xs j ≡ Some e → number e ≡ k

  filter-same : (i : ℕ) (xs : List E) → Own i xs → filter (λ e. number e == i) xs ≡ xs
  filter-same i [] h = refl
  filter-same i (x ∷ xs) h =
      let t : (number x == i) ≡ true = eq-eqb (number x) i (h 0 x refl) in
      rw t (ap (λ z. x ∷ z) (filter-same i xs (λ j e got. h (suc j) e got)))

  filter-other : (i k : ℕ) (xs : List E) → k ≢ i → Own k xs → filter (λ e. number e == i) xs ≡ []
  filter-other i k [] n h = refl
  filter-other i k (x ∷ xs) n h =
      let here = h 0 x refl in
      let t : (number x == i) ≡ false = not_equal (number x) i (λ z. n (sym here ∙ z)) in
      rw t (filter-other i k xs n (λ j e got. h (suc j) e got))

  abbrev OwnFrom : ℕ → List (List E) → Type 0
  OwnFrom b ls = (i j : ℕ) (e : E) → slice_get (slice_index_or ls i []) j ≡ Some e → number e ≡ b + i

  own-tail : (b : ℕ) (l : List E) (ls : List (List E)) → OwnFrom b (l ∷ ls) → OwnFrom (suc b) ls
  own-tail b l ls o i j e got = let h = o (suc i) j e got in let s : b + suc i ≡ suc b + i = omega arith in h ∙ s

  flat-other : (i b : ℕ) (ls : List (List E)) → OwnFrom b ls → i < b → filter (λ e. number e == i) (flat_map (λ l. l) ls) ≡ []
  flat-other i b [] o l = refl
  flat-other i b (x ∷ ls) o l =
      filter-append (λ e. number e == i) x (flat_map (λ l. l) ls)
      ∙ ap (λ z. z ++ filter (λ e. number e == i) (flat_map (λ l. l) ls)) (filter-other i (b + 0) x (omega arith) (λ j e got. o 0 j e got))
      ∙ flat-other i (suc b) ls (own-tail b x ls o) (omega arith)

  flat-own : (i b k : ℕ) (ls : List (List E)) → OwnFrom b ls → i ≡ b + k → k < length ls → filter (λ e. number e == i) (flat_map (λ l. l) ls) ≡ slice_index_or ls k []
  flat-own i b k [] o e l = absurd (omega arith)
  flat-own i b zero (x ∷ ls) o e l =
      filter-append (λ e. number e == i) x (flat_map (λ l. l) ls)
      ∙ ap (λ z. z ++ filter (λ e. number e == i) (flat_map (λ l. l) ls)) (filter-same i x (λ j d got. o 0 j d got ∙ sym e))
      ∙ ap (λ z. x ++ z) (flat-other i (suc b) ls (own-tail b x ls o) (omega arith)) ∙ append-nil x
  flat-own i b (suc k) (x ∷ ls) o e l =
      filter-append (λ e. number e == i) x (flat_map (λ l. l) ls)
      ∙ ap (λ z. z ++ filter (λ e. number e == i) (flat_map (λ l. l) ls)) (filter-other i (b + 0) x (omega arith) (λ j d got. o 0 j d got))
      ∙ flat-own i (suc b) k ls (own-tail b x ls o) (omega arith) (omega arith)

-- the entries whose hashes lead to bucket i are list i
pub listed-bound : {E S : Type 0} (hash : E → ℕ) (c : Contents E S) → IsListed hash c → (i : ℕ) → i < bucket_count c → destined_for hash (settings_of c).skipped (bucket_count c) i (entries c) ≡ list_of c i
unfolding list_of bucket_count entries
listed-bound hash c h i l =
    let z : i ≡ 0 + i = omega arith in
    flat-own (λ e. bucket_number (settings_of c).skipped (length c.lists) (hash e)) i 0 i c.lists (λ k j e got. let q : 0 + k ≡ k = omega arith in h.routed k j e got ∙ sym q) z l

module _ {K V S : Type 0} (hash : K → ℕ) where
  -- the joined list has the pairs of all lists, each list in its order
  pub goes-over : (c : Contents (K × V) S) → IsListed (λ p. hash p.0) c → GoesOver hash c (entries c)
  goes-over c h = record { same = IsPermutation-refl (entries c); order = listed-bound (λ p. hash p.0) c h }

  -- if a walk in the order of the pairs left the pairs es, d is the cache that the walk leaves
  pub leaves-pairs : (c d : Cached (K × V) S) (es : List (K × V)) → IsListed (λ p. hash p.0) d.contents → HoldsExactly c.contents es d.contents → notes_of d.contents ≡ notes_of c.contents → d.maximum ≡ c.maximum → LeavesPairs hash c es d
  leaves-pairs c d es h held refused maximum = record {
    buckets = held.buckets;
    pairs = subst (λ z. GoesOver hash d.contents z) held.exact (goes-over d.contents h);
    settings = held.settings;
    refused = refused;
    maximum = maximum;
  }

-- d is the cache after a call at a place
pub record Stepped {K V S : Type 0} (c : Cached (K × V) S) (p : Place) (q : K × V) (w : V) (d : Cached (K × V) S) : Type 0 where
  pub now : Visited c.contents (spot_of c.contents p) q w d.contents
  pub refused : notes_of d.contents ≡ notes_of c.contents
  pub maximum : d.maximum ≡ c.maximum
  pub made : d.contents ≡ (with_value_at c p w).contents
  pub waiting : waiting_of d.contents ≡ waiting_of c.contents

pub visits : {K V S : Type 0} (c : Cached (K × V) S) (p : Place) (q : K × V) (w : V) (d : Cached (K × V) S) → IsPlace c.contents p → slice_get (entries c.contents) (index_of c.contents p) ≡ Some q → d ≡ with_value_at c p w → Stepped c p q w d
unfolding notes_of waiting_of with_write_at_spot
visits c p q w d within got new = record {
  now = visited c.contents (spot_of c.contents p) q w d.contents within got (ap (λ x. x.contents) new);
  refused = ap (λ x. x.contents.refused) new;
  maximum = ap (λ x. x.maximum) new;
  made = ap (λ x. x.contents) new;
  waiting = ap (λ x. x.contents.waiting) new;
}

-- if lists are lawful by the hasher of c, they are lawful by the hasher of a cache with the settings of c
pub listed-same : {K V S : Type 0} (hash : Settings S → K → ℕ) (c d : Contents (K × V) S) → settings_of c ≡ settings_of d → IsListed (λ p. hash (settings_of c) p.0) c → IsListed (λ p. hash (settings_of d) p.0) c
listed-same hash c d same h = subst (λ s. IsListed (λ p. hash s p.0) c) same h

module _ {K V S : Type 0} (hash : K → ℕ) where
  pub shrinks-taken : (more : List (K × V)) (c d : Cached (K × V) S) → 0 < length more → ShrinksTo (λ e. hash e.0) c d → ShrinksIfTaken hash more c d
  shrinks-taken [] c d some h = absurd (omega arith)
  shrinks-taken (p ∷ more) c d some h = h

  pub rests-untaken : (more : List (K × V)) (c d : Cached (K × V) S) → length more ≡ 0 → d ≡ c → ShrinksIfTaken hash more c d
  rests-untaken [] c d none e = e
  rests-untaken (p ∷ more) c d none e = absurd (omega arith)
