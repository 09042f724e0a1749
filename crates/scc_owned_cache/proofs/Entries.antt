-- Lemmas about an entry, whatever its guard is.
use Rattle.std.proofs.Common.{◌≡◌, ℕ, zero, suc, ◌+◌, ◌<◌, List, [], ◌∷◌, ◌++◌, length, Bool, Option, true, None, Some, Result, Ok, Err, refl, sym, ap, subst, ◌∙◌, arith, length-append, length-set, get_or-set_same}
use mathlib.Core.Option.{some}
use Rattle.std.specs.Prelude.{IfOk, IfErr}
use Rattle.std.specs.Borrow.{MutBor}
use Rattle.std.specs.Result.{OnErr}
use Rattle.std.specs.List.{remove, slice_get, slice_set, slice_index_or}
use Rattle.std.specs.declared.cmp.PartialEq as eq
use Rattle.std.specs.declared.hash.Hash as hash
use Rattle.std.specs.declared.hash.Hasher as hasher
use Rattle.std.specs.declared.hash.BuildHasher as builder
use Rattle.scc_common.specs.declared.rule.Rule as rule
use Rattle.scc_common.specs.Contents.{Contents, bucket_count, settings_of, notes_of, list_of, lists_of, waiting_of, key_hash}
use Rattle.scc_common.specs.Pairs.{with_pair_key, with_pair_value}
use Rattle.scc_buckets.specs.Placed as spots
use Rattle.scc_buckets.specs.Placed.{at-get}
use Rattle.scc_buckets.specs.Writes as writes
use Rattle.scc_table.specs.Placed.{entry_of, spot-with_write_at}
use Rattle.scc_table.specs.Places.{IsPlace, spot_of}
use Rattle.scc_common.specs.declared.guard.Guard as guard
use Rattle.scc_buckets.specs.declared.place.Place.{Place}
use Rattle.scc_array.specs.ShelfWrites.{length-write_at}
use Rattle.scc_buckets.proofs.KeyWrites.{get-write_at}
use Rattle.scc_table.proofs.places.Entries.{place-prop}
use Rattle.scc_owned_cache.specs.CacheSteps.{ChangesLists, IsFound, IsLastAt, IsPreparedForPut, PutsNew, list_number}
use Rattle.scc_owned_cache.specs.Caches.{Cached}
use Rattle.scc_common.specs.declared.errors.InsertError.{InsertError}
use Rattle.scc_common.specs.declared.errors.TryInsertError.{TryInsertError}
use Rattle.scc_common.specs.declared.errors.TryInsertError.TheVariants.{Failed, Memory as NoMemory}
use Rattle.scc_owned_cache.specs.Entries.{Memory, Occupied, Vacant, entry_guard, entry_key, occupied_pair, IsVacant, FailsAtVacant, FailsOrRefuses, IsMoved, IsPut, IsRefreshed, IsReplacedBy, IsWritten, OrPuts, OrPutsSome, Refuses, RefusesSome, SetsEntry, written_cache, still_within, with_value}
use Rattle.scc_owned_cache.specs.Evictions.{IsEvictedFor}
use Rattle.scc_owned_cache.specs.Lends.{with_key_at, with_value_at}
use Rattle.scc_owned_cache.specs.ListSteps.{Refreshes, RefreshesAs, Rewrites}
use Rattle.scc_owned_cache.specs.Relocations.{RelocatesOne, RelocatesTwoWithin}
use Rattle.scc_owned_cache.specs.declared.held.HeldOccupied.{HeldOccupied}
use Rattle.scc_owned_cache.specs.declared.held.HeldEntry.{HeldEntry}
use Rattle.scc_owned_cache.specs.declared.held.HeldVacant.{HeldVacant}
use Rattle.scc_owned_cache.proofs.Caching.{position-passes}
use Rattle.scc_owned_cache.proofs.Relocations.{waiting-keyed, waiting-written, written-one}
use Rattle.scc_owned_cache.proofs.Removing.{set-twice}
use Rattle.scc_owned_cache.proofs.Writing.{write-set, written-list}

module _ {E S : Type 0} (c : Contents E S) (p : Place) (h : IsPlace c p) where
  pub listed-entry : slice_get (list_of c (spot_of c p).bucket) (spot_of c p).slot ≡ Some (entry_of c p h)
  unfolding spots.entry_of_spot
  listed-entry = at-get (list_of c (spot_of c p).bucket) (spot_of c p).slot h.slot

  pub entry-listed : (e : E) → slice_get (list_of c (spot_of c p).bucket) (spot_of c p).slot ≡ Some e → e ≡ entry_of c p h
  entry-listed e got = let s : Some e ≡ Some (entry_of c p h) = sym got ∙ listed-entry in cc

module _ {K V S : Type 0} (c : Cached (K × V) S) (p : Place) (h : IsPlace c.contents p) where
  -- a write of a value is a change of one list
  pub changes-written : (v : V) → ChangesLists (λ ls ms. ms ≡ slice_set ls (spot_of c.contents p).bucket (slice_set (slice_index_or ls (spot_of c.contents p).bucket []) (spot_of c.contents p).slot ((entry_of c.contents p h).0, v))) c (with_value_at c p v)
  unfolding writes.with_write_at_spot lists_of list_of settings_of notes_of
  changes-written v = record {
    lists = ap (slice_set c.contents.lists (spot_of c.contents p).bucket) (write-set with_pair_value (slice_index_or c.contents.lists (spot_of c.contents p).bucket []) (spot_of c.contents p).slot v (entry_of c.contents p h) (listed-entry c.contents p h));
    settings = refl;
    refused = refl;
    maximum = refl;
  }

  pub pair-written : (v : V) (q : IsPlace (with_value_at c p v).contents p) → entry_of (with_value_at c p v).contents p q ≡ ((entry_of c.contents p h).0, v)
  pair-written v q =
      let d = (with_value_at c p v).contents in
      let s = spot_of c.contents p in
      let e : K × V = ((entry_of c.contents p h).0, v) in
      let there : slice_get (list_of d s.bucket) s.slot ≡ Some e = ap (λ l. slice_get l s.slot) (written-list with_pair_value c.contents s h v) ∙ get-write_at with_pair_value (list_of c.contents s.bucket) s.slot (entry_of c.contents p h) v (listed-entry c.contents p h) in
      sym (entry-listed d p q e (subst (λ (r : Place). slice_get (list_of d r.bucket) r.slot ≡ Some e) (sym (spot-with_write_at with_pair_value c.contents s v p)) there))

set-last : {X : Type 0} (es : List X) (p q : X) (s : ℕ) → s + 1 ≡ length (es ++ p ∷ []) → slice_set (es ++ p ∷ []) s q ≡ es ++ q ∷ []
set-last [] p q zero e = refl
set-last [] p q (suc s) e = absurd (omega arith)
set-last (x ∷ es) p q zero e = absurd (let z = length-append es (p ∷ []) in omega arith)
set-last (x ∷ es) p q (suc s) e = ap (λ l. x ∷ l) (set-last es p q s (omega arith))

-- a pair that is moved to the end of its list and then written there is moved as the written pair
pub moved-last : {K V : Type 0} (number : ℕ → K → ℕ) (same : K → K → Bool) (k : K) (p q r : K × V) (ls ms ns : List (List (K × V))) (b s : ℕ) → RefreshesAs number same k p q ls ms → b ≡ number (length ls) k → b < length ms → s + 1 ≡ length (slice_index_or ms b []) → ns ≡ slice_set ms b (slice_set (slice_index_or ms b []) s r)
    → RefreshesAs number same k p r ls ns
moved-last number same k p q r ls ms ns b s (i, there, e) at within last made =
    let es = remove (slice_index_or ls (number (length ls) k) []) i in
    let moved : ms ≡ slice_set ls b (es ++ q ∷ []) = e ∙ ap (λ j. slice_set ls j (es ++ q ∷ [])) (sym at) in
    let few = ap length moved ∙ length-set ls b (es ++ q ∷ []) in
    let here : slice_index_or ms b [] ≡ es ++ q ∷ [] = ap (λ z. slice_index_or z b []) moved ∙ get_or-set_same ls b (es ++ q ∷ []) [] (omega arith) in (
      i,
      there,
      made ∙ ap (λ z. slice_set ms b (slice_set z s r)) here ∙ ap (slice_set ms b) (set-last es q r s (last ∙ ap length here)) ∙ ap (λ z. slice_set z b (es ++ r ∷ [])) moved ∙ set-twice ls b (es ++ q ∷ []) (es ++ r ∷ []) ∙ ap (λ j. slice_set ls j (es ++ r ∷ [])) at,
    )

-- if a pair is moved to the end of its list, and k is then written over its key, the pair is moved with k as its key
pub moved-key : {K V S : Type 0} (hash : K → ℕ) (same : K → K → Bool) (c d : Cached (K × V) S) (k : K) (p : Place) (f : IsLastAt hash same c k d p) → ChangesLists (RefreshesAs (list_number hash c.contents) same k f.pair (k, f.pair.1)) c (with_key_at d p k)
unfolding writes.with_write_at_spot lists_of list_of settings_of notes_of bucket_count
moved-key hash same c d k p f =
    let at = spot_of d.contents p in
    record {
      lists = moved-last (list_number hash c.contents) same k f.pair f.pair (k, f.pair.1) c.contents.lists d.contents.lists _ at.bucket at.slot f.changes.lists f.bucket f.within.bucket f.last (ap (slice_set d.contents.lists at.bucket) (write-set with_pair_key (slice_index_or d.contents.lists at.bucket []) at.slot k f.pair f.here));
      settings = f.changes.settings;
      refused = f.changes.refused;
      maximum = f.changes.maximum;
    }

-- a write of v over the value of the pair of k is a change of one list
pub changes-value : {K V S : Type 0} (hash : K → ℕ) (same : K → K → Bool) (c : Cached (K × V) S) (k : K) (p : Place) (f : IsFound hash same c.contents k p) (v : V) → ChangesLists (Rewrites (list_number hash c.contents) same k f.pair (f.pair.0, v)) c (with_value_at c p v)
unfolding writes.with_write_at_spot lists_of list_of settings_of notes_of bucket_count
changes-value hash same c k p f v = record {
  lists = ((spot_of c.contents p).slot, f.there, ap (slice_set c.contents.lists (spot_of c.contents p).bucket) (write-set with_pair_value (slice_index_or c.contents.lists (spot_of c.contents p).bucket []) (spot_of c.contents p).slot v f.pair f.here) ∙ ap (λ j. slice_set c.contents.lists j (slice_set (slice_index_or c.contents.lists j []) (spot_of c.contents p).slot (f.pair.0, v))) f.bucket);
  settings = refl;
  refused = refl;
  maximum = refl;
}

pub pair-keyed : {K V S : Type 0} (c d : Cached (K × V) S) (p : Place) (h : IsPlace c.contents p) (e : K × V) (k : K) → slice_get (list_of c.contents (spot_of c.contents p).bucket) (spot_of c.contents p).slot ≡ Some e → d ≡ with_key_at c p k → (q : IsPlace d.contents p) → entry_of d.contents p q ≡ (k, e.1)
pair-keyed {K} {V} c d p h e k got made q =
    let s = spot_of c.contents p in
    let n : K × V = (k, e.1) in
    let there : slice_get (list_of d.contents s.bucket) s.slot ≡ Some n = ap (λ x. slice_get (list_of x.contents s.bucket) s.slot) made ∙ ap (λ l. slice_get l s.slot) (written-list with_pair_key c.contents s h k) ∙ get-write_at with_pair_key (list_of c.contents s.bucket) s.slot e k got in
    let same : spot_of d.contents p ≡ s = ap (λ x. spot_of x.contents p) made ∙ spot-with_write_at with_pair_key c.contents s k p in
    sym (entry-listed d.contents p q n (subst (λ (r : Place). slice_get (list_of d.contents r.bucket) r.slot ≡ Some n) (sym same) there))

-- if the old key equals k, the old key equals the key that stands at the place after k is written there
pub alike-keyed : {K V S : Type 0} (same : K → K → Bool) (c : Cached (K × V) S) (p : Place) (h : IsPlace c.contents p) (e : K × V) (k : K) → slice_get (list_of c.contents (spot_of c.contents p).bucket) (spot_of c.contents p).slot ≡ Some e → same e.0 k ≡ true
    → (x : K × V) → slice_get (list_of (with_key_at c p k).contents (spot_of (with_key_at c p k).contents p).bucket) (spot_of (with_key_at c p k).contents p).slot ≡ Some x → same e.0 x.0 ≡ true
alike-keyed {K} {V} same c p h e k got equal x now =
    let s = spot_of c.contents p in
    let d = (with_key_at c p k).contents in
    let n : K × V = (k, e.1) in
    let there : slice_get (list_of d s.bucket) s.slot ≡ Some n = ap (λ l. slice_get l s.slot) (written-list with_pair_key c.contents s h k) ∙ get-write_at with_pair_key (list_of c.contents s.bucket) s.slot e k got in
    let at : spot_of d p ≡ s = spot-with_write_at with_pair_key c.contents s k p in
    let here : slice_get (list_of d (spot_of d p).bucket) (spot_of d p).slot ≡ Some n = subst (λ (r : Place). slice_get (list_of d r.bucket) r.slot ≡ Some n) (sym at) there in
    let is : n ≡ x = let z : Some n ≡ Some x = sym here ∙ now in cc in
    subst (λ (q : K × V). same e.0 q.0 ≡ true) is equal

-- the pair at the place to which the pair of k was moved has a key that equals k
pub last_alike : {K V S : Type 0} (hash : K → ℕ) (same : K → K → Bool) (c m : Cached (K × V) S) (k : K) (at : Place) (p : K × V) → IsLastAt hash same c k m at → slice_get (list_of m.contents (spot_of m.contents at).bucket) (spot_of m.contents at).slot ≡ Some p → same k p.0 ≡ true
last_alike {K} {V} hash same c m k at p s got =
    let there = s.changes.lists.1 in
    let is : s.pair ≡ p = let z : Some s.pair ≡ Some p = sym s.here ∙ got in cc in
    subst (λ (q : K × V). same k q.0 ≡ true) is (position-passes (λ q. same k q.0) _ s.changes.lists.0 s.pair there.first there.pair)

pub map-ok : {A B : Type 0} (P Q : A → Type 0) (r : Result A B) → ((a : A) → P a → Q a) → IfOk r P → IfOk r Q
map-ok P Q (Ok a) f p = f a p
map-ok P Q (Err e) f p = tt

pub map-err : {A B : Type 0} (P Q : B → Type 0) (r : Result A B) → ((e : B) → P e → Q e) → IfErr r P → IfErr r Q
map-err P Q (Ok a) f p = tt
map-err P Q (Err e) f p = f e p

-- a result that is `Ok a` has no error, so any P holds of its error
pub none-refused : {A B : Type 0} {a : A} (r : Result A B) → r ≡ Ok a → (P : B → Type 0) → IfErr r P
none-refused r same P = subst (λ x. IfErr x P) (sym same) tt

module _ {N K V S R T : Type 0} {d : guard.Ghosts (MutBor (Cached (K × V) S)) (Cached (K × V) S)} {g : eq.Ghosts K} {h : hash.Ghosts K} {b : builder.Ghosts S T} {rules : rule.Ghosts R K V} {w : hasher.Ghosts T} where
  -- a refused insertion leaves the cache of the vacant entry, which is the cache of the entry
  pub refused-through : {A B : Type 0} (s : HeldEntry (MutBor (Cached (K × V) S)) N K V S R T d g h b w rules) (e : HeldVacant (MutBor (Cached (K × V) S)) N K V S R T d g h b w rules) (r : Result A B) (x : Cached (K × V) S) → s ≡ Vacant e → OnErr r (x ≡ e.guard.now) → OnErr r (x ≡ (entry_guard s).now)
  refused-through s e r x is left = subst (λ (y : HeldEntry (MutBor (Cached (K × V) S)) N K V S R T d g h b w rules). OnErr r (x ≡ (entry_guard y).now)) (sym is) left

-- equal references have one name, in the form in which the check asks for it of a returned entry
pub same-name : {A : Type 0} {x y : MutBor A} → x ≡ y → some y.ghost_name ≡ some x.ghost_name
same-name is = ap (λ z. some z.ghost_name) (sym is)

-- if a guard is s with another value, it has that value, and is s with its value
pub inner-made : {G C : Type 0} (d : guard.Ghosts G C) {s x : G} {n : C} → x ≡ d.with_inner s n → d.inner x ≡ n
inner-made d {s = s} {n = n} guarded = ap d.inner guarded ∙ d.inner_law s n

pub same-guard : {G C : Type 0} (d : guard.Ghosts G C) {s x : G} {n : C} → x ≡ d.with_inner s n → x ≡ d.with_inner s (d.inner x)
same-guard d {s = s} guarded = guarded ∙ ap (d.with_inner s) (sym (inner-made d guarded))

module _ {G N K V S R T : Type 0} {d : guard.Ghosts G (Cached (K × V) S)} {g : eq.Ghosts K} {h : hash.Ghosts K} {b : builder.Ghosts S T} {rules : rule.Ghosts R K V} {w : hasher.Ghosts T} where
  -- if p stands at the entry's place in the contents behind the guard, p is the entry's pair
  pub pair-is : (o : HeldOccupied G N K V S R T d g h b w rules) (m : Cached (K × V) S) (p : K × V) → m ≡ d.inner o.guard → slice_get (list_of m.contents (spot_of m.contents o.place).bucket) (spot_of m.contents o.place).slot ≡ Some p → p ≡ occupied_pair o
  pair-is o m p is got = entry-listed (d.inner o.guard).contents o.place o.within p (subst (λ (x : Cached (K × V) S). slice_get (list_of x.contents (spot_of x.contents o.place).bucket) (spot_of x.contents o.place).slot ≡ Some p) is got)

  -- if the pair of k was found and moved, the entry of k stands at the moved pair
  pub refreshed_at : (same : K → K → Bool) (c : Cached (K × V) S) (k : K) (o : HeldOccupied G N K V S R T d g h b w rules) → IsLastAt (key_hash b w h.hash_input c.contents) same c k (d.inner o.guard) o.place → RelocatesOne (key_hash b w h.hash_input c.contents k) c.contents (d.inner o.guard).contents → IsRefreshed same c k o
  refreshed_at same c k o s r = record {
    changes = subst (λ x. ChangesLists (Refreshes (list_number (key_hash b w h.hash_input c.contents) c.contents) same k x) c (d.inner o.guard)) (pair-is o (d.inner o.guard) s.pair refl s.here) s.changes;
    relocates = r;
    bucket = s.bucket;
    last = s.last;
  }

  -- if k is written over the key of the moved pair, the entry has k with the old value, and stands at the moved pair
  pub replaced-at : (same : K → K → Bool) (c m : Cached (K × V) S) (k : K) (o : HeldOccupied G N K V S R T d g h b w rules) (s : IsLastAt (key_hash b w h.hash_input c.contents) same c k m o.place) → RelocatesOne (key_hash b w h.hash_input c.contents k) c.contents m.contents → d.inner o.guard ≡ with_key_at m o.place k
      → (occupied_pair o ≡ (k, s.pair.1)) × IsMoved same c k s.pair o
  replaced-at same c m k o s r made =
      let n = with_key_at m o.place k in
      let at = spot_of m.contents o.place in
      let spot : spot_of n.contents o.place ≡ at = spot-with_write_at with_pair_key m.contents at k o.place in
      let pair : occupied_pair o ≡ (k, s.pair.1) = pair-keyed m (d.inner o.guard) o.place s.within s.pair k s.here made o.within in
      let long : length (list_of n.contents at.bucket) ≡ length (list_of m.contents at.bucket) = ap length (written-list with_pair_key m.contents at s.within k) ∙ length-write_at with_pair_key (list_of m.contents at.bucket) at.slot k in (
        pair,
        record {
          changes =
              subst (λ x. ChangesLists (RefreshesAs (list_number (key_hash b w h.hash_input c.contents) c.contents) same k s.pair x) c (d.inner o.guard)) (sym pair)
              (subst (λ x. ChangesLists (RefreshesAs (list_number (key_hash b w h.hash_input c.contents) c.contents) same k s.pair (k, s.pair.1)) c x) (sym made) (moved-key (key_hash b w h.hash_input c.contents) same c m k o.place s));
          relocates = written-one _ c.contents m.contents (d.inner o.guard).contents r (ap (λ x. waiting_of x.contents) made ∙ waiting-keyed m o.place k);
          bucket = ap (λ x. (spot_of x.contents o.place).bucket) made ∙ ap (λ (q : Place). q.bucket) spot ∙ s.bucket;
          last =
              let Last : Cached (K × V) S → Place → Type 0 = λ x q. q.slot + 1 ≡ length (list_of x.contents q.bucket) in
              subst (λ x. Last x (spot_of x.contents o.place)) (sym made) (subst (Last n) (sym spot) (s.last ∙ sym long));
        },
      )

  -- if k is written over the key of the moved pair, the key that the call returns is the key that k replaced
  pub replaced_as : (same : K → K → Bool) (c m : Cached (K × V) S) (k old : K) (o : HeldOccupied G N K V S R T d g h b w rules) (q : Place) → o.place ≡ q → IsLastAt (key_hash b w h.hash_input c.contents) same c k m q → RelocatesOne (key_hash b w h.hash_input c.contents k) c.contents m.contents
      → (p : K × V) × (slice_get (list_of m.contents (spot_of m.contents q).bucket) (spot_of m.contents q).slot ≡ Some p) × (old ≡ p.0) → d.inner o.guard ≡ with_key_at m q k → IsReplacedBy same c k old o
  replaced_as same c m k old o q placed last r (p, found, is) made =
      let s = subst (λ x. IsLastAt (key_hash b w h.hash_input c.contents) same c k m x) (sym placed) last in
      let got = subst (λ x. slice_get (list_of m.contents (spot_of m.contents x).bucket) (spot_of m.contents x).slot ≡ Some p) (sym placed) found in
      let moved = replaced-at same c m k o s r (made ∙ ap (λ x. with_key_at m x k) (sym placed)) in
      let shown : p ≡ s.pair = let z : Some p ≡ Some s.pair = sym got ∙ s.here in cc in
      let pair : s.pair ≡ (old, s.pair.1) = ap (λ x. (x, s.pair.1)) (sym (is ∙ ap (λ q. q.0) shown)) in
      record { value = s.pair.1; pair = moved.0; moved = subst (λ q. IsMoved same c k q o) pair moved.1 }

  -- a value that is written later at the moved pair moves no other pair
  pub moved-written : (same : K → K → Bool) (c : Cached (K × V) S) (k : K) (p : K × V) (o q : HeldOccupied G N K V S R T d g h b w rules) (v : V) → IsMoved same c k p o → IsWritten o v q → ChangesLists (RefreshesAs (list_number (key_hash b w h.hash_input c.contents) c.contents) same k p ((occupied_pair o).0, v)) c (d.inner q.guard)
  unfolding bucket_count lists_of list_of
  moved-written same c k p o q v m e = record {
    lists = moved-last (list_number (key_hash b w h.hash_input c.contents) c.contents) same k p (occupied_pair o) ((occupied_pair o).0, v) (lists_of c.contents) (lists_of (d.inner o.guard).contents) (lists_of (d.inner q.guard).contents) _ _ m.changes.lists m.bucket o.within.bucket m.last e.changes.lists;
    settings = e.changes.settings ∙ m.changes.settings;
    refused = e.changes.refused ∙ m.changes.refused;
    maximum = e.changes.maximum ∙ m.changes.maximum;
  }

  -- after a write through the guard, the place of the entry is still a place
  pub within-written : (o : HeldOccupied G N K V S R T d g h b w rules) (m : Cached (K × V) S) (v : V) → m ≡ d.inner o.guard → IsPlace (d.inner (d.with_inner o.guard (with_value_at m o.place v))).contents o.place
  within-written o m v is = subst (λ c. IsPlace (d.inner (d.with_inner o.guard (with_value_at c o.place v))).contents o.place) (sym is) (still_within o v)

  -- the entry after a write is equal to `with_value o v`, whichever proof it has that its place is a place
  pub written-same : (o : HeldOccupied G N K V S R T d g h b w rules) (m : Cached (K × V) S) (v : V) → (is : m ≡ d.inner o.guard) → (p : IsPlace (d.inner (d.with_inner o.guard (with_value_at m o.place v))).contents o.place)
      → record { guard = d.with_inner o.guard (with_value_at m o.place v); place = o.place; rest = o.rest; of = o.of; within = p } ≡ with_value o v
  written-same o m v is =
      let Written : Cached (K × V) S → Type 0 = λ c. (p : IsPlace (d.inner (d.with_inner o.guard (with_value_at c o.place v))).contents o.place) → record { guard = d.with_inner o.guard (with_value_at c o.place v); place = o.place; rest = o.rest; of = o.of; within = p } ≡ with_value o v in
      subst Written (sym is) (λ p. ap (λ r. record (with_value o v) { within = r }) (place-prop _ _ p (still_within o v)))

  pub within-after : (o : HeldOccupied G N K V S R T d g h b w rules) (m n : Cached (K × V) S) (v : V) → m ≡ d.inner o.guard → n ≡ with_value_at m o.place v → IsPlace (d.inner (d.with_inner o.guard n)).contents o.place
  within-after o m n v is made = subst (λ c. IsPlace (d.inner (d.with_inner o.guard c)).contents o.place) (sym made) (within-written o m v is)

  -- a value that is written through the guard is written in the entry
  pub written-after : (o : HeldOccupied G N K V S R T d g h b w rules) (m n : Cached (K × V) S) (v : V) → m ≡ d.inner o.guard → n ≡ with_value_at m o.place v → (p : IsPlace (d.inner (d.with_inner o.guard n)).contents o.place)
      → IsWritten o v (record { guard = d.with_inner o.guard n; place = o.place; rest = o.rest; of = o.of; within = p })
  written-after o m n v is made p =
      let e : d.inner (d.with_inner o.guard n) ≡ with_value_at (d.inner o.guard) o.place v = d.inner_law o.guard n ∙ made ∙ ap (λ c. with_value_at c o.place v) is in
      record {
        same_guard = ap (d.with_inner o.guard) (sym (d.inner_law o.guard n));
        rest = refl;
        place = refl;
        changes = rw e (changes-written (d.inner o.guard) o.place o.within v);
        waiting = ap (λ x. waiting_of x.contents) e ∙ waiting-written (d.inner o.guard) o.place v;
        pair =
            let Pair : Cached (K × V) S → Type 0 = λ x. (q : IsPlace x.contents o.place) → entry_of x.contents o.place q ≡ ((occupied_pair o).0, v) in
            subst Pair (sym e) (pair-written (d.inner o.guard) o.place o.within v) p;
      }

  pub written-with : (o : HeldOccupied G N K V S R T d g h b w rules) (v : V) → IsWritten o v (with_value o v)
  written-with o v = written-after o (d.inner o.guard) (written_cache o v) v refl refl (still_within o v)

  -- if a pair is put through the guard, the returned entry stands at that pair
  pub put-after : (same : K → K → Bool) (e : HeldVacant G N K V S R T d g h b w rules) (m n : Cached (K × V) S) (v : V) (x : Option (K × V)) (o : HeldOccupied G N K V S R T d g h b w rules) (q : Place) → o.guard ≡ d.with_inner e.guard n → o.place ≡ q → o.rest ≡ e.rest → m ≡ d.inner e.guard
      → PutsNew (key_hash b w h.hash_input m.contents) same m (e.key, v) x n → RelocatesTwoWithin (key_hash b w h.hash_input m.contents e.key) m.contents n.contents → (IsPreparedForPut (key_hash b w h.hash_input m.contents) m e.key → bucket_count n.contents ≡ bucket_count m.contents) → slice_get (list_of n.contents (spot_of n.contents q).bucket) (spot_of n.contents q).slot ≡ Some (e.key, v) → IsPut same e v x o
  put-after same e m n v x o q guarded placed rests is step moved once got =
      let k : d.inner o.guard ≡ n = ap d.inner guarded ∙ d.inner_law e.guard n in
      record {
        same_guard = guarded ∙ ap (d.with_inner e.guard) (sym k);
        rest = rests;
        step = subst (λ c. PutsNew (key_hash b w h.hash_input c.contents) same c (e.key, v) x (d.inner o.guard)) is (subst (λ c. PutsNew (key_hash b w h.hash_input m.contents) same m (e.key, v) x c) (sym k) step);
        relocates = subst (λ c. RelocatesTwoWithin (key_hash b w h.hash_input c.contents e.key) c.contents (d.inner o.guard).contents) is (subst (λ c. RelocatesTwoWithin (key_hash b w h.hash_input m.contents e.key) m.contents c.contents) (sym k) moved);
        once = subst (λ c. IsPreparedForPut (key_hash b w h.hash_input c.contents) c e.key → bucket_count (d.inner o.guard).contents ≡ bucket_count c.contents) is (subst (λ c. IsPreparedForPut (key_hash b w h.hash_input m.contents) m e.key → bucket_count c.contents ≡ bucket_count m.contents) (sym k) once);
        pair = sym (pair-is o n (e.key, v) (sym k) (subst (λ a. slice_get (list_of n.contents (spot_of n.contents a).bucket) (spot_of n.contents a).slot ≡ Some (e.key, v)) (sym placed) got));
      }

  -- an entry that is made again from its parts is equal to the entry
  pub same-entry : (o : HeldOccupied G N K V S R T d g h b w rules) (p : IsPlace (d.inner o.guard).contents o.place) → record o { within = p } ≡ o
  same-entry o p = ap (λ r. record o { within = r }) (place-prop (d.inner o.guard).contents o.place p o.within)

  -- if the pair of k was moved through the guard s, the entry of the guard that results stands at the moved pair
  pub refreshed-under : (same : K → K → Bool) (s : G) (m n : Cached (K × V) S) (k : K) (o : HeldOccupied G N K V S R T d g h b w rules) (q : Place) → m ≡ d.inner s → o.guard ≡ d.with_inner s n → o.place ≡ q → IsLastAt (key_hash b w h.hash_input m.contents) same m k n q → RelocatesOne (key_hash b w h.hash_input m.contents k) m.contents n.contents → IsRefreshed same (d.inner s) k o
  refreshed-under same s m n k o q is guarded placed at r =
      let kept : d.inner o.guard ≡ n = ap d.inner guarded ∙ d.inner_law s n in
      let Last : Cached (K × V) S → Cached (K × V) S → Type 0 = λ c x. IsLastAt (key_hash b w h.hash_input c.contents) same c k x o.place in
      let there : Last m n = subst (λ p. IsLastAt (key_hash b w h.hash_input m.contents) same m k n p) (sym placed) at in
      let One : Cached (K × V) S → Cached (K × V) S → Type 0 = λ c x. RelocatesOne (key_hash b w h.hash_input c.contents k) c.contents x.contents in
      refreshed_at same (d.inner s) k o (subst (λ c. Last c (d.inner o.guard)) is (subst (Last m) (sym kept) there)) (subst (λ c. One c (d.inner o.guard)) is (subst (One m) (sym kept) r))

  -- an occupied entry is returned unchanged
  module _ (same-key : K → K → Bool) (e : HeldEntry G N K V S R T d g h b w rules) (o : HeldOccupied G N K V S R T d g h b w rules) (r : Result (Option (K × V) × HeldOccupied G N K V S R T d g h b w rules) (InsertError K V)) (is : e ≡ Occupied o) (same : r ≡ Ok (None, o)) where
    pub or-handed : (v : V) → IfOk r (λ x. OrPuts same-key e v x.0 x.1)
    or-handed v = subst (λ z. IfOk r (λ x. OrPuts same-key z v x.0 x.1)) (sym is) (subst (λ y. IfOk y (λ x. OrPuts same-key (Occupied o) v x.0 x.1)) (sym same) (refl, refl))

    pub some-handed : (P : K → V → Type 0) → IfOk r (λ x. OrPutsSome same-key e P x.0 x.1)
    some-handed P = subst (λ z. IfOk r (λ x. OrPutsSome same-key z P x.0 x.1)) (sym is) (subst (λ y. IfOk y (λ x. OrPutsSome same-key (Occupied o) P x.0 x.1)) (sym same) (refl, refl))

  -- through a vacant entry, a value is put
  module _ (e : HeldEntry G N K V S R T d g h b w rules) (x : HeldVacant G N K V S R T d g h b w rules) (r : Result (Option (K × V) × HeldOccupied G N K V S R T d g h b w rules) (InsertError K V)) (is : e ≡ Vacant x) where
    pub or-refused : (v : V) → IfErr r (λ i. (i ≡ Memory (x.key, v)) × (bucket_count (d.inner x.guard).contents ≡ 0)) → IfErr r (Refuses e v)
    or-refused v back = subst (λ z. IfErr r (Refuses z v)) (sym is) (map-err (λ i. (i ≡ Memory (x.key, v)) × (bucket_count (d.inner x.guard).contents ≡ 0)) (Refuses (Vacant x) v) r (λ i b. (b.1, b.0)) back)

    pub some-refused : (P : K → V → Type 0) (v : V) → P x.key v → IfErr r (λ i. (i ≡ Memory (x.key, v)) × (bucket_count (d.inner x.guard).contents ≡ 0)) → IfErr r (RefusesSome e P)
    some-refused P v gave back = subst (λ z. IfErr r (RefusesSome z P)) (sym is) (map-err (λ i. (i ≡ Memory (x.key, v)) × (bucket_count (d.inner x.guard).contents ≡ 0)) (RefusesSome (Vacant x) P) r (λ i b. (b.1, (v, gave, b.0))) back)

    pub or-put : (same-key : K → K → Bool) (v : V) → IfOk r (λ y. IsPut same-key x v y.0 y.1) → IfOk r (λ y. OrPuts same-key e v y.0 y.1)
    or-put same-key v put = subst (λ z. IfOk r (λ y. OrPuts same-key z v y.0 y.1)) (sym is) put

    pub some-put : (same-key : K → K → Bool) (P : K → V → Type 0) (v : V) → P x.key v → IfOk r (λ y. IsPut same-key x v y.0 y.1) → IfOk r (λ y. OrPutsSome same-key e P y.0 y.1)
    some-put same-key P v gave put = subst (λ z. IfOk r (λ y. OrPutsSome same-key z P y.0 y.1)) (sym is) (map-ok (λ y. IsPut same-key x v y.0 y.1) (λ y. OrPutsSome same-key (Vacant x) P y.0 y.1) r (λ y i. (v, gave, i)) put)

    pub sets-put : (same-key : K → K → Bool) (v : V) → IfOk r (λ y. IsPut same-key x v y.0 y.1) → IfOk r (λ y. SetsEntry same-key e v y.0 y.1)
    sets-put same-key v put = subst (λ z. IfOk r (λ y. SetsEntry same-key z v y.0 y.1)) (sym is) put

  -- if P' implies P, a put of a value for which P' holds is a put of a value for which P holds
  pub puts-as : {X : Type 0} {P' : K → V → Type 0} (same : K → K → Bool) (P : K → V → Type 0) (e : HeldEntry G N K V S R T d g h b w rules) (r : Result (Option (K × V) × HeldOccupied G N K V S R T d g h b w rules) X) → IfOk r (λ y. OrPutsSome same e P' y.0 y.1) → ((k : K) (v : V) → P' k v → P k v) → IfOk r (λ y. OrPutsSome same e P y.0 y.1)
  puts-as same P (Occupied p) (Ok y) i f = i
  puts-as same P (Vacant e) (Ok y) i f = (i.0, f e.key i.0 i.1, i.2)
  puts-as same P e (Err x) i f = tt

  -- a failed put of a value that a closure makes meets the contract for P and Q if it meets that for P' and Q', which
  -- imply them
  pub fails-as : {A X : Type 0} {P' : K → V → Type 0} {Q' : K → X → Type 0} (P : K → V → Type 0) (Q : K → X → Type 0) (e : HeldEntry G N K V S R T d g h b w rules) (r : Result A (TryInsertError K V X)) → IfErr r (FailsOrRefuses e P' Q') → ((k : K) (v : V) → P' k v → P k v) → ((k : K) (x : X) → Q' k x → Q k x) → IfErr r (FailsOrRefuses e P Q)
  fails-as P Q e (Ok a) t f g = tt
  fails-as P Q e (Err (Failed x)) t f g = record { vacant = t.vacant; failed = g (entry_key e) x t.failed }
  fails-as P Q (Occupied o) (Err (NoMemory p)) t f g = absurd t
  fails-as P Q (Vacant e) (Err (NoMemory p)) t f g = (t.0, (t.1.0, f e.key t.1.0 t.1.1, t.1.2))

  -- through a vacant entry, a put of the value that a closure makes has an outcome as the contract says
  module _ (e : HeldEntry G N K V S R T d g h b w rules) (x : HeldVacant G N K V S R T d g h b w rules) (is : e ≡ Vacant x) {X : Type 0} (P : K → V → Type 0) (Q : K → X → Type 0) where
    pub made-put : (same : K → K → Bool) (v : V) (out : Option (K × V)) (o : HeldOccupied G N K V S R T d g h b w rules) → P x.key v → IsPut same x v out o → OrPutsSome same e P out o
    made-put same v out o gave put = subst (λ z. OrPutsSome same z P out o) (sym is) (v, gave, put)

    pub made-refused : (v : V) (p : K × V) → P x.key v → p ≡ (x.key, v) → bucket_count (d.inner x.guard).contents ≡ 0 → FailsOrRefuses e P Q (NoMemory p)
    made-refused v p gave back none = subst (λ z. RefusesSome z P (Memory p)) (sym is) (none, (v, gave, ap (λ q. Memory q) back))

  -- what a closure makes for a vacant entry keeps the rule under its key
  pub keeps-vacant : (e : HeldEntry G N K V S R T d g h b w rules) (x : HeldVacant G N K V S R T d g h b w rules) → e ≡ Vacant x → (P holds : K → V → Type 0) (v : V) → (IsVacant e → (y : V) → P (entry_key e) y → holds (entry_key e) y) → P x.key v → holds x.key v
  keeps-vacant e x is P holds v keeps made = (subst (λ z. IsVacant z → (y : V) → P (entry_key z) y → holds (entry_key z) y) is keeps) tt v made

  -- the pair that a put at a vacant entry evicts is evicted for the key of the entry
  pub evicted-at : {A B : Type 0} (same : K → K → Bool) (holds : K → V → Type 0) (e : HeldEntry G N K V S R T d g h b w rules) (x : HeldVacant G N K V S R T d g h b w rules) → e ≡ Vacant x → (r : Result (Option (K × V) × A) B) → IfOk r (λ y. IsEvictedFor same holds x.key y.0) → IfOk r (λ y. IsEvictedFor same holds (entry_key e) y.0)
  evicted-at same holds e x is r out = subst (λ z. IfOk r (λ y. IsEvictedFor same holds (entry_key z) y.0)) (sym is) out

  -- if a closure fails at a vacant entry, its error comes back
  pub fails-at : {X : Type 0} (Q : K → X → Type 0) (e : HeldEntry G N K V S R T d g h b w rules) (x : HeldVacant G N K V S R T d g h b w rules) (y : X) → e ≡ Vacant x → Q x.key y → FailsAtVacant e Q y
  fails-at Q e x y is gave = subst (λ z. FailsAtVacant z Q y) (sym is) (record { vacant = tt; failed = gave })

module _ {N K V S R T : Type 0} {d : guard.Ghosts (MutBor (Cached (K × V) S)) (Cached (K × V) S)} {g : eq.Ghosts K} {h : hash.Ghosts K} {b : builder.Ghosts S T} {rules : rule.Ghosts R K V} {w : hasher.Ghosts T} where
  -- the cache that a vacant entry borrows
  pub vacant-now : (e : HeldEntry (MutBor (Cached (K × V) S)) N K V S R T d g h b w rules) (x : HeldVacant (MutBor (Cached (K × V) S)) N K V S R T d g h b w rules) → e ≡ Vacant x → x.guard.now ≡ (entry_guard e).now
  vacant-now e x is = ap (λ (z : HeldEntry (MutBor (Cached (K × V) S)) N K V S R T d g h b w rules). (entry_guard z).now) (sym is)
