-- The words of an entry's contracts. An entry holds its cache by a guard, which is a `&mut` in the owned form.
pub use Rattle.scc_owned_cache.specs.declared.held.HeldEntry.TheVariants.{Occupied, Vacant}
pub use Rattle.scc_common.specs.declared.errors.InsertError.TheVariants.{Exists, Memory}
use Rattle.std.specs.Prelude.{◌≡◌, ◌+◌, Bool, [], length, Option, None, Result, ⊤}
use Rattle.std.specs.Borrow.{Fml, RattleType, MutBor, Lends, RestsIfErr, RestsIfNone}
use Rattle.std.specs.HashMap.Lent.{HashMembers}
use Rattle.std.specs.Fn.{Once, FnOnceTakesAtMut, FnOnceReturnsAtMut}
use Rattle.std.specs.List.{slice_index_or, slice_set}
use Rattle.std.specs.declared.cmp.PartialEq as eq
use Rattle.std.specs.declared.hash.Hash as hash
use Rattle.std.specs.declared.hash.Hasher as hasher
use Rattle.std.specs.declared.hash.BuildHasher as builder
use Rattle.scc_common.specs.declared.rule.Rule as rule
use Rattle.std.proofs.Common.{sym, subst}
use Rattle.scc_common.specs.Contents.{bucket_count, key_hash, list_of, waiting_of}
use Rattle.scc_common.specs.Pairs.{with_pair_value}
use Rattle.scc_buckets.specs.declared.place.Place.{Place}
use Rattle.scc_table.specs.Placed.{entry_of, IsPlace-with_write_at}
use Rattle.scc_table.specs.Places.{IsPlace, spot_of}
use Rattle.scc_common.specs.declared.errors.InsertError.{InsertError}
use Rattle.scc_common.specs.declared.errors.TryInsertError.{TryInsertError}
use Rattle.scc_common.specs.declared.errors.TryInsertError.TheVariants.{Failed, Memory as NoMemory}
use Rattle.scc_common.specs.declared.guard.Guard as guard
use Rattle.scc_owned_cache.specs.CacheSteps.{ChangesLists, IsAbsent, IsPreparedForPut, PutsNew, list_number}
use Rattle.scc_owned_cache.specs.Caches.{Cached}
use Rattle.scc_owned_cache.specs.Lends.{cache_row, with_value_at}
use Rattle.scc_owned_cache.specs.ListSteps.{RefreshesAs}
use Rattle.scc_owned_cache.specs.Relocations.{RelocatesOne, RelocatesTwoWithin}
use Rattle.scc_owned_cache.specs.contracts.held.HeldOccupied.{the_row}
use Rattle.scc_owned_cache.specs.declared.held.HeldOccupied.{HeldOccupied}
use Rattle.scc_owned_cache.specs.declared.held.HeldEntry.{HeldEntry}
use Rattle.scc_owned_cache.specs.declared.held.HeldReplace.{HeldReplace}
use Rattle.scc_owned_cache.specs.declared.held.HeldReplace.TheVariants.{Replaced, NotReplaced}
use Rattle.scc_owned_cache.specs.declared.held.HeldVacant.{HeldVacant}

module _ {G N K V S R T : Type 0} {d : guard.Ghosts G (Cached (K × V) S)} {g : eq.Ghosts K} {h : hash.Ghosts K} {b : builder.Ghosts S T} {rules : rule.Ghosts R K V} {w : hasher.Ghosts T} where
  -- the cache that the entry holds
  abbrev pub occupied_cache : HeldOccupied G N K V S R T d g h b w rules → Cached (K × V) S
  occupied_cache o = d.inner o.guard

  -- the pair of the entry
  abbrev pub occupied_pair : HeldOccupied G N K V S R T d g h b w rules → K × V
  occupied_pair o = entry_of (d.inner o.guard).contents o.place o.within

  -- the guard of an occupied entry
  abbrev pub occupied_guard : HeldOccupied G N K V S R T d g h b w rules → G
  occupied_guard o = o.guard

  -- the place of an occupied entry
  abbrev pub occupied_place : HeldOccupied G N K V S R T d g h b w rules → Place
  occupied_place o = o.place

  -- the guard of a vacant entry
  abbrev pub vacant_guard : HeldVacant G N K V S R T d g h b w rules → G
  vacant_guard e = e.guard

  -- the key of a vacant entry
  abbrev pub vacant_key : HeldVacant G N K V S R T d g h b w rules → K
  vacant_key e = e.key

  -- the guard of the entry's cache
  abbrev pub entry_guard : HeldEntry G N K V S R T d g h b w rules → G
  entry_guard (Occupied o) = o.guard
  entry_guard (Vacant e) = e.guard

  -- p, the pair of k, was taken out of its list, and the pair of o stands last in that list, at the place of o
  pub record IsMoved (same : K → K → Bool) (c : Cached (K × V) S) (k : K) (p : K × V) (o : HeldOccupied G N K V S R T d g h b w rules) : Type 0 where
    pub changes : ChangesLists (RefreshesAs (list_number (key_hash b w h.hash_input c.contents) c.contents) same k p (occupied_pair o)) c (d.inner o.guard)
    pub relocates : RelocatesOne (key_hash b w h.hash_input c.contents k) c.contents (d.inner o.guard).contents
    pub bucket : (spot_of (d.inner o.guard).contents o.place).bucket ≡ list_number (key_hash b w h.hash_input c.contents) c.contents (bucket_count c.contents) k
    pub last : (spot_of (d.inner o.guard).contents o.place).slot + 1 ≡ length (list_of (d.inner o.guard).contents (spot_of (d.inner o.guard).contents o.place).bucket)

  -- the pair of k moved to the end of its list, and o stands there
  abbrev pub IsRefreshed : (K → K → Bool) → Cached (K × V) S → K → HeldOccupied G N K V S R T d g h b w rules → Type 0
  IsRefreshed same c k o = IsMoved same c k (occupied_pair o) o

  -- the cache is c, and e has the key k, which the cache lacks
  pub record IsVacantAt (same : K → K → Bool) (c : Cached (K × V) S) (k : K) (e : HeldVacant G N K V S R T d g h b w rules) : Type 0 where
    pub contents : d.inner e.guard ≡ c
    pub absent : IsAbsent (key_hash b w h.hash_input c.contents) same c.contents k
    pub key : e.key ≡ k

  -- the entry is the entry of k: occupied at the refreshed pair if the cache has k, else vacant
  abbrev pub IsEntryOf : (K → K → Bool) → Cached (K × V) S → K → HeldEntry G N K V S R T d g h b w rules → Type 0
  IsEntryOf same c k (Occupied o) = IsRefreshed same c k o
  IsEntryOf same c k (Vacant e) = IsVacantAt same c k e

  -- p is the entry o after v became its value: all pairs stay at their places
  pub record IsWritten (o : HeldOccupied G N K V S R T d g h b w rules) (v : V) (p : HeldOccupied G N K V S R T d g h b w rules) : Type 0 where
    pub same_guard : p.guard ≡ d.with_inner o.guard (d.inner p.guard)
    pub rest : p.rest ≡ o.rest
    pub place : p.place ≡ o.place
    pub changes : ChangesLists (λ ls ms. ms ≡ slice_set ls (spot_of (d.inner o.guard).contents o.place).bucket (slice_set (slice_index_or ls (spot_of (d.inner o.guard).contents o.place).bucket []) (spot_of (d.inner o.guard).contents o.place).slot ((occupied_pair o).0, v))) (d.inner o.guard) (d.inner p.guard)
    pub waiting : waiting_of (d.inner p.guard).contents ≡ waiting_of (d.inner o.guard).contents
    pub pair : occupied_pair p ≡ ((occupied_pair o).0, v)

  -- o stands at the pair that was put in through e, and x is the evicted pair, if any
  pub record IsPut (same : K → K → Bool) (e : HeldVacant G N K V S R T d g h b w rules) (v : V) (x : Option (K × V)) (o : HeldOccupied G N K V S R T d g h b w rules) : Type 0 where
    pub same_guard : o.guard ≡ d.with_inner e.guard (d.inner o.guard)
    pub rest : o.rest ≡ e.rest
    pub step : PutsNew (key_hash b w h.hash_input (d.inner e.guard).contents) same (d.inner e.guard) (e.key, v) x (d.inner o.guard)
    pub relocates : RelocatesTwoWithin (key_hash b w h.hash_input (d.inner e.guard).contents e.key) (d.inner e.guard).contents (d.inner o.guard).contents
    -- if the put was prepared, the number of buckets stays
    pub once : IsPreparedForPut (key_hash b w h.hash_input (d.inner e.guard).contents) (d.inner e.guard) e.key → bucket_count (d.inner o.guard).contents ≡ bucket_count (d.inner e.guard).contents
    pub pair : occupied_pair o ≡ (e.key, v)

  -- the cache after v became the value of the entry's pair
  abbrev pub written_cache : HeldOccupied G N K V S R T d g h b w rules → V → Cached (K × V) S
  written_cache o v = with_value_at (d.inner o.guard) o.place v

  -- the place of an entry is still a place after a write to it
  pub still_within : (o : HeldOccupied G N K V S R T d g h b w rules) (v : V) → IsPlace (d.inner (d.with_inner o.guard (written_cache o v))).contents o.place
  still_within o v =
      let P : Cached (K × V) S → Type 0 = λ c. IsPlace c.contents o.place in
      subst P (sym (d.inner_law o.guard (written_cache o v))) (IsPlace-with_write_at with_pair_value (d.inner o.guard).contents o.place v o.within)

  -- o after v became its value
  abbrev pub with_value : HeldOccupied G N K V S R T d g h b w rules → V → HeldOccupied G N K V S R T d g h b w rules
  with_value o v = record {
    guard = d.with_inner o.guard (written_cache o v);
    place = o.place;
    rest = o.rest;
    of = o.of;
    within = still_within o v;
  }

  -- the stored key of an occupied entry, or the key of a vacant entry
  abbrev pub entry_key : HeldEntry G N K V S R T d g h b w rules → K
  entry_key (Occupied o) = (occupied_pair o).0
  entry_key (Vacant e) = e.key

  -- the cache lacks the key of the entry
  abbrev pub IsVacant : HeldEntry G N K V S R T d g h b w rules → Type 0
  IsVacant (Occupied o) = ⊥
  IsVacant (Vacant e) = ⊤

  -- o is the entry; if the entry was vacant, a value for which P holds was put in and x is the evicted pair, if any;
  -- else nothing was evicted
  abbrev pub OrPutsSome : (K → K → Bool) → HeldEntry G N K V S R T d g h b w rules → (K → V → Type 0) → Option (K × V) → HeldOccupied G N K V S R T d g h b w rules → Type 0
  OrPutsSome same (Occupied p) P x o = (x ≡ None) × (o ≡ p)
  OrPutsSome same (Vacant e) P x o = (v : V) × P e.key v × IsPut same e v x o

  -- o is the entry; if the entry was vacant, v was inserted
  abbrev pub OrPuts : (K → K → Bool) → HeldEntry G N K V S R T d g h b w rules → V → Option (K × V) → HeldOccupied G N K V S R T d g h b w rules → Type 0
  OrPuts same (Occupied p) v x o = (x ≡ None) × (o ≡ p)
  OrPuts same (Vacant e) v x o = IsPut same e v x o

  -- o is the entry, with v as its value; if the entry was vacant, v was inserted
  abbrev pub SetsEntry : (K → K → Bool) → HeldEntry G N K V S R T d g h b w rules → V → Option (K × V) → HeldOccupied G N K V S R T d g h b w rules → Type 0
  SetsEntry same (Occupied p) v x o = (x ≡ None) × IsWritten p v o
  SetsEntry same (Vacant e) v x o = IsPut same e v x o

  -- memory is refused only at a vacant entry of a cache without an array: the key comes back with a value for which P
  -- holds
  abbrev pub RefusesSome : HeldEntry G N K V S R T d g h b w rules → (K → V → Type 0) → InsertError K V → Type 0
  RefusesSome (Occupied o) P r = ⊥
  RefusesSome (Vacant e) P r = (bucket_count (d.inner e.guard).contents ≡ 0) × ((v : V) × P e.key v × (r ≡ Memory (e.key, v)))

  -- the closure that was to make the value for the entry e failed with x
  pub record FailsAtVacant {X : Type 0} (e : HeldEntry G N K V S R T d g h b w rules) (Q : K → X → Type 0) (x : X) : Type 0 where
    -- the closure is called only at a vacant entry
    pub vacant : IsVacant e
    -- Q holds of the key and the error
    pub failed : Q (entry_key e) x

  -- a value that a closure makes wasn't put in: at a vacant entry the closure failed, and Q holds of the key and the
  -- error, or memory was refused as for the put of a value for which P holds
  abbrev pub FailsOrRefuses : {X : Type 0} → HeldEntry G N K V S R T d g h b w rules → (K → V → Type 0) → (K → X → Type 0) → TryInsertError K V X → Type 0
  FailsOrRefuses e P Q (Failed x) = FailsAtVacant e Q x
  FailsOrRefuses e P Q (NoMemory p) = RefusesSome e P (Memory p)

  -- memory is refused only at a vacant entry of a cache without an array: the key comes back with v
  abbrev pub Refuses : HeldEntry G N K V S R T d g h b w rules → V → InsertError K V → Type 0
  Refuses (Occupied o) v r = ⊥
  Refuses (Vacant e) v r = (bucket_count (d.inner e.guard).contents ≡ 0) × (r ≡ Memory (e.key, v))

  -- the guard of the entry's cache
  abbrev pub replaced_guard : HeldReplace G N K V S R T d g h b w rules → G
  replaced_guard (Replaced o k) = o.guard
  replaced_guard (NotReplaced e) = e.guard

  -- the pair of k, whose key was `old`, moved to the end of its list with k as its key, and o stands there
  pub record IsReplacedBy (same : K → K → Bool) (c : Cached (K × V) S) (k old : K) (o : HeldOccupied G N K V S R T d g h b w rules) : Type 0 where
    pub value : V
    pub pair : occupied_pair o ≡ (k, value)
    pub moved : IsMoved same c k (old, value) o

  -- k is put in the place of the key that equals it, and o stands at its refreshed pair; if no key equals k, nothing
  -- changes
  abbrev pub Replaces : (K → K → Bool) → Cached (K × V) S → K → HeldReplace G N K V S R T d g h b w rules → Type 0
  Replaces same c k (Replaced o old) = IsReplacedBy same c k old o
  Replaces same c k (NotReplaced e) = IsVacantAt same c k e

  module _ {F : Type 0} (holds : K → V → Type 0) (f : Once F (MutBor V × Unit {0}) (Unit {0} × (MutBor V × Unit {0}))) (x : F) where
    -- f may be called on the value, which keeps the rule
    abbrev pub TakesEntry : HeldEntry G N K V S R T d g h b w rules → Type 0
    TakesEntry (Occupied o) = holds (occupied_pair o).0 (occupied_pair o).1 → FnOnceTakesAtMut f x (occupied_pair o).1
    TakesEntry (Vacant e) = ⊤

    -- what f leaves keeps the rule
    abbrev pub KeepsEntry : HeldEntry G N K V S R T d g h b w rules → Type 0
    KeepsEntry (Occupied o) = (v : V) → holds (occupied_pair o).0 (occupied_pair o).1 → FnOnceReturnsAtMut f x (occupied_pair o).1 tt v → holds (occupied_pair o).0 v
    KeepsEntry (Vacant e) = ⊤

  module _ {F : Type 0} (f : Once F (MutBor V × Unit {0}) (Unit {0} × (MutBor V × Unit {0}))) (x : F) where
    -- the entry after f was called on its value
    abbrev pub Modifies : HeldEntry G N K V S R T d g h b w rules → HeldEntry G N K V S R T d g h b w rules → Type 0
    Modifies (Occupied o) (Occupied p) = (v : V) × FnOnceReturnsAtMut f x (occupied_pair o).1 tt v × IsWritten o v p
    Modifies (Vacant e) (Vacant p) = p ≡ e
    Modifies e p = ⊥

module _ (G N K V S R T : RattleType) {d : guard.Ghosts G.Denot (Cached (K.Denot × V.Denot) S.Denot)} {g : eq.Ghosts K.Denot} {h : hash.Ghosts K.Denot} {b : builder.Ghosts S.Denot T.Denot} {rules : rule.Ghosts R.Denot K.Denot V.Denot} {w : hasher.Ghosts T.Denot} where
  -- after the borrow y ends, the entry behind o has the last value written through y
  abbrev pub occupied_lends : MutBor (HeldOccupied G.Denot N.Denot K.Denot V.Denot S.Denot R.Denot T.Denot d g h b w rules) → MutBor V.Denot → Fml
  occupied_lends o y = Lends (the_row G N K V S R T d g h b w rules) V o y (with_value o.now)

module _ (K V S R T : RattleType) (key : HashMembers K.Denot) (build : builder.Ghosts S.Denot T.Denot) (rules : rule.Ghosts R.Denot K.Denot V.Denot) (feed : hasher.Ghosts T.Denot) where
  -- an entry of a borrowed cache
  abbrev pub Borrowed : (N : Type 0) → guard.Ghosts (MutBor (Cached (K.Denot × V.Denot) S.Denot)) (Cached (K.Denot × V.Denot) S.Denot) → eq.Ghosts K.Denot → hash.Ghosts K.Denot → builder.Ghosts S.Denot T.Denot → hasher.Ghosts T.Denot → rule.Ghosts R.Denot K.Denot V.Denot → Type 0
  Borrowed N d g h b w q = HeldOccupied (MutBor (Cached (K.Denot × V.Denot) S.Denot)) N K.Denot V.Denot S.Denot R.Denot T.Denot d g h b w q

  -- if r has no entry, the cache behind m is unchanged
  abbrev pub rests_if_refused : {A E N : Type 0} {d : guard.Ghosts (MutBor (Cached (K.Denot × V.Denot) S.Denot)) (Cached (K.Denot × V.Denot) S.Denot)} {g : eq.Ghosts K.Denot} {h : hash.Ghosts K.Denot} {b : builder.Ghosts S.Denot T.Denot} {q : rule.Ghosts R.Denot K.Denot V.Denot} {w : hasher.Ghosts T.Denot}
      → MutBor (Cached (K.Denot × V.Denot) S.Denot) → Result (A × Borrowed N d g h b w q) E → Fml
  rests_if_refused m r = RestsIfErr (cache_row K V S R T key build rules feed) m (λ o. o.1.guard.ghost_name) r (λ n. n ≡ m.now)

  -- if r has no entry, the cache behind m is unchanged
  abbrev pub rests_if_none : {N : Type 0} {d : guard.Ghosts (MutBor (Cached (K.Denot × V.Denot) S.Denot)) (Cached (K.Denot × V.Denot) S.Denot)} {g : eq.Ghosts K.Denot} {h : hash.Ghosts K.Denot} {b : builder.Ghosts S.Denot T.Denot} {q : rule.Ghosts R.Denot K.Denot V.Denot} {w : hasher.Ghosts T.Denot}
      → MutBor (Cached (K.Denot × V.Denot) S.Denot) → Option (Borrowed N d g h b w q) → Fml
  rests_if_none m r = RestsIfNone (cache_row K V S R T key build rules feed) m (λ o. o.guard.ghost_name) r (λ n. n ≡ m.now)
