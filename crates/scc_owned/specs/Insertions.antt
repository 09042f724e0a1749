-- What an insertion does: at a place of a container, and through an entry. `made` gives the entry of the table that is
-- made of a key and a value, and `taking` tells whether it takes memory of its own, as a version does.
pub use Rattle.scc_common.specs.declared.errors.InsertError.TheVariants.{Exists, Memory}
use Rattle.std.specs.Prelude.{◌≡◌, ℕ, Bool, true, false, Result, Ok, Err, IfOk, IfErr, ⊤}
use Rattle.std.specs.Result.{OnOk, OnErr}
use Rattle.std.specs.Borrow.{Fml, RattleType, MutBor, RestsIfErr}
use Rattle.std.specs.HashMap.Lent.{HashMembers}
use Rattle.std.specs.declared.cmp.PartialEq as eq
use Rattle.std.specs.declared.hash.Hash as hash
use Rattle.std.specs.declared.hash.Hasher as hasher
use Rattle.std.specs.declared.hash.BuildHasher as builder
use Rattle.scc_buckets.specs.declared.place.Place.{Place}
use Rattle.scc_common.specs.Contents.{Contents, bucket_count, hash_in, key_hash, waiting_of, HasRoomBy, IsUniqueBy}
use Rattle.scc_common.specs.Steps.{FirstArrayWhenDue, GrowsForInsertion, GrowsWhenDue, IsPreparedFor, IsUnchanged, Rests}
use Rattle.scc_common.specs.declared.errors.InsertError.{InsertError}
use Rattle.scc_common.specs.declared.entry.Keyed as keyed
use Rattle.scc_common.specs.declared.guard.Guard as guard
use Rattle.scc_common.specs.declared.errors.TryInsertError.{TryInsertError}
use Rattle.scc_common.specs.declared.errors.TryInsertError.TheVariants.{Failed, Memory as NoMemory}
use Rattle.scc_table.specs.Placed.{IsPutAt}
use Rattle.scc_table.specs.Places.{IsInsertedAt}
use Rattle.scc_table.specs.Relocations.{Relocates, RelocatesTwo}
use Rattle.scc_owned.specs.Held.{Occupied, Vacant, Borrowed, occupied_contents, entry_guard, entry_key}
use Rattle.scc_owned.specs.Lends.{owned_row}
use Rattle.scc_owned.specs.declared.held.HeldOccupied.{HeldOccupied}
use Rattle.scc_owned.specs.declared.held.HeldEntry.{HeldEntry}
use Rattle.scc_owned.specs.declared.held.HeldVacant.{HeldVacant}

module _ {E K S : Type 0} (key : E → K) where
  -- from c to d the array was made or grew as an insertion of the new key k may and must make or grow it
  pub record IsGrownFor (hash : K → ℕ) (c : Contents E S) (k : K) (d : Contents E S) : Type 0 where
    pub grows : GrowsForInsertion hash key c k d
    pub first : FirstArrayWhenDue c d
    -- if the insertion was prepared, the number of buckets stays
    pub once : IsPreparedFor hash key c k → bucket_count d ≡ bucket_count c

  -- d is c after an insertion of the new key k into a map was refused memory: unchanged, or resized once as that
  -- insertion may and must be resized, with distinct keys; only buckets wait that an insertion leaves waiting
  pub record RestsOfMap (same : K → K → Bool) (hash : K → ℕ) (c : Contents E S) (k : K) (d : Contents E S) : Type 0 where
    pub rests : Rests c d
    pub grows : GrowsForInsertion hash key c k d
    -- if the insertion was prepared, the number of buckets stays
    pub once : IsPreparedFor hash key c k → bucket_count d ≡ bucket_count c
    pub relocates : Relocates c d
    pub unique : IsUniqueBy same key d

  -- d is c after an insertion of the new key k into an index was refused memory: no entry, bucket or setting changed; if a
  -- growth was due, the note of refused memory is up, and else it stayed; only buckets wait that an insertion leaves
  -- waiting
  pub record RestsOfIndex (hash : K → ℕ) (c : Contents E S) (k : K) (d : Contents E S) : Type 0 where
    pub unchanged : IsUnchanged c d
    pub due : GrowsWhenDue hash key c k d
    pub relocates : Relocates c d

  -- d is c after an insertion of the new key k was refused memory
  abbrev pub RestsRefused : Bool → (K → K → Bool) → (K → ℕ) → Contents E S → K → Contents E S → Type 0
  RestsRefused false same hash c k d = RestsOfMap same hash c k d
  RestsRefused true same hash c k d = RestsOfIndex hash c k d

  -- d is c after an insertion of the new key k, whose value a closure makes, returned r without an entry: unchanged if
  -- the closure failed, else as after an insertion that was refused memory
  abbrev pub RestsTried : {V X O : Type 0} → Bool → (K → K → Bool) → (K → ℕ) → Contents E S → K → Result O (TryInsertError K V X) → Contents E S → Type 0
  RestsTried taking same hash c k (Ok o) d = ⊤
  RestsTried taking same hash c k (Err (NoMemory p)) d = RestsRefused taking same hash c k d
  RestsTried taking same hash c k (Err (Failed x)) d = d ≡ c

  -- if an entry takes no memory of its own, the bucket of k has no room
  abbrev pub IsFullBy : Bool → (S → K → ℕ) → Contents E S → K → Type 0
  IsFullBy false hash_of c k = HasRoomBy (hash_in hash_of c) key c k → ⊥
  IsFullBy true hash_of c k = ⊤

  -- the contract of `insert_into`: with the key k, which is new, and a value v, of which the entry e is made, it returns
  -- `result`, and turns c into d
  pub record InsertsInto {V : Type 0} (same : K → K → Bool) (hash_of : S → K → ℕ) (taking : Bool) (c : Contents E S) (k : K) (v : V) (e : E) (result : Result Place (K × V)) (d : Contents E S) : Type 0 where
    -- the entry is inserted, and the result is its place
    pub ok : IfOk result (IsInsertedAt c e d)
    -- if memory is refused, key and value come back
    pub refused : IfErr result (λ q. q ≡ (k, v))
    -- what is left if memory is refused
    pub rests : OnErr result (RestsRefused taking same (hash_in hash_of c) c k d)
    -- if an entry takes no memory of its own, memory is refused only if the bucket of the key has no room
    pub full : OnErr result (IsFullBy taking hash_of c k)
    -- if it succeeds, the array grew as an insertion of the key may and must grow it
    pub growth : OnOk result (IsGrownFor (hash_in hash_of c) c k d)
    -- it relocates at most two buckets
    pub relocates : Relocates c d
    -- it relocates the key's own bucket first and then the first ones that wait, two in all, or all if fewer wait; if
    -- some of them are long, at least those before a long one
    pub two : OnOk result (RelocatesTwo (hash_in hash_of c k) c d)
    -- no two keys are equal
    pub unique : IsUniqueBy same key d

module _ {G N E V S K T : Type 0} {d : guard.Ghosts G (Contents E S)} {y : keyed.Ghosts E K} {b : builder.Ghosts S T} {w : hasher.Ghosts T} {g : eq.Ghosts K} {h : hash.Ghosts K} (made : K → V → E) where
  -- o stands at the pair that was inserted through e
  pub record IsInserted (e : HeldVacant G N E S K T d y g b w h) (v : V) (o : HeldOccupied G N E S K T d y g b w h) : Type 0 where
    pub same_guard : o.guard ≡ d.with_inner e.guard (d.inner o.guard)
    pub rest : o.rest ≡ e.rest
    pub at : IsPutAt (d.inner e.guard) (made e.key v) (d.inner o.guard) o.place o.within

  -- o is the entry; if the entry was vacant, a value for which P holds was inserted
  abbrev pub OrInsertsSome : HeldEntry G N E S K T d y g b w h → (K → V → Type 0) → HeldOccupied G N E S K T d y g b w h → Type 0
  OrInsertsSome (Occupied p) P o = o ≡ p
  OrInsertsSome (Vacant e) P o = (v : V) × P e.key v × IsInserted e v o

  -- o is the entry; if the entry was vacant, v was inserted
  abbrev pub OrInserts : HeldEntry G N E S K T d y g b w h → V → HeldOccupied G N E S K T d y g b w h → Type 0
  OrInserts (Occupied p) v o = o ≡ p
  OrInserts (Vacant e) v o = IsInserted e v o

module _ {G N E S K T : Type 0} {d : guard.Ghosts G (Contents E S)} {y : keyed.Ghosts E K} {b : builder.Ghosts S T} {w : hasher.Ghosts T} {g : eq.Ghosts K} {h : hash.Ghosts K} where
  -- the container lacks the key of the entry
  abbrev pub IsVacant : HeldEntry G N E S K T d y g b w h → Type 0
  IsVacant (Occupied o) = ⊥
  IsVacant (Vacant e) = ⊤

  -- if a value was inserted, the array grew as an insertion of the key may and must grow it
  abbrev pub GrowsThrough : (K → ℕ) → HeldEntry G N E S K T d y g b w h → HeldOccupied G N E S K T d y g b w h → Type 0
  GrowsThrough hash (Occupied p) o = ⊤
  GrowsThrough hash (Vacant e) o = IsGrownFor y.key_of hash (d.inner e.guard) e.key (d.inner o.guard)

  -- if a value was inserted, the buckets wait that an insertion of the key leaves waiting; else the same buckets as
  -- before
  abbrev pub RelocatesThrough : (K → ℕ) → HeldEntry G N E S K T d y g b w h → HeldOccupied G N E S K T d y g b w h → Type 0
  RelocatesThrough hash (Occupied p) o = waiting_of (d.inner o.guard) ≡ waiting_of (d.inner p.guard)
  RelocatesThrough hash (Vacant e) o = Relocates (d.inner e.guard) (d.inner o.guard) × RelocatesTwo (hash e.key) (d.inner e.guard) (d.inner o.guard)

  -- the closure that was to make the value for the entry e failed with x
  pub record FailsAtVacant {X : Type 0} (e : HeldEntry G N E S K T d y g b w h) (Q : K → X → Type 0) (x : X) : Type 0 where
    -- the closure is called only at a vacant entry
    pub vacant : IsVacant e
    -- Q holds of the key and the error
    pub failed : Q (entry_key e) x

module _ {G N E V S K T : Type 0} {d : guard.Ghosts G (Contents E S)} {y : keyed.Ghosts E K} {b : builder.Ghosts S T} {w : hasher.Ghosts T} {g : eq.Ghosts K} {h : hash.Ghosts K} where
  -- memory was refused: the key comes back with v
  abbrev pub Refuses : HeldEntry G N E S K T d y g b w h → V → InsertError K V → Type 0
  Refuses e v r = r ≡ Memory (entry_key e, v)

  -- memory was refused: the key comes back with a value for which P holds
  abbrev pub RefusesSome : HeldEntry G N E S K T d y g b w h → (K → V → Type 0) → InsertError K V → Type 0
  RefusesSome e P r = (v : V) × P (entry_key e) v × (r ≡ Memory (entry_key e, v))

module _ {G N E V S K T : Type 0} {d : guard.Ghosts G (Contents E S)} {y : keyed.Ghosts E K} {b : builder.Ghosts S T} {w : hasher.Ghosts T} {g : eq.Ghosts K} {h : hash.Ghosts K} (made : K → V → E) where
  module _ (same : K → K → Bool) (hash_of : S → K → ℕ) (taking : Bool) where
    -- the contract of `insert_entry` of the vacant entry e: with the value v it returns `result`
    pub record InsertsAtVacant (e : HeldVacant G N E S K T d y g b w h) (v : V) (result : Result (HeldOccupied G N E S K T d y g b w h) (InsertError K V)) : Type 0 where
      -- the key is inserted with the value, and the result is its entry
      pub inserted : IfOk result (IsInserted made e v)
      -- the first array was made if it was due, or the array grew as an insertion of the key may and must grow it
      pub growth : IfOk result (λ o. IsGrownFor y.key_of (hash_in hash_of (d.inner e.guard)) (d.inner e.guard) e.key (occupied_contents o))
      -- it relocates at most two buckets
      pub relocates : IfOk result (λ o. Relocates (d.inner e.guard) (occupied_contents o))
      -- it relocates the key's own bucket first and then the first ones that wait, two in all, or all if fewer wait;
      -- if some of them are long, at least those before a long one
      pub two : IfOk result (λ o. RelocatesTwo (hash_in hash_of (d.inner e.guard) e.key) (d.inner e.guard) (occupied_contents o))
      -- no two keys are equal
      pub unique : IfOk result (λ o. IsUniqueBy same y.key_of (occupied_contents o))
      -- if memory is refused, key and value come back
      pub refused : IfErr result (λ r. r ≡ Memory (e.key, v))
      -- if an entry takes no memory of its own, memory is refused only if the bucket of the key has no room
      pub full : OnErr result (IsFullBy y.key_of taking hash_of (d.inner e.guard) e.key)

    -- the contract of an insertion through the entry e, which returns `result`: P holds of the returned entry, Q of
    -- the error
    pub record InsertsThrough (e : HeldEntry G N E S K T d y g b w h) (P : HeldOccupied G N E S K T d y g b w h → Type 0) (Q : InsertError K V → Type 0) (result : Result (HeldOccupied G N E S K T d y g b w h) (InsertError K V)) : Type 0 where
      -- if it succeeds, P holds of the returned entry
      pub entry : IfOk result P
      -- if memory is refused, the key comes back with the value
      pub refused : IfErr result Q
      -- only a vacant entry is refused memory
      pub vacant : OnErr result (IsVacant e)
      -- if an entry takes no memory of its own, memory is refused only if the bucket of the key has no room
      pub full : OnErr result (IsFullBy y.key_of taking hash_of (d.inner (entry_guard e)) (entry_key e))
      -- the array grew only if a value was inserted, and as an insertion of the key may and must grow it
      pub growth : IfOk result (GrowsThrough (hash_in hash_of (d.inner (entry_guard e))) e)
      -- the buckets wait that an insertion of the key leaves waiting, or the same as before if no value was inserted
      pub relocates : IfOk result (RelocatesThrough (hash_in hash_of (d.inner (entry_guard e))) e)
      -- no two keys are equal
      pub unique : IfOk result (λ o. IsUniqueBy same y.key_of (occupied_contents o))

    -- the contract of an insertion through the entry e of a value that a closure makes, or fails to make: it returns
    -- `result`. P holds of a key and a value that the closure makes of it, Q of a key and an error with which it fails.
    -- If the closure doesn't fail, the call is the insertion of a value with P
    abbrev pub TriesThrough : {X : Type 0} → HeldEntry G N E S K T d y g b w h → (K → V → Type 0) → (K → X → Type 0) → Result (HeldOccupied G N E S K T d y g b w h) (TryInsertError K V X) → Type 0
    TriesThrough e P Q (Ok o) = InsertsThrough e (OrInsertsSome made e P) (RefusesSome e P) (Ok o)
    TriesThrough e P Q (Err (NoMemory p)) = InsertsThrough e (OrInsertsSome made e P) (RefusesSome e P) (Err (Memory p))
    TriesThrough e P Q (Err (Failed x)) = FailsAtVacant e Q x

module _ (E V S K T : RattleType) (taking : Bool) (y : keyed.Ghosts E.Denot K.Denot) (key : HashMembers K.Denot) (build : builder.Ghosts S.Denot T.Denot) (feed : hasher.Ghosts T.Denot) {N : Type 0} {d : guard.Ghosts (MutBor (Contents E.Denot S.Denot)) (Contents E.Denot S.Denot)} {b : builder.Ghosts S.Denot T.Denot} {w : hasher.Ghosts T.Denot} {g : eq.Ghosts K.Denot} {h : hash.Ghosts K.Denot} where
  -- if r has no entry, because an insertion of the new key k was refused memory, what is left behind m
  abbrev pub rests_if_refused : {X : Type 0} → MutBor (Contents E.Denot S.Denot) → K.Denot → Result (Borrowed E S K T y key build feed N d b w g h) X → Fml
  rests_if_refused m k r = RestsIfErr (owned_row E S K T y key build feed) m (λ o. o.guard.ghost_name) r (λ n. RestsRefused y.key_of taking key.eq (key_hash build feed key.hash_input m.now) m.now k n)

  -- if r has no entry, because the closure that makes the value of the new key k failed, or memory was refused, what is
  -- left behind m
  abbrev pub rests_if_tried : {X : Type 0} → MutBor (Contents E.Denot S.Denot) → K.Denot → Result (Borrowed E S K T y key build feed N d b w g h) (TryInsertError K.Denot V.Denot X) → Fml
  rests_if_tried m k r = RestsIfErr (owned_row E S K T y key build feed) m (λ o. o.guard.ghost_name) r (λ n. RestsTried y.key_of taking key.eq (key_hash build feed key.hash_input m.now) m.now k r n)
