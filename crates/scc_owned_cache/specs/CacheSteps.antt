-- What each call does to a cache, by the reply.
use Rattle.std.specs.Prelude.{◌≡◌, ◌≢◌, ℕ, ◌+◌, ◌<◌, ◌≤◌, ◌⊎◌, Bool, false, List, [], length, Option, None, Some, Result, Ok, Err, IsOk, map, remove, slice_get}
use Rattle.std.specs.Result.{OnErr, OnOk}
use Rattle.std.specs.List.{position, slice_index_or, slice_set}
use Rattle.std.specs.Borrow.{Bor}
use Rattle.std.specs.Fn.{Once}
use Rattle.scc_buckets.specs.Bounded.{IsListed, ShrinksBounded}
use Rattle.scc_common.specs.Contents.{Contents, entries, bucket_count, list_of, lists_of, pending_of, notes_of, settings_of, waiting_of, IsMarked, IsNoteUp, note_of}
use Rattle.scc_common.specs.Routing.{bucket_number}
use Rattle.scc_buckets.specs.declared.place.Place.{Place}
use Rattle.scc_table.specs.Bounded.{GrowsBelow, IsPreparedBelow}
use Rattle.scc_table.specs.Places.{IsPlace, spot_of}
use Rattle.scc_common.specs.declared.errors.InsertError.{InsertError}
use Rattle.scc_common.specs.declared.errors.InsertError.TheVariants.{Exists, Memory}
use Rattle.scc_owned_cache.specs.Caches.{Cached}
use Rattle.scc_owned_cache.specs.ListSteps.{IsMissing, IsThere, PutsPair, Refreshes, TakesOut, pair_for}

module _ {E S : Type 0} where
  -- the lists change as R says; the settings, the maximum, the note and the mark stay
  pub record ChangesLists (R : List (List E) → List (List E) → Type 0) (c d : Cached E S) : Type 0 where
    pub lists : R (lists_of c.contents) (lists_of d.contents)
    pub settings : settings_of d.contents ≡ settings_of c.contents
    pub refused : notes_of d.contents ≡ notes_of c.contents
    pub maximum : d.maximum ≡ c.maximum

  -- the lists change as R says; the settings, the maximum and the note stay, and the mark goes
  pub record ChangesListsUnmarked (R : List (List E) → List (List E) → Type 0) (c d : Cached E S) : Type 0 where
    pub lists : R (lists_of c.contents) (lists_of d.contents)
    pub settings : settings_of d.contents ≡ settings_of c.contents
    pub refused : notes_of d.contents ≡ (note_of c.contents, false)
    pub maximum : d.maximum ≡ c.maximum

  -- the growth that comes first if a new pair goes to list i
  pub record GrowsForPut (hash : E → ℕ) (i : ℕ) (c d : Cached E S) : Type 0 where
    pub grows : GrowsBelow hash c.maximum i c.contents d.contents
    pub listed : IsListed hash d.contents
    pub settings : settings_of d.contents ≡ settings_of c.contents
    pub maximum : d.maximum ≡ c.maximum

  -- the shrink that is tried last
  pub record ShrinksTo (hash : E → ℕ) (c d : Cached E S) : Type 0 where
    pub shrinks : ShrinksBounded hash c.contents d.contents
    pub maximum : d.maximum ≡ c.maximum

  -- the entry at the place is removed, and the others of its list stay in their order; then the array may shrink
  abbrev pub TakesAtBy : (E → ℕ) → Cached E S → Place → Cached E S → Type 0
  TakesAtBy hash c p d = (left : Cached E S) × ChangesLists (λ ls ms. ms ≡ slice_set ls (spot_of c.contents p).bucket (remove (slice_index_or ls (spot_of c.contents p).bucket []) (spot_of c.contents p).slot)) c left × ShrinksTo hash left d

  -- all entries are removed; then the array may shrink
  abbrev pub ClearsBy : (E → ℕ) → Cached E S → Cached E S → Type 0
  ClearsBy hash c d = (left : Cached E S) × ChangesLists (λ ls ms. ms ≡ map (λ _. []) ls) c left × ShrinksTo hash left d

module _ {K V S : Type 0} (hash : K → ℕ) where
  -- all pairs are removed, in lists by the hash of their keys
  abbrev pub Clears : Cached (K × V) S → Cached (K × V) S → Type 0
  Clears = ClearsBy (λ p. hash p.0)

  -- the pair at the place is removed, in lists by the hash of the pairs' keys
  abbrev pub TakesAt : Cached (K × V) S → Place → Cached (K × V) S → Type 0
  TakesAt = TakesAtBy (λ p. hash p.0)

  -- the number of the list of k among n lists, behind the skipped bits of c
  abbrev pub list_number : Contents (K × V) S → ℕ → K → ℕ
  list_number c n k = bucket_number (settings_of c).skipped n (hash k)

  -- a put of the new key k is prepared: there is an array, and either the key's list has room, no doubling is due, or
  -- the doubling was refused just before
  abbrev pub IsPreparedForPut : Cached (K × V) S → K → Type 0
  IsPreparedForPut c k = IsPreparedBelow c.maximum (list_number c.contents (bucket_count c.contents) k) c.contents

  -- a put of the new key k was prepared: the growth that it would have to make first was made, and no pair moved; a
  -- doubling that was refused is marked
  pub record PreparesPut (c : Cached (K × V) S) (k : K) (d : Cached (K × V) S) : Type 0 where
    pub grows : GrowsForPut (λ e. hash e.0) (list_number c.contents (bucket_count c.contents) k) c d
    pub ready : IsPreparedForPut d k
    pub marked : IsMarked d.contents → IsMarked c.contents ⊎ IsNoteUp d.contents
    pub first : bucket_count c.contents ≡ 0 → pending_of d.contents ≡ 0
    pub waiting : 0 < bucket_count c.contents → bucket_count d.contents ≡ bucket_count c.contents → waiting_of d.contents ≡ waiting_of c.contents
    pub all : 0 < bucket_count c.contents → bucket_count d.contents ≢ bucket_count c.contents → pending_of d.contents ≡ bucket_count d.contents

  module _ (eq : K → K → Bool) where
    -- no key equals k
    abbrev pub IsAbsent : Contents (K × V) S → K → Type 0
    IsAbsent c k = IsMissing (list_number c) eq (lists_of c) k

    -- p is the pair of k, and stands at i in its list
    abbrev pub IsPresentAt : Contents (K × V) S → K → ℕ → K × V → Type 0
    IsPresentAt c k i p = IsThere (list_number c) eq (lists_of c) k i p

    -- p is the pair of k
    abbrev pub IsPresent : Contents (K × V) S → K → K × V → Type 0
    IsPresent c k p = (i : ℕ) × IsPresentAt c k i p

    -- what a call that makes room for a put of k, with this result, does to the cache c, which becomes d
    pub record MakesRoomForPut {X R : Type 0} (c : Cached (K × V) S) (k : K) (result : Result X R) (d : Cached (K × V) S) : Type 0 where
      -- if k is there, nothing is made
      pub present : (p : K × V) → IsPresent c.contents k p → IsOk result × (d ≡ c)
      -- if k is missing and the call succeeds, a put of k is prepared
      pub ok : IsAbsent c.contents k → OnOk result (PreparesPut c k d)
      -- it fails only if k is missing and there is no array, and then nothing changes
      pub err : OnErr result (IsAbsent c.contents k × (bucket_count c.contents ≡ 0))
      pub same : OnErr result (d ≡ c)
      pub settings : settings_of d.contents ≡ settings_of c.contents
      pub maximum : d.maximum ≡ c.maximum

    -- a put of k without a growth would evict nothing: the key is there, or its list has room
    abbrev pub DrivesNoneOut : Contents (K × V) S → K → Type 0
    DrivesNoneOut c k = ((p : K × V) × IsPresent c k p) ⊎ (length (list_of c (list_number c (bucket_count c) k)) < 32)

    -- a put of the new key k without a growth would evict p: p is the least recent pair of a full list
    pub record DrivesOut (c : Contents (K × V) S) (k : K) (p : K × V) : Type 0 where
      pub absent : IsAbsent c k
      pub full : 32 ≤ length (list_of c (list_number c (bucket_count c) k))
      pub first : slice_get (list_of c (list_number c (bucket_count c) k)) 0 ≡ Some p

    -- the pair of k, if there is one
    abbrev pub pair_of : Contents (K × V) S → K → Option (K × V)
    pair_of c k = pair_for (list_number c) eq (lists_of c) k

    -- no key equals k, in the list of k or in any other
    pub record IsLacking (c : Contents (K × V) S) (k : K) : Type 0 where
      pub absent : IsAbsent c k
      pub all : position (λ p. eq k p.0) (entries c) ≡ None

    -- the pair of k stands at the place
    pub record IsFound (c : Contents (K × V) S) (k : K) (p : Place) : Type 0 where
      pub within : IsPlace c p
      pub bucket : (spot_of c p).bucket ≡ list_number c (bucket_count c) k
      pub pair : K × V
      pub there : IsPresentAt c k (spot_of c p).slot pair
      pub here : slice_get (list_of c (spot_of c p).bucket) (spot_of c p).slot ≡ Some pair

    -- the pair of k moved to the end of its list, and stands there at the place
    pub record IsLastAt (c : Cached (K × V) S) (k : K) (d : Cached (K × V) S) (at : Place) : Type 0 where
      pub within : IsPlace d.contents at
      pub pair : K × V
      pub here : slice_get (list_of d.contents (spot_of d.contents at).bucket) (spot_of d.contents at).slot ≡ Some pair
      pub changes : ChangesLists (Refreshes (list_number c.contents) eq k pair) c d
      pub bucket : (spot_of d.contents at).bucket ≡ list_number c.contents (bucket_count c.contents) k
      pub last : (spot_of d.contents at).slot + 1 ≡ length (list_of d.contents (spot_of d.contents at).bucket)

    -- the new pair p was put in after a growth, if a growth is due; x is the evicted pair, if any
    abbrev pub PutsNew : Cached (K × V) S → K × V → Option (K × V) → Cached (K × V) S → Type 0
    PutsNew c p x d = (grown : Cached (K × V) S) × GrowsForPut (λ e. hash e.0) (list_number c.contents (bucket_count c.contents) p.0) c grown × ChangesListsUnmarked (PutsPair (list_number c.contents) eq p x) grown d

    -- a put of the pair p; if the key is there, nothing changes and p comes back; p also comes back if there is no
    -- array and memory for one is refused
    abbrev pub Puts : Cached (K × V) S → K × V → Result (Option (K × V)) (InsertError K V) → Cached (K × V) S → Type 0
    Puts c p (Ok x) d = IsAbsent c.contents p.0 × PutsNew c p x d
    Puts c p (Err (Exists q)) d = (q ≡ p) × ((o : K × V) × IsPresent c.contents p.0 o) × (d ≡ c)
    Puts c p (Err (Memory q)) d = (q ≡ p) × IsAbsent c.contents p.0 × (bucket_count c.contents ≡ 0) × (d ≡ c)

    -- p, the pair of k, is removed; then the array may shrink
    abbrev pub TakesThen : Cached (K × V) S → K → K × V → Cached (K × V) S → Type 0
    TakesThen c k p d = (left : Cached (K × V) S) × ChangesLists (TakesOut (list_number c.contents) eq k p) c left × ShrinksTo (λ e. hash e.0) left d

    -- a removal of k: its pair is returned, and the others of its list stay in their order
    abbrev pub Removes : Cached (K × V) S → K → Option (K × V) → Cached (K × V) S → Type 0
    Removes c k None d = IsAbsent c.contents k × (d ≡ c)
    Removes c k (Some p) d = TakesThen c k p d

    -- a call of f on the pair of k may return r
    pub record AnswersOn {F R : Type 0} (g : Once F (Bor K × (Bor V × Unit {0})) R) (f : F) (c : Contents (K × V) S) (k : K) (r : R) : Type 0 where
      pub key : Bor K
      pub value : Bor V
      pub shows : IsPresent c k (key.now, value.now)
      pub met : g.post f (key, (value, tt)) r
