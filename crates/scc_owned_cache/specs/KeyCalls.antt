-- What the calls by key that change a cache do to it, in one word a call. `hash_of` gives the hash of a key under a
-- hasher.
use Rattle.std.specs.Prelude.{◌≡◌, ℕ, ◌<◌, Bool, Option, None, Result, Ok, Err, IsOk, IfOk, OnOk, OnSome}
use Rattle.std.specs.Borrow.{Bor, MutBor}
use Rattle.std.specs.Fn.{Once}
use Rattle.scc_common.specs.Contents.{entries, bucket_count, hash_in, waiting_of, IsUnmarked}
use Rattle.scc_common.specs.Pairs.{find, FindsInstead}
use Rattle.scc_buckets.specs.declared.place.Place.{Place}
use Rattle.scc_common.specs.declared.errors.InsertError.{InsertError}
use Rattle.scc_common.specs.declared.errors.InsertError.TheVariants.{Memory}
use Rattle.scc_owned_cache.specs.CacheSteps.{IsAbsent, IsLastAt, IsPreparedForPut, Puts, Removes}
use Rattle.scc_owned_cache.specs.CacheWalks.{RemovesIf}
use Rattle.scc_owned_cache.specs.Caches.{Cached, IsCacheState}
use Rattle.scc_owned_cache.specs.LookUps.{FindsAfterPut, FindsAfterTest}
use Rattle.scc_owned_cache.specs.Relocations.{RelocatesNoneWithin, RelocatesTwoWithin}

module _ {K V S : Type 0} (eq : K → K → Bool) (hash_of : S → K → ℕ) where
  -- the contract of a put of the pair p: it returns `result`, and turns c into d
  pub record PutsByRule (c : Cached (K × V) S) (p : K × V) (result : Result (Option (K × V)) (InsertError K V)) (d : Cached (K × V) S) : Type 0 where
    -- what becomes of the lists, of the array and of the note
    pub step : Puts (hash_in hash_of c.contents) eq c p result d
    -- what look-ups find
    pub finds : IfOk result (λ out. FindsAfterPut eq (entries c.contents) p out (entries d.contents))
    -- it succeeds if the key is new and there is an array
    pub succeeds : IsAbsent (hash_in hash_of c.contents) eq c.contents p.0 → 0 < bucket_count c.contents → IsOk result
    -- d is the state of a cache
    pub state : IsCacheState eq (hash_in hash_of d.contents) d
    -- it relocates the key's bucket and the first ones that wait, two in all
    pub relocates : OnOk result (RelocatesTwoWithin (hash_in hash_of c.contents p.0) c.contents d.contents)
    -- if it was prepared, the number of buckets stays
    pub once : IsPreparedForPut (hash_in hash_of c.contents) c p.0 → bucket_count d.contents ≡ bucket_count c.contents
    -- it takes the mark of a refused doubling away
    pub unmarked : OnOk result (IsUnmarked d.contents)

  -- the contract of a removal of k: it returns `result`, and turns c into d
  pub record RemovesByRule (c : Cached (K × V) S) (k : K) (result : Option (K × V)) (d : Cached (K × V) S) : Type 0 where
    -- what becomes of the lists and of the array
    pub step : Removes (hash_in hash_of c.contents) eq c k result d
    -- what look-ups find
    pub finds : OnSome result (FindsInstead eq (entries c.contents) k None (entries d.contents))
    -- d is the state of a cache
    pub state : IsCacheState eq (hash_in hash_of d.contents) d
    -- it relocates no bucket
    pub relocates : RelocatesNoneWithin (λ p. hash_in hash_of c.contents p.0) c.contents d.contents

  module _ {F : Type 0} (g : Once F (MutBor V × Unit {0}) (Bool × (MutBor V × Unit {0}))) (f : F) where
    -- the contract of a removal of k if f returns true: it returns `result`, and turns c into d
    pub record RemovesIfByRule (c : Cached (K × V) S) (k : K) (result : Option (K × V)) (d : Cached (K × V) S) : Type 0 where
      -- what becomes of the lists and of the array
      pub step : RemovesIf (hash_in hash_of c.contents) eq g f c k result d
      -- what look-ups find
      pub finds : FindsAfterTest eq g f (entries c.contents) k (find eq (entries c.contents) k) result (entries d.contents)
      -- d is the state of a cache
      pub state : IsCacheState eq (hash_in hash_of d.contents) d
      -- it relocates no bucket
      pub relocates : RelocatesNoneWithin (λ p. hash_in hash_of c.contents p.0) c.contents d.contents
      -- if no pair was removed, the same buckets wait as before
      pub rests : result ≡ None → waiting_of d.contents ≡ waiting_of c.contents

-- The contract of a call that returns the value of k, or makes one of which `Made` holds: it returns v, and turns c into d.
pub data Recalls {K V S : Type 0} (hash : K → ℕ) (eq : K → K → Bool) (Made : V → Type 0) (c : Cached (K × V) S) (k : K) (v : V) (d : Cached (K × V) S) : Type 0 where
  -- v is the value of k, whose pair moved to the end of its list
  found : (at : Place) (s : IsLastAt hash eq c k d at) → v ≡ s.pair.1 → Recalls hash eq Made c k v d
  -- k was missing, and v was made and put in
  put : (x : Option (K × V)) → Made v → Puts hash eq c (k, v) (Ok x) d → Recalls hash eq Made c k v d
  -- k was missing, v was made, and memory for a first array was refused
  refused : Made v → Puts hash eq c (k, v) (Err (Memory (k, v))) d → Recalls hash eq Made c k v d

-- What a call that returns a clone of a value may do. `C v w` says that w may be a clone of v, and `Sure v` that memory
-- for a clone of v is not refused.
module _ {K V S : Type 0} (hash : K → ℕ) (eq : K → K → Bool) (C : V → V → Type 0) (Sure : V → Type 0) where
  -- the contract of a call that returns a clone of the value of k, or of one that it makes, of which `Made` holds: it
  -- returns v, and turns c into d
  pub data RecallsCloned (Made : V → Type 0) (c : Cached (K × V) S) (k : K) (v : V) (d : Cached (K × V) S) : Type 0 where
    -- v is a clone of the value of k, whose pair moved to the end of its list
    cloned : (at : Place) (s : IsLastAt hash eq c k d at) → C s.pair.1 v → RecallsCloned Made c k v d
    -- the pair of k moved to the end of its list, memory for a clone of its value was refused, and v was made
    again : (at : Place) (s : IsLastAt hash eq c k d at) → (Sure s.pair.1 → ⊥) → Made v → RecallsCloned Made c k v d
    -- k was missing, w was made and put in, and v is a clone of it
    stored : (w : V) (x : Option (K × V)) → Made w → C w v → Puts hash eq c (k, w) (Ok x) d → RecallsCloned Made c k v d
    -- k was missing, w was made, v is a clone of it, and memory for a first array was refused
    dropped : (w : V) → Made w → C w v → Puts hash eq c (k, w) (Err (Memory (k, w))) d → RecallsCloned Made c k v d
    -- k was missing, v was made, and memory for its clone was refused, so nothing changed
    unstored : Made v → (Sure v → ⊥) → IsAbsent hash eq c.contents k → d ≡ c → RecallsCloned Made c k v d

  -- what such a call leaves if no value can be made
  pub data FailsToRecall (c : Cached (K × V) S) (k : K) (d : Cached (K × V) S) : Type 0 where
    -- k was missing, and nothing changed
    missing : IsAbsent hash eq c.contents k → d ≡ c → FailsToRecall c k d
    -- the pair of k moved to the end of its list, and memory for a clone of its value was refused
    uncloned : (at : Place) (s : IsLastAt hash eq c k d at) → (Sure s.pair.1 → ⊥) → FailsToRecall c k d

-- The pair of k moved to the end of its list, which turned c into d, and a call of f on it returned r.
pub record RefreshesAndReads {K V S F R : Type 0} (hash : K → ℕ) (eq : K → K → Bool) (g : Once F (Bor K × (Bor V × Unit {0})) R) (f : F) (c : Cached (K × V) S) (k : K) (r : R) (d : Cached (K × V) S) : Type 0 where
  pub place : Place
  pub last : IsLastAt hash eq c k d place
  pub key : Bor K
  pub value : Bor V
  pub shows : last.pair ≡ (key.now, value.now)
  pub met : g.post f (key, (value, tt)) r
