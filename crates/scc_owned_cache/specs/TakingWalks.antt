-- What a walk that takes pairs out into a list, and each of its steps, do to a cache, in one word a call. The list is
-- v before the call, and w after it.
use Rattle.std.specs.Prelude.{◌≡◌, ℕ, ◌≤◌, suc, Bool, [], ◌∷◌, ◌++◌, length, remove, Option, Some, Result, slice_get, MatchOption}
use Rattle.std.specs.Result.{OnErr}
use Rattle.std.specs.Vec.{vec_len, vec_capacity}
use Rattle.std.specs.declared.vec.Vec.{Vec}
use Rattle.scc_buckets.specs.declared.place.Place.{Place}
use Rattle.scc_common.specs.Contents.{entries, notes_of, settings_of, waiting_of}
use Rattle.scc_common.specs.Pairs.{IsUnique}
use Rattle.scc_common.specs.Steps.{HoldsExactly}
use Rattle.scc_table.specs.Places.{StandsAt, index_of}
use Rattle.scc_owned_cache.specs.Caches.{Cached, IsCacheState}
use Rattle.scc_owned_cache.specs.Relocations.{RelocatesNoneWithin}

module _ {K V S Z X : Type 0} where
  -- the contract of the walk: it returns `result`, and turns c into d and v into w; Step says what it does to the
  -- pairs
  pub record TakesByRule (eq : K → K → Bool) (hash_of : S → K → ℕ) (Step : Type 0) (c : Cached (K × V) S) (v : Vec (K × V) Z) (result : Result Bool X) (d : Cached (K × V) S) (w : Vec (K × V) Z) : Type 0 where
    -- what it does to the pairs
    pub step : Step
    -- it fails only if the list is full
    pub full : OnErr result (vec_capacity w ≤ vec_len w)
    -- the list has no less room than before
    pub room : vec_capacity v ≤ vec_capacity w
    -- no two keys were equal
    pub was_unique : IsUnique eq c.contents
    -- d is the state of a cache
    pub state : IsCacheState eq (hash_of (settings_of d.contents).hasher) d
    -- it relocates no bucket
    pub relocates : RelocatesNoneWithin (λ p. hash_of (settings_of c.contents).hasher p.0) c.contents d.contents
    -- if no pair was removed, the same buckets wait as before
    pub rests : length (entries d.contents) ≡ length (entries c.contents) → waiting_of d.contents ≡ waiting_of c.contents

  -- the contract of the walk in the order of the list and without a resize: it returns `result`, and turns c into d
  -- and v into w
  pub record TakesInOrder (Step : Type 0) (c : Cached (K × V) S) (v : Vec (K × V) Z) (result : Result Bool X) (d : Cached (K × V) S) (w : Vec (K × V) Z) : Type 0 where
    -- what it does to the pairs
    pub step : Step
    -- note and mark stay
    pub refused : notes_of d.contents ≡ notes_of c.contents
    -- the maximum stays
    pub maximum : d.maximum ≡ c.maximum
    -- the same buckets wait as before
    pub waiting : waiting_of d.contents ≡ waiting_of c.contents
    -- it fails only if the list is full
    pub full : OnErr result (vec_capacity w ≤ vec_len w)
    -- the list has no less room than before
    pub room : vec_capacity v ≤ vec_capacity w

module _ {K V S : Type 0} where
  -- the contract of `take_with_next`: it takes the pair out of the place, without a resize, and returns it with the
  -- next place
  pub record TakesOutWithNext (c : Cached (K × V) S) (place : Place) (result : (K × V) × Option Place) (d : Cached (K × V) S) : Type 0 where
    -- the result has the pair that stood at the place
    pub pair : slice_get (entries c.contents) (index_of c.contents place) ≡ Some result.0
    -- the others stay in their order
    pub others : HoldsExactly c.contents (remove (entries c.contents) (index_of c.contents place)) d.contents
    -- note and mark stay
    pub refused : notes_of d.contents ≡ notes_of c.contents
    -- the maximum stays
    pub maximum : d.maximum ≡ c.maximum
    -- the same buckets wait as before
    pub waiting : waiting_of d.contents ≡ waiting_of c.contents
    -- the next place is the place of the pair that followed, or `None` after the last pair
    pub next : MatchOption result.1 (suc (index_of c.contents place) ≡ length (entries c.contents)) (StandsAt d.contents (index_of c.contents place))

  -- the contract of `take_into`: it moves the pair out of the place to the end of the list, without a resize, and
  -- returns the next place
  pub record MovesOut {Z : Type 0} (c : Cached (K × V) S) (place : Place) (v : Vec (K × V) Z) (result : Option Place) (d : Cached (K × V) S) (w : Vec (K × V) Z) : Type 0 where
    -- the pair that stood at the place is at the list's end
    pub taken : (p : K × V) × (slice_get (entries c.contents) (index_of c.contents place) ≡ Some p) × (w.items ≡ v.items ++ p ∷ [])
    -- the others stay in their order
    pub others : HoldsExactly c.contents (remove (entries c.contents) (index_of c.contents place)) d.contents
    -- note and mark stay
    pub refused : notes_of d.contents ≡ notes_of c.contents
    -- the maximum stays
    pub maximum : d.maximum ≡ c.maximum
    -- the same buckets wait as before
    pub waiting : waiting_of d.contents ≡ waiting_of c.contents
    -- the next place is the place of the pair that followed, or `None` after the last pair
    pub next : MatchOption result (suc (index_of c.contents place) ≡ length (entries c.contents)) (StandsAt d.contents (index_of c.contents place))
    -- the capacity of the list stays
    pub capacity : vec_capacity w ≡ vec_capacity v
