-- What the calls of a map do to its state, by the reply.
use Rattle.std.specs.Prelude.{◌≡◌, ℕ, ◌<◌, ◌==◌, ◌⊎◌, Bool, true, cond, List, [], length, count_by, Option, None, Some, MatchOption, is_some, IsSome}
use Rattle.std.specs.Option.{option_map}
use Rattle.std.specs.List.Sorted.{IsPermutation}
use Rattle.scc_common.specs.PairSteps.{AddsPair, HandsBack, SetsValue, SwapsKey, LacksKey, TakesPair}
use Rattle.scc_buckets.specs.declared.place.Place.{Place}
use Rattle.scc_common.specs.Contents.{Contents, entries}
use Rattle.scc_common.specs.Pairs.{find}
use Rattle.scc_common.specs.Steps.{IsPreparedFor}
use Rattle.scc_common.specs.Routing.{bucket_number}
use Rattle.scc_table.specs.Places.{IsFoundAt}
use Rattle.scc_calls.specs.States.{State}
use Rattle.scc_calls.specs.declared.fixed.Setting.{Setting}
use Rattle.scc_calls.specs.declared.calls_as_values.MapCall.{MapCall}
use Rattle.scc_calls.specs.declared.calls_as_values.MapCall.TheVariants.{Insert, Upsert, Replace, Read, Contains, Remove, Clear, Len}
use Rattle.scc_calls.specs.declared.replies.Reply.{Reply}
use Rattle.scc_calls.specs.declared.replies.Reply.TheVariants.{Inserted, Exists, Old, Key, Pair, Value, Has, Cleared, Count}

module _ {K V : Type 0} where
  -- the key of a call, or `None` if the call concerns all keys
  abbrev pub map_key : MapCall K V → Option K
  map_key (Insert k v) = Some k
  map_key (Upsert k v) = Some k
  map_key (Replace k) = Some k
  map_key (Read k) = Some k
  map_key (Contains k) = Some k
  map_key (Remove k) = Some k
  map_key Clear = None
  map_key Len = None

  -- the call may add a key
  abbrev pub map_adds : MapCall K V → Type 0
  map_adds (Insert k v) = Unit {0}
  map_adds (Upsert k v) = Unit {0}
  map_adds call = ⊥

  -- t has the pairs es in some order, and as many buckets as s
  abbrev pub Rearranges : State (K × V) → State (K × V) → List (K × V) → Type 0
  Rearranges s t es = IsPermutation es t.0 × (t.1 ≡ s.1)

  -- t has the pairs es in this order, and as many buckets as s
  abbrev pub Becomes : State (K × V) → State (K × V) → List (K × V) → Type 0
  Becomes s t es = (t.0 ≡ es) × (t.1 ≡ s.1)

  module _ (eq : K → K → Bool) where
    -- the call may give the reply and lead from s to t, without a resize
    abbrev pub MapMoves : State (K × V) → MapCall K V → Reply K V → State (K × V) → Type 0
    MapMoves s (Insert k v) Inserted t = AddsPair eq s.0 (k, v) (Rearranges s t)
    MapMoves s (Insert k v) (Exists l w) t = HandsBack eq s.0 (k, v) (l, w) (λ es. t ≡ (es, s.1))
    MapMoves s (Upsert k v) (Old None) t = AddsPair eq s.0 (k, v) (Rearranges s t)
    MapMoves s (Upsert k v) (Old (Some w)) t = SetsValue eq s.0 (k, v) w (Becomes s t)
    MapMoves s (Replace k) (Key None) t = LacksKey eq s.0 k (λ es. t ≡ (es, s.1))
    MapMoves s (Replace k) (Key (Some l)) t = SwapsKey eq s.0 k l (λ v. Becomes s t)
    MapMoves s (Read k) (Value r) t = (r ≡ option_map (λ p. p.1) (find eq s.0 k)) × (t ≡ s)
    MapMoves s (Contains k) (Has b) t = (b ≡ is_some (find eq s.0 k)) × (t ≡ s)
    MapMoves s (Remove k) (Pair None) t = LacksKey eq s.0 k (λ es. t ≡ (es, s.1))
    MapMoves s (Remove k) (Pair (Some p)) t = TakesPair eq s.0 k p (Rearranges s t)
    MapMoves s Clear Cleared t = (t.0 ≡ []) × (t.1 ≡ s.1)
    MapMoves s Len (Count n) t = (n ≡ length s.0) × (t ≡ s)
    MapMoves s call reply t = ⊥

    -- the reply that the call gives if a map has the pairs es
    abbrev pub map_answer : List (K × V) → MapCall K V → Reply K V
    map_answer es (Insert k v) = cond (is_some (find eq es k)) (Exists k v) Inserted
    map_answer es (Upsert k v) = Old (option_map (λ p. p.1) (find eq es k))
    map_answer es (Replace k) = Key (option_map (λ p. p.0) (find eq es k))
    map_answer es (Read k) = Value (option_map (λ p. p.1) (find eq es k))
    map_answer es (Contains k) = Has (is_some (find eq es k))
    map_answer es (Remove k) = Pair (find eq es k)
    map_answer es Clear = Cleared
    map_answer es Len = Count (length es)

    module _ {S : Type 0} (c : Contents (K × V) S) where
      -- the pair of k stands at the place that was found, or k is missing
      abbrev pub MapFinds : K → Option Place → Type 0
      MapFinds k found = MatchOption found (find eq (entries c) k ≡ None) (IsFoundAt (λ p. eq k p.0) c)

      -- if the call may add a key, the pair of this key stands at the place that was found, or the key is missing
      abbrev pub MapKnows : MapCall K V → Option Place → Type 0
      MapKnows (Insert k v) found = MapFinds k found
      MapKnows (Upsert k v) found = MapFinds k found
      MapKnows call found = Unit {0}

    module _ {S : Type 0} (hash : K → ℕ) (c : Contents (K × V) S) where
      -- an insertion of k makes no resize: k is present, or the insertion is prepared
      abbrev pub MapIsMadeFor : K → Type 0
      MapIsMadeFor k = IsSome (find eq (entries c) k) ⊎ IsPreparedFor hash (λ p. p.0) c k

      -- the call makes no growth
      abbrev pub MapIsMade : MapCall K V → Type 0
      MapIsMade (Insert k v) = MapIsMadeFor k
      MapIsMade (Upsert k v) = MapIsMadeFor k
      MapIsMade call = Unit {0}

      -- the call makes no growth, and its reply equals copy
      abbrev pub MapIsPrepared : (Reply K V → Reply K V → Bool) → MapCall K V → Reply K V → Type 0
      MapIsPrepared same call copy = MapIsMade call × (same (map_answer (entries c) call) copy ≡ true)

    module _ {H : Type 0} (hash : H → K → ℕ) where
      -- there is an array, and the bucket of k holds fewer than 32 pairs
      abbrev pub MapHasRoom : Setting H → State (K × V) → K → Type 0
      MapHasRoom g s k = (0 < s.1) × (count_by (λ p. bucket_number g.skipped s.1 (hash g.hasher p.0) == bucket_number g.skipped s.1 (hash g.hasher k)) s.0 < 32)

      -- k is missing, and there is no room for k
      abbrev pub MapRefuses : Setting H → State (K × V) → K → Type 0
      MapRefuses g s k = (find eq s.0 k ≡ None) × (MapHasRoom g s k → ⊥)

      -- memory may be refused to an insertion and an upsert of a missing key without room, and to no other call
      abbrev pub MapMayRefuse : Setting H → State (K × V) → MapCall K V → Type 0
      MapMayRefuse g s (Insert k v) = MapRefuses g s k
      MapMayRefuse g s (Upsert k v) = MapRefuses g s k
      MapMayRefuse g s call = ⊥
