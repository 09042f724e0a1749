-- What the calls of an index do to its state, by the reply, said by the calls of a map.
use Rattle.std.specs.Prelude.{◌≡◌, ℕ, ◌⊎◌, Bool, true, false, cond, List, length, Option, None, Some, is_some, IsSome}
use Rattle.std.specs.Option.{option_map}
use Rattle.scc_common.specs.Contents.{Contents, entries}
use Rattle.scc_common.specs.Pairs.{find}
use Rattle.scc_common.specs.Steps.{IsPreparedFor}
use Rattle.scc_buckets.specs.declared.place.Place.{Place}
use Rattle.scc_calls.specs.MapCalls.{MapFinds, MapMoves}
use Rattle.scc_calls.specs.States.{State}
use Rattle.scc_calls.specs.declared.calls_as_values.IndexCall.{IndexCall}
use Rattle.scc_calls.specs.declared.calls_as_values.IndexCall.TheVariants.{Insert, Update, Remove, Read, Contains, Clear, Len}
use Rattle.scc_calls.specs.declared.calls_as_values.MapCall.TheVariants.{Insert as MapInsert, Upsert as MapUpsert, Replace as MapReplace, Remove as MapRemove, Read as MapRead, Contains as MapContains, Clear as MapClear, Len as MapLen}
use Rattle.scc_calls.specs.declared.replies.Reply.{Reply}
use Rattle.scc_calls.specs.declared.replies.Reply.TheVariants.{Inserted, Exists, Old, Key, Pair, Value, Has, Cleared, Count}

module _ {K V : Type 0} where
  -- the key of a call, or `None` if the call concerns all keys
  abbrev pub index_key : IndexCall K V → Option K
  index_key (Insert k v) = Some k
  index_key (Update k v) = Some k
  index_key (Remove k) = Some k
  index_key (Read k) = Some k
  index_key (Contains k) = Some k
  index_key Clear = None
  index_key Len = None

  -- the call may add a key
  abbrev pub index_adds : IndexCall K V → Type 0
  index_adds (Insert k v) = Unit {0}
  index_adds call = ⊥

  module _ (eq : K → K → Bool) where
    -- the call may give the reply and lead from s to t, without a resize; `clone l q` says that q is a clone of l. An
    -- update of a present key is an upsert, and then a replacement of the stored key by a clone of it, which equals it
    abbrev pub IndexMoves : (K → K → Type 0) → State (K × V) → IndexCall K V → Reply K V → State (K × V) → Type 0
    IndexMoves clone s (Insert k v) r t = MapMoves eq s (MapInsert k v) r t
    IndexMoves clone s (Update k v) (Has false) t = MapMoves eq s (MapReplace k) (Key None) t
    IndexMoves clone s (Update k v) (Has true) t = (u : State (K × V)) × (q : K) × (l : K) × (w : V) × (eq k q ≡ true) × clone l q × MapMoves eq s (MapUpsert k v) (Old (Some w)) u × MapMoves eq u (MapReplace q) (Key (Some l)) t
    IndexMoves clone s (Remove k) (Has false) t = MapMoves eq s (MapRemove k) (Pair None) t
    IndexMoves clone s (Remove k) (Has true) t = (p : K × V) × MapMoves eq s (MapRemove k) (Pair (Some p)) t
    IndexMoves clone s (Read k) r t = MapMoves eq s (MapRead k) r t
    IndexMoves clone s (Contains k) r t = MapMoves eq s (MapContains k) r t
    IndexMoves clone s Clear r t = MapMoves eq s MapClear r t
    IndexMoves clone s Len r t = MapMoves eq s MapLen r t
    IndexMoves clone s call reply t = ⊥

    -- memory may be refused to an insertion of a missing key and to an update of a present key, each of which makes a
    -- version, and to no other call
    abbrev pub IndexMayRefuse : State (K × V) → IndexCall K V → Type 0
    IndexMayRefuse s (Insert k v) = find eq s.0 k ≡ None
    IndexMayRefuse s (Update k v) = IsSome (find eq s.0 k)
    IndexMayRefuse s call = ⊥

    -- the reply that the call gives if an index has the pairs es
    abbrev pub index_answer : List (K × V) → IndexCall K V → Reply K V
    index_answer es (Insert k v) = cond (is_some (find eq es k)) (Exists k v) Inserted
    index_answer es (Update k v) = Has (is_some (find eq es k))
    index_answer es (Remove k) = Has (is_some (find eq es k))
    index_answer es (Read k) = Value (option_map (λ p. p.1) (find eq es k))
    index_answer es (Contains k) = Has (is_some (find eq es k))
    index_answer es Clear = Cleared
    index_answer es Len = Count (length es)

    module _ {S : Type 0} (c : Contents (K × V) S) where
      -- if the call may add a key, the pair of this key stands at the place that was found, or the key is missing
      abbrev pub IndexKnows : IndexCall K V → Option Place → Type 0
      IndexKnows (Insert k v) found = MapFinds eq c k found
      IndexKnows call found = Unit {0}

    module _ {S : Type 0} (hash : K → ℕ) (c : Contents (K × V) S) where
      -- an insertion of k makes no resize: k is present, or the insertion is prepared
      abbrev pub IndexIsMadeFor : K → Type 0
      IndexIsMadeFor k = IsSome (find eq (entries c) k) ⊎ IsPreparedFor hash (λ p. p.0) c k

      -- the call makes no growth
      abbrev pub IndexIsMade : IndexCall K V → Type 0
      IndexIsMade (Insert k v) = IndexIsMadeFor k
      IndexIsMade call = Unit {0}

      -- the call makes no growth, and its reply equals copy
      abbrev pub IndexIsPrepared : (Reply K V → Reply K V → Bool) → IndexCall K V → Reply K V → Type 0
      IndexIsPrepared same call copy = IndexIsMade call × (same (index_answer (entries c) call) copy ≡ true)
