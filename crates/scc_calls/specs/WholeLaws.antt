-- What clearing and counting of a part leave and answer, for a map and an index.
use Rattle.std.proofs.Common.{◌≡◌, ℕ, [], Bool, length, Option, None, Some, sym, ap, ◌∙◌}
use Rattle.std.proofs.lemmas.List.{length-map}
use Rattle.std.specs.Map.{keys_of}
use Rattle.scc_calls.specs.States.{State}
use Rattle.scc_calls.specs.MapCalls.{MapMoves}
use Rattle.scc_calls.specs.declared.calls_as_values.MapCall.TheVariants.{Clear as MapClear, Len as MapLen}
use Rattle.scc_calls.specs.declared.replies.Reply.{Reply}
use Rattle.scc_calls.specs.declared.replies.Reply.TheVariants.{Inserted, Exists, Old, Key, Pair, Value, Has, Evicted, Cleared, Count}

-- the number in a reply, if the reply has one
abbrev pub counted_by : {K V : Type 0} → Reply K V → Option ℕ
counted_by (Count n) = Some n
counted_by reply = None

module _ {K V : Type 0} (eq : K → K → Bool) where
  -- after `clear`, a map has no key
  pub map_clears : (s t : State (K × V)) (r : Reply K V) → MapMoves eq s MapClear r t → keys_of t.0 ≡ []
  map_clears s t Inserted m = absurd m
  map_clears s t (Exists l w) m = absurd m
  map_clears s t (Old o) m = absurd m
  map_clears s t (Key o) m = absurd m
  map_clears s t (Pair o) m = absurd m
  map_clears s t (Value o) m = absurd m
  map_clears s t (Has b) m = absurd m
  map_clears s t (Evicted o) m = absurd m
  map_clears s t Cleared m = ap keys_of m.0
  map_clears s t (Count n) m = absurd m

  -- `len` of a map answers the number of its keys
  pub map_counts : (s t : State (K × V)) (r : Reply K V) → MapMoves eq s MapLen r t → counted_by r ≡ Some (length (keys_of s.0))
  map_counts s t Inserted m = absurd m
  map_counts s t (Exists l w) m = absurd m
  map_counts s t (Old o) m = absurd m
  map_counts s t (Key o) m = absurd m
  map_counts s t (Pair o) m = absurd m
  map_counts s t (Value o) m = absurd m
  map_counts s t (Has b) m = absurd m
  map_counts s t (Evicted o) m = absurd m
  map_counts s t Cleared m = absurd m
  map_counts s t (Count n) m = ap Some (m.0 ∙ sym (simp length-map))
