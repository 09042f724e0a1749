-- What clearing and counting leave and answer, for a set and a cache.
use Rattle.std.proofs.Common.{◌≡◌, ℕ, List, [], ◌∷◌, Bool, length, map, Some, refl, sym, ap, ◌∙◌}
use Rattle.std.specs.List.{flat_map}
use Rattle.std.proofs.lemmas.List.{length-map}
use Rattle.std.specs.Map.{keys_of}
use Rattle.scc_calls.specs.States.{State}
use Rattle.scc_calls.specs.SetCalls.{SetMoves}
use Rattle.scc_calls.specs.CacheCalls.{CacheMoves, keys_in}
use Rattle.scc_calls.specs.WholeLaws.{counted_by}
use Rattle.scc_calls.specs.declared.calls_as_values.SetCall.TheVariants.{Clear as SetClear, Len as SetLen}
use Rattle.scc_calls.specs.declared.calls_as_values.CacheCall.TheVariants.{Clear as CacheClear, Len as CacheLen}
use Rattle.scc_calls.specs.declared.replies.Reply.{Reply}
use Rattle.scc_calls.specs.declared.replies.Reply.TheVariants.{Inserted, Exists, Old, Key, Pair, Value, Has, Evicted, Cleared, Count}

module _ {K : Type 0} (eq : K → K → Bool) where
  -- after `clear`, a set has no key
  pub set_clears : (s t : State K) (r : Reply K (Unit {0})) → SetMoves eq s SetClear r t → t.0 ≡ []
  set_clears s t Inserted m = absurd m
  set_clears s t (Exists l w) m = absurd m
  set_clears s t (Old o) m = absurd m
  set_clears s t (Key o) m = absurd m
  set_clears s t (Pair o) m = absurd m
  set_clears s t (Value o) m = absurd m
  set_clears s t (Has b) m = absurd m
  set_clears s t (Evicted o) m = absurd m
  set_clears s t Cleared m = m.0
  set_clears s t (Count n) m = absurd m

  -- `len` of a set answers the number of its keys
  pub set_counts : (s t : State K) (r : Reply K (Unit {0})) → SetMoves eq s SetLen r t → counted_by r ≡ Some (length s.0)
  set_counts s t Inserted m = absurd m
  set_counts s t (Exists l w) m = absurd m
  set_counts s t (Old o) m = absurd m
  set_counts s t (Key o) m = absurd m
  set_counts s t (Pair o) m = absurd m
  set_counts s t (Value o) m = absurd m
  set_counts s t (Has b) m = absurd m
  set_counts s t (Evicted o) m = absurd m
  set_counts s t Cleared m = absurd m
  set_counts s t (Count n) m = ap Some m.0

none_left : {X : Type 0} (ls : List (List X)) → flat_map {X = List X} {A = X} (λ l. l) (map (λ (l : List X). []) ls) ≡ []
none_left [] = refl
none_left (l ∷ ls) = none_left ls

module _ {K V : Type 0} (eq : K → K → Bool) (number : ℕ → K → ℕ) where
  -- after `clear`, a cache has no key
  pub cache_clears : (s t : List (List (K × V))) (r : Reply K V) → CacheMoves eq number s CacheClear r t → keys_in t ≡ []
  cache_clears s t Inserted m = absurd m
  cache_clears s t (Exists l w) m = absurd m
  cache_clears s t (Old o) m = absurd m
  cache_clears s t (Key o) m = absurd m
  cache_clears s t (Pair o) m = absurd m
  cache_clears s t (Value o) m = absurd m
  cache_clears s t (Has b) m = absurd m
  cache_clears s t (Evicted o) m = absurd m
  cache_clears s t Cleared m = ap keys_in m ∙ ap keys_of (none_left s)
  cache_clears s t (Count n) m = absurd m

  -- `len` of a cache answers the number of its keys
  pub cache_counts : (s t : List (List (K × V))) (r : Reply K V) → CacheMoves eq number s CacheLen r t → counted_by r ≡ Some (length (keys_in s))
  cache_counts s t Inserted m = absurd m
  cache_counts s t (Exists l w) m = absurd m
  cache_counts s t (Old o) m = absurd m
  cache_counts s t (Key o) m = absurd m
  cache_counts s t (Pair o) m = absurd m
  cache_counts s t (Value o) m = absurd m
  cache_counts s t (Has b) m = absurd m
  cache_counts s t (Evicted o) m = absurd m
  cache_counts s t Cleared m = absurd m
  cache_counts s t (Count n) m = ap Some (m.0 ∙ sym (simp length-map))
