-- What the calls of a map in parts do to the pairs of all parts.
use Rattle.std.specs.Prelude.{◌≡◌, Bool, not, List, count_by}
use Rattle.std.specs.List.{flat_map, filter}
use Rattle.scc_calls.specs.MapCalls.{MapMoves}
use Rattle.scc_calls.specs.States.{State}
use Rattle.scc_calls.specs.declared.calls_as_values.MapCall.{MapCall}
use Rattle.scc_calls.specs.declared.calls_as_values.MapCall.TheVariants.{Clear, Len}
use Rattle.scc_calls.specs.declared.replies.Reply.{Reply}
use Rattle.scc_calls.specs.declared.replies.Reply.TheVariants.{Cleared, Count}

-- the entries of all parts, in the order of the parts
abbrev pub joined : {E : Type 0} → List (State E) → List E
joined parts = flat_map (λ s. s.0) parts

module _ {K V : Type 0} (eq : K → K → Bool) (here : K → Bool) where
  -- one call on the pairs of all parts: what it does to a map with these pairs. `here` names the keys of one part: a
  -- clearing removes its pairs, and a length counts them
  abbrev pub MapWholeMoves : List (K × V) → MapCall K V → Reply K V → List (K × V) → Type 0
  MapWholeMoves w Clear Cleared v = v ≡ filter (λ p. not (here p.0)) w
  MapWholeMoves w Len (Count n) v = (n ≡ count_by (λ p. here p.0) w) × (v ≡ w)
  MapWholeMoves w call reply v = MapMoves eq (w, 0) call reply (v, 0)
