-- What the calls of an index in parts do to the pairs of all parts.
use Rattle.std.specs.Prelude.{Bool, List}
use Rattle.scc_calls.specs.IndexCalls.{IndexMoves}
use Rattle.scc_calls.specs.MapWhole.{MapWholeMoves}
use Rattle.scc_calls.specs.declared.calls_as_values.IndexCall.{IndexCall}
use Rattle.scc_calls.specs.declared.calls_as_values.IndexCall.TheVariants.{Clear, Len}
use Rattle.scc_calls.specs.declared.calls_as_values.MapCall.TheVariants.{Clear as MapClear, Len as MapLen}
use Rattle.scc_calls.specs.declared.replies.Reply.{Reply}

module _ {K V : Type 0} (eq : K → K → Bool) (clone : K → K → Type 0) (here : K → Bool) where
  -- one call on the pairs of all parts: what it does to an index with these pairs. `here` names the keys of one part:
  -- a clearing removes its pairs, and a length counts them
  abbrev pub IndexWholeMoves : List (K × V) → IndexCall K V → Reply K V → List (K × V) → Type 0
  IndexWholeMoves w Clear r v = MapWholeMoves eq here w MapClear r v
  IndexWholeMoves w Len r v = MapWholeMoves eq here w MapLen r v
  IndexWholeMoves w call reply v = IndexMoves eq clone (w, 0) call reply (v, 0)
