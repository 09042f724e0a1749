-- What the calls of a set in parts do to the keys of all parts.
use Rattle.std.specs.Prelude.{◌≡◌, Bool, not, List, count_by}
use Rattle.std.specs.List.{filter}
use Rattle.scc_calls.specs.SetCalls.{SetMoves}
use Rattle.scc_calls.specs.declared.calls_as_values.SetCall.{SetCall}
use Rattle.scc_calls.specs.declared.calls_as_values.SetCall.TheVariants.{Clear, Len}
use Rattle.scc_calls.specs.declared.replies.Reply.{Reply}
use Rattle.scc_calls.specs.declared.replies.Reply.TheVariants.{Cleared, Count}

module _ {K : Type 0} (eq : K → K → Bool) (here : K → Bool) where
  -- one call on the keys of all parts: what it does to a set with these keys. `here` names the keys of one part: a
  -- clearing removes them, and a length counts them
  abbrev pub SetWholeMoves : List K → SetCall K → Reply K (Unit {0}) → List K → Type 0
  SetWholeMoves w Clear Cleared v = v ≡ filter (λ k. not (here k)) w
  SetWholeMoves w Len (Count n) v = (n ≡ count_by here w) × (v ≡ w)
  SetWholeMoves w call reply v = SetMoves eq (w, 0) call reply (v, 0)
