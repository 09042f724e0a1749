-- What a call of a map that copies its reply does, in one word.
use Rattle.std.specs.Prelude.{ℕ, Bool, Result}
use Rattle.scc_common.specs.Contents.{Contents}
use Rattle.scc_calls.specs.Calling.{CallsCopiedByRule}
use Rattle.scc_calls.specs.Copies.{Answers}
use Rattle.scc_calls.specs.MapCalls.{map_answer, map_key, MapMayRefuse, MapMoves}
use Rattle.scc_calls.specs.States.{State, ResizesTo, run_setting, state_of}
use Rattle.scc_calls.specs.Stems.{MapStems}
use Rattle.scc_calls.specs.declared.calls_as_values.MapCall.{MapCall}
use Rattle.scc_calls.specs.declared.copied.Copied.{Copied}
use Rattle.scc_calls.specs.declared.replies.Reply.{Reply}

module _ {K V H X : Type 0} (eq : K → K → Bool) (hash : H → K → ℕ) (clone : V → V → Type 0) (same : Reply K V → Reply K V → Bool) (is_infallible : Reply K V → Type 0) where
  -- what `call_copied` of the call, with this result, does to the map c, which becomes d
  abbrev pub MapCallsCopied : Contents (K × V) H → MapCall K V → Result (Copied (Reply K V)) X → Contents (K × V) H → Type 0
  MapCallsCopied c call result d = CallsCopiedByRule run_setting state_of (λ (s : State (K × V)). s.1) map_key (λ _ s. map_answer eq s.0) ResizesTo (MapMayRefuse eq hash) is_infallible (λ _. Answers (MapStems clone) (MapMoves eq)) same c call result d
