use Rattle.std.proofs.Common.{◌≡◌, ◌≤◌, ◌+◌, List, ◌++◌, length, drop}
use Rattle.std.specs.Vec.{vec_capacity}
use Rattle.scc_calls.specs.Copies.{ByClone}
use Rattle.scc_calls.specs.Run.{IsRun}
use Rattle.scc_calls.proofs.running.run.Given as goal

abbrev pub invariant-loop-call : goal.invariant-loop-call
invariant-loop-call g l = record {
  setting : g.C.Calls.setting l.c ≡ g.C.Calls.setting l.fn.c;
  made : (m : List g.row.C-Reply.Denot) × (l.replies.items ≡ l.fn.replies.items ++ m) × (length m ≡ l.call-index)
      × ((more : List g.row.C-Reply.Denot) (t : g.C.Calls.State) → IsRun (ByClone g.C.Call.Clone.is_clone (g.C.Calls.moves (g.C.Calls.setting l.fn.c))) (g.C.Calls.resizes (g.C.Calls.setting l.fn.c)) (g.C.Calls.state l.c) (drop l.call-index l.calls) more t → IsRun (ByClone g.C.Call.Clone.is_clone (g.C.Calls.moves (g.C.Calls.setting l.fn.c))) (g.C.Calls.resizes (g.C.Calls.setting l.fn.c)) (g.C.Calls.state l.fn.c) l.calls (m ++ more) t);
  room : length l.fn.replies.items + length l.calls ≤ vec_capacity l.replies;
}
