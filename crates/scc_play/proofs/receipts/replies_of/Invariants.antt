-- The replies to the calls that are left follow the replies so far.
use Rattle.std.proofs.Common.{List, ◌++◌, drop}
use Rattle.scc_play.specs.Answered.{AreAnswered}
use Rattle.scc_play.proofs.receipts.replies_of.Given as goal

abbrev pub invariant-loop-call : goal.invariant-loop-call
invariant-loop-call g l =
    (more : List _) → AreAnswered g.P.Calls.key_of g.P.WholeCalls.counted g.P.Printed.count_reply l.stripes (drop l.call-index l.calls) l.rest more
    → AreAnswered g.P.Calls.key_of g.P.WholeCalls.counted g.P.Printed.count_reply l.stripes l.calls l.receipts (l.replies.items ++ more)
