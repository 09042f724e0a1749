-- The replies that the passes that are left tell follow the replies that were told so far.
use Rattle.std.proofs.Common.{List, ◌++◌, drop}
use Rattle.scc_play.specs.Telling.{AreTold}
use Rattle.scc_play.proofs.finishing.replies_of_workers.Given as goal

abbrev pub invariant-loop-k : goal.invariant-loop-k
invariant-loop-k g l =
    (more : List _) → AreTold g.P.Calls.key_of g.P.WholeCalls.counted g.P.Printed.count_reply l.stripes l.calls (λ p. p.log.number) (λ p. p.log.receipts.items) (λ v. v.items) l.k (drop l.k l.passes) more
    → AreTold g.P.Calls.key_of g.P.WholeCalls.counted g.P.Printed.count_reply l.stripes l.calls (λ p. p.log.number) (λ p. p.log.receipts.items) (λ v. v.items) 0 l.passes (l.told.items ++ more)
