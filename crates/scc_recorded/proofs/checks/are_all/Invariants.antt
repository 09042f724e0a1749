use Rattle.std.proofs.Common.{take, map}
use Rattle.scc_recorded.proofs.Seen.{Seen}
use Rattle.scc_recorded.proofs.checks.are_all.Given as goal

abbrev pub invariant-loop-k : goal.invariant-loop-k
invariant-loop-k g l = Seen l.count (take l.k (map (λ p. p.log.number) l.passes)) l.seen.items
