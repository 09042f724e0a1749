use Rattle.scc_array.proofs.find_in.Given as goal
use Rattle.scc_array.proofs.Search.{MissedBelow}

abbrev pub invariant-loop-i : goal.invariant-loop-i
invariant-loop-i g l = MissedBelow (λ e. g.E.Key.PartialEq.eq l.key (g.E.Keyed.key_of e)) l.entries l.i
