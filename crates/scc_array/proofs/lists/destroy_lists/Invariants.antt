use Rattle.std.proofs.Common.{vec_len}
use Rattle.scc_array.specs.Lists.{AreSpent}
use Rattle.scc_array.proofs.lists.destroy_lists.Given as goal

abbrev pub invariant-loop-list : goal.invariant-loop-list
invariant-loop-list g l = AreSpent l.lists.items

abbrev pub decreases-loop-list : goal.decreases-loop-list
decreases-loop-list g l = vec_len l.lists
