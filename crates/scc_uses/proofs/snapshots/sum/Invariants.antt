use Rattle.std.proofs.Common.{◌≡◌}
use Rattle.scc_uses.specs.Sums.{sum_from}
use Rattle.scc_uses.proofs.snapshots.sum.Given as goal

abbrev pub invariant-loop-version : goal.invariant-loop-version
invariant-loop-version l = sum_from l.sum l.version-iterator ≡ sum_from 0 l.fn.versions
