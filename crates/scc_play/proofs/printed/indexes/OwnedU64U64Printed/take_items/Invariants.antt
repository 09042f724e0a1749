use Rattle.std.proofs.Common.{◌≡◌, ◌++◌}
use Rattle.scc_common.specs.Contents.{entries}
use Rattle.scc_play.proofs.printed.indexes.OwnedU64U64Printed.take_items.Given as goal

abbrev pub invariant-loop-version : goal.invariant-loop-version
invariant-loop-version g l = l.items.items ++ l.version-iterator ≡ l.fn.items.items ++ entries l.self
