use Rattle.std.proofs.Common.{◌≡◌, drop}
use Rattle.scc_table.specs.TwoArrays.{pending_targets}
use Rattle.scc_table.proofs.relocations.OneByOne.{Finishes}
use Rattle.scc_table.proofs.Table.finish.Given as goal

abbrev pub invariant-loop : goal.invariant-loop
invariant-loop g l = Finishes l.initial.self l.self l.counter × (pending_targets l.self ≡ drop l.counter (pending_targets l.initial.self))
