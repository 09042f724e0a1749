use Rattle.scc_table.proofs.relocations.FirstWaiting.{SettlesFirst}
use Rattle.scc_table.proofs.Table.relocate_some.Given as goal

abbrev pub invariant-loop-done : goal.invariant-loop-done
invariant-loop-done g l = SettlesFirst l.initial.self l.self l.done
