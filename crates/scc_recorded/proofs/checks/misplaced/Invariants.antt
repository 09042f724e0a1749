use Rattle.std.proofs.Common.{take}
use Rattle.std.specs.List.{AllByRecursion}
use Rattle.scc_calls.specs.Histories.{StepRouted}
use Rattle.scc_common.specs.Routing.{stripe_of}
use Rattle.scc_recorded.proofs.checks.misplaced.Given as goal

abbrev pub invariant-loop-j : goal.invariant-loop-j
invariant-loop-j g l = AllByRecursion (StepRouted g.C.Calls.key_of (stripe_of g.C.Hasher.BuildHasher g.C.Hasher.Hasher.Hasher g.C.Key.Hash.hash_input l.hasher l.count) l.part) (take l.j l.history)
