use Rattle.std.proofs.Common.{◌≡◌, ◌≤◌, length}
use Rattle.std.specs.Vec.{vec_capacity}
use Rattle.scc_array.specs.Lists.{AreBare}
use Rattle.scc_array.proofs.lists.bare_lists.Given as goal

abbrev pub invariant-loop : goal.invariant-loop
invariant-loop g l = record {
  made : length l.lists.items ≡ l.counter;
  bare : AreBare l.lists.items;
  room : l.fn.count ≤ vec_capacity l.lists;
}
