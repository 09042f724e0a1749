-- The items so far, and the items of the parts that are left, are all items.
use Rattle.std.proofs.Common.{◌++◌, length}
use Rattle.std.specs.List.{flat_map}
use Rattle.std.specs.List.Sorted.{IsPermutation}
use Rattle.scc_play.proofs.finished_text.sorted_items.Given as goal

abbrev pub invariant-loop-parts : goal.invariant-loop-parts
invariant-loop-parts g l = IsPermutation (flat_map g.P.Printed.shown l.fn.parts.items) (l.items.items ++ flat_map g.P.Printed.shown l.parts.items)

abbrev pub decreases-loop-parts : goal.decreases-loop-parts
decreases-loop-parts g l = length l.parts.items
