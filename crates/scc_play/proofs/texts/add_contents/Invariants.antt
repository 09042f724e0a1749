-- The lines so far are the lines of the first items.
use Rattle.std.proofs.Common.{◌≡◌, ◌++◌, take, length, codes}
use Rattle.std.specs.Fmt.{decimal}
use Rattle.std.specs.String.{string_bytes}
use Rattle.scc_play.specs.Output.{lines_of_all}
use Rattle.scc_play.proofs.texts.add_contents.Given as goal

abbrev pub invariant-loop-item : goal.invariant-loop-item
invariant-loop-item g l = string_bytes l.output ≡ string_bytes l.fn.output ++ (codes "contents " ++ (decimal (length l.items) ++ (codes "\n" ++ lines_of_all g.P.Printed.item_line (take l.item-index l.items))))
