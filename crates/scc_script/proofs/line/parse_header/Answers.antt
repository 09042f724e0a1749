use Rattle.std.proofs.Common.{arith}
use Rattle.scc_script.proofs.Extras.{no_fourth_field}
use Rattle.scc_script.proofs.line.parse_header.Goals as goal

pub returns-in-Some-cut_at-2 : goal.returns-in-Some-cut_at-2
returns-in-Some-cut_at-2 c = grind (arith, no_fourth_field)
