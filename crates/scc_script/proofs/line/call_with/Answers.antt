use Rattle.std.proofs.Common.{arith}
use Rattle.scc_script.proofs.Extras.{no_third_argument}
use Rattle.scc_script.proofs.line.call_with.Goals as goal

pub returns-in-Some-cut_at : goal.returns-in-Some-cut_at
returns-in-Some-cut_at g c = grind (arith, no_third_argument g.C.Named.names)
