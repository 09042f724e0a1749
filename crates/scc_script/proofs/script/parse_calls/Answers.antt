-- No line is left at the end.
use Rattle.std.proofs.Common.{sym, ◌∙◌, rules}
use Rattle.scc_script.specs.Grammar.{lines_of}
use Rattle.scc_script.proofs.Cuts.{lines_none}
use Rattle.scc_script.proofs.Steps.{at_end}
use Rattle.scc_script.proofs.script.parse_calls.Goals as goal

pub returns : goal.returns
returns g c =
    at_end g.C.Named.names c.args.workers c.loop-rest.calls.items c.loop-rest.number (lines_of c.loop-rest.rest.now) (lines_none c.loop-rest.rest.now (search rules))
    ∙ sym c.loop-rest.invariant.meaning
