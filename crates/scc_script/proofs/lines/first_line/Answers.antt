-- A line feed ends the first line, or the text does.
use Rattle.std.proofs.Common.{rules}
use Rattle.scc_script.proofs.Cuts.{lines_cut, lines_last, nothing_left}
use Rattle.scc_script.proofs.lines.first_line.Goals as goal

pub returns-in-Some-clause-lines : goal.returns-in-Some-clause-lines
returns-in-Some-clause-lines c =
    rw c.without_return.ensures (lines_cut c.args.text.now c.in-Some.line.now c.in-Some.rest.now (search rules))

pub returns-in-None-clause-lines : goal.returns-in-None-clause-lines
returns-in-None-clause-lines c =
    rw c.without_return-in-None.ensures
    (lines_last c.args.text.now _ c.requires c.in-None.ensures.parts (nothing_left c.args.text.now))
