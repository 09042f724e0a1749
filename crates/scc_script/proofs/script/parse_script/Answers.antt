-- A text without a byte has no line.
use Rattle.std.proofs.Common.{sym, ap, rules}
use Rattle.scc_script.specs.Grammar.{script_of_lines}
use Rattle.scc_script.proofs.Cuts.{lines_none}
use Rattle.scc_script.proofs.script.parse_script.Goals as goal

pub returns-then-is_empty-clause-value : goal.returns-then-is_empty-clause-value
returns-then-is_empty-clause-value c = sym (ap script_of_lines (lines_none c.args.text.now (search rules)))
