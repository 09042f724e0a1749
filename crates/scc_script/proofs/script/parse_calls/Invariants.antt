-- The lines so far gave `calls`, and the lines of `rest` follow, from `number` on.
use Rattle.std.proofs.Common.{◌≡◌, ◌+◌, ◌≤◌, length}
use Rattle.scc_script.specs.Grammar.{after_calls, calls_of_lines, lines_of}
use Rattle.scc_script.proofs.script.parse_calls.Given as goal

abbrev pub invariant-loop-rest : goal.invariant-loop-rest
invariant-loop-rest g l = record {
  meaning : calls_of_lines g.C.Named.names l.workers 2 (lines_of l.text) ≡ after_calls l.calls.items (calls_of_lines g.C.Named.names l.workers l.number (lines_of l.rest));
  counted : l.number + length l.rest ≤ length l.text + 2;
}

abbrev pub decreases-loop-rest : goal.decreases-loop-rest
decreases-loop-rest g l = length l.rest
