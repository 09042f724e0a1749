-- What the parser's result says of a script.
use Rattle.std.specs.Prelude.{ℕ, List, Result, Ok, Err}
use Rattle.scc_script.specs.Grammar.{IsWorkerCount, IsStripeCount, IsCacheStripeCount, Meaning, map_calls, set_calls, index_calls, cache_calls, bad_line}
use Rattle.scc_script.specs.declared.line.WorkerCall.{WorkerCall}
use Rattle.scc_script.specs.declared.script.Lines.{Lines}
use Rattle.scc_script.specs.declared.script.Lines.TheVariants as lines
use Rattle.scc_script.specs.declared.script.Script.{Script}
use Rattle.scc_script.specs.declared.script.Script.TheVariants.{Map, Set, Index, Cache, BadLine}

-- the calls that were read, or the number of the line that is no call
abbrev pub calls_or_line : {C : Type 0} → Lines C → Result (List (WorkerCall C)) ℕ
calls_or_line (lines.Calls calls) = Ok calls.items
calls_or_line (lines.BadLine number) = Err number

-- what a script means
abbrev pub meaning_of : Script → Meaning
meaning_of (Map workers stripes calls) = map_calls workers stripes calls.items
meaning_of (Set workers stripes calls) = set_calls workers stripes calls.items
meaning_of (Index workers stripes calls) = index_calls workers stripes calls.items
meaning_of (Cache workers stripes calls) = cache_calls workers stripes calls.items
meaning_of (BadLine number) = bad_line number

-- a script without a bad line has allowed numbers of workers and of stripes
abbrev pub HasCounts : Script → Type 0
HasCounts (Map workers stripes calls) = IsWorkerCount workers × IsStripeCount stripes
HasCounts (Set workers stripes calls) = IsWorkerCount workers × IsStripeCount stripes
HasCounts (Index workers stripes calls) = IsWorkerCount workers × IsStripeCount stripes
HasCounts (Cache workers stripes calls) = IsWorkerCount workers × IsCacheStripeCount stripes
HasCounts (BadLine number) = Unit {0}
