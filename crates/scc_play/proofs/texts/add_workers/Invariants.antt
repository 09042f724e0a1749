-- The lines so far, and then the lines of the workers that are left, are the lines of all workers.
use Rattle.std.proofs.Common.{◌≡◌, ◌++◌, drop, map}
use Rattle.std.specs.String.{string_bytes}
use Rattle.scc_play.specs.Output.{workers_text}
use Rattle.scc_play.proofs.texts.add_workers.Given as goal

abbrev pub invariant-loop-worker : goal.invariant-loop-worker
invariant-loop-worker g l = string_bytes l.output ++ workers_text g.P.Printed.reply_line l.worker (map (λ v. v.items) (drop l.worker l.replies)) ≡ string_bytes l.fn.output ++ workers_text g.P.Printed.reply_line 0 (map (λ v. v.items) l.replies)
