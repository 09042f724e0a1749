-- The lines so far are the lines of the first replies.
use Rattle.std.proofs.Common.{◌≡◌, ◌++◌, take}
use Rattle.std.specs.String.{string_bytes}
use Rattle.scc_play.specs.Output.{worker_text}
use Rattle.scc_play.proofs.texts.add_worker.Given as goal

abbrev pub invariant-loop-reply : goal.invariant-loop-reply
invariant-loop-reply g l = string_bytes l.output ≡ string_bytes l.fn.output ++ worker_text g.P.Printed.reply_line l.fn.worker (take l.reply-index l.replies)
