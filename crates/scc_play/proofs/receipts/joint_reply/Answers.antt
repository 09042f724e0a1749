use Rattle.std.proofs.Common.{◌∙◌, sym}
use Rattle.scc_play.proofs.Answering.{several-count}
use Rattle.scc_play.proofs.receipts.joint_reply.Goals as goal

pub returns-in-Some : goal.returns-in-Some
returns-in-Some g c = rw c.count_reply.ensures (several-count g.P.Calls.key_of g.P.WholeCalls.counted g.P.Printed.count_reply c.args.receipts.now c.index-receipts-0-2.result c.in-Some.field-0 c.sum_of.result c.if-receipts-eq1.false c.requires (sym c.counted.ensures ∙ c.in-Some.is) c.sum_of.ensures)
