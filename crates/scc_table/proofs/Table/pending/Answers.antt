use Rattle.std.proofs.Common.{sym, ap, ◌∙◌}
use Rattle.scc_common.specs.Contents.{pending_of}
use Rattle.scc_table.proofs.arrays.JoinedLists.{pending-together}
use Rattle.scc_table.proofs.Table.pending.Goals as goal

pub returns : goal.returns
returns g c = c.self.invariant.counted ∙ sym (pending-together _ c.self.inside.current c.self.inside.draining.waiting.items c.self.inside.draining.array) ∙ ap pending_of c.self.view_is
