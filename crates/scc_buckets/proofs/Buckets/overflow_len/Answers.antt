use Rattle.std.proofs.Common.{sym, ◌∙◌}
use Rattle.scc_buckets.proofs.Views.{spilled-view}
use Rattle.scc_buckets.proofs.Buckets.overflow_len.Goals as goal

pub returns-clause-value : goal.returns-clause-value
returns-clause-value g c = c.self.invariant.table.spilled ∙ sym (spilled-view c.self.inside.buckets _ c.args.self.now c.self.view_is)

pub returns-clause-most : goal.returns-clause-most
returns-clause-most g c = c.self.invariant.table.few
