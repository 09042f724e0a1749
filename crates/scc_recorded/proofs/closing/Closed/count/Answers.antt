use Rattle.std.proofs.Common.{◌∙◌}
use Rattle.scc_recorded.proofs.Same.{same-items}
use Rattle.scc_recorded.proofs.closing.Closed.count.Goals as goal

pub returns-then-len-self-clause-same : goal.returns-then-len-self-clause-same
returns-then-len-self-clause-same g c = (c.audit.ensures.same.0, same-items c.args.passes.now _ (c.audit.ensures.same.1 ∙ c.as_mut_slice.ensures.value))
