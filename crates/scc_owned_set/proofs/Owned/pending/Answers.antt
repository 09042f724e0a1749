use Rattle.std.proofs.Common.{sym, ◌∙◌}
use Rattle.scc_owned_set.proofs.Sets.{shown}
use Rattle.scc_owned_set.proofs.Owned.pending.Goals as goal

pub returns : goal.returns
returns g c = c.pending.ensures ∙ sym (shown _ _ c.self.view_is).pending
