use Rattle.std.proofs.Common.{sym, ◌∙◌}
use Rattle.scc_owned_set.proofs.Sets.{shown, unique-keys}
use Rattle.scc_owned_set.proofs.Owned.len.Goals as goal

pub returns-clause-len : goal.returns-clause-len
returns-clause-len g c = c.len.ensures.len ∙ sym (shown _ _ c.self.view_is).length

pub returns-clause-unique : goal.returns-clause-unique
returns-clause-unique g c = rw (← c.self.view_is) (unique-keys _ _ c.len.ensures.unique)
