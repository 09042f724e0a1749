use Rattle.std.proofs.Common.{◌+◌, sym, ap, ◌∙◌}
use Rattle.scc_owned_set.proofs.Sets.{shown}
use Rattle.scc_owned_set.proofs.Owned.capacity_range.Goals as goal

pub returns-clause-low : goal.returns-clause-low
returns-clause-low g c = c.capacity_range.ensures.low ∙ ap (λ s. s.asked + s.reserved) (sym (shown _ _ c.self.view_is).settings)
