use Rattle.std.proofs.Common.{Bool, ap, sym, ◌∙◌}
use Rattle.scc_owned_set.proofs.Sets.{shown}
use Rattle.scc_owned_set.proofs.Owned.is_resize_refused.Goals as goal

pub returns : goal.returns
returns g c = c.is_resize_refused.ensures ∙ ap (λ (x : Bool × Bool). x.0) (sym (shown _ _ c.self.view_is).refused)
