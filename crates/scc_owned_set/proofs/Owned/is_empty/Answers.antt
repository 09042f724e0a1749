use Rattle.std.proofs.Common.{sym, ap, ◌∙◌}
use Rattle.std.specs.Map.{keys_of}
use Rattle.scc_owned_set.proofs.Sets.{shown, none-shown}
use Rattle.scc_owned_set.proofs.Owned.is_empty.Goals as goal

pub returns : goal.returns
returns g c = (λ h. (shown _ _ c.self.view_is).keys ∙ ap (λ es. keys_of es) (c.is_empty.ensures.0 h), λ h. c.is_empty.ensures.1 (none-shown _ (sym (shown _ _ c.self.view_is).keys ∙ h)))
