use Rattle.std.proofs.Common.{◌*◌, sym, ap, ◌∙◌}
use Rattle.scc_owned_set.proofs.Sets.{shown}
use Rattle.scc_owned_set.proofs.Owned.capacity.Goals as goal

pub returns : goal.returns
returns g c = c.capacity.ensures ∙ ap (λ n. 32 * n) (sym (shown _ _ c.self.view_is).buckets)
