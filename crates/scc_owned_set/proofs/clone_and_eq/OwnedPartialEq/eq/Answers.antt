use Rattle.std.proofs.Common.{sym, ◌∙◌}
use Rattle.scc_common.specs.Contents.{entries}
use Rattle.scc_owned_set.specs.Equality.{keys_eq, keys_eq-pairs}
use Rattle.scc_owned_set.proofs.Sets.{shown}
use Rattle.scc_owned_set.proofs.clone_and_eq.OwnedPartialEq.eq.Goals as goal

pub returns : goal.returns
returns g c =
    c.eq.ensures ∙ keys_eq-pairs g.K.PartialEq.eq g.met.K.Eq.laws (entries c.self.inside.map) (entries c.other.inside.map)
    ∙ (λ i. keys_eq g.K.PartialEq.eq (sym (shown _ _ c.self.view_is).keys i) (sym (shown _ _ c.other.view_is).keys i))
