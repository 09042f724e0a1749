use Rattle.std.specs.Map.{keys_of}
use Rattle.std.proofs.Common.{ap, ◌∙◌}
use Rattle.scc_owned_set.proofs.Sets.{shows}
use Rattle.scc_owned_set.proofs.Owned.with_hasher.Goals as goal

pub returns : goal.returns
returns g c =
    let s = shows c.with_hasher.result in
    let e = c.with_hasher.ensures in
    record { entries = s.keys ∙ ap (λ es. keys_of es) e.entries; buckets = s.buckets ∙ e.buckets; settings = s.settings ∙ e.settings; noted = s.refused ∙ e.noted; waiting = s.waiting ∙ e.waiting }
