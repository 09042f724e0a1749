use Rattle.std.proofs.Common.{ap, ◌∙◌, rules}
use Rattle.std.specs.Map.{keys_of}
use Rattle.scc_owned_set.proofs.Sets.{shows}
use Rattle.scc_owned_set.proofs.Owned.with_capacity_and_hasher.Goals as goal

pub returns-in-Ok : goal.returns-in-Ok
returns-in-Ok g c =
    let s = shows c.in-Ok.map in
    let e = c.in-Ok.ensures in
    record { entries = s.keys ∙ ap (λ es. keys_of es) e.entries; none = λ z. s.buckets ∙ e.none z; size = rw s.buckets e.size; settings = rw (s.settings, s.buckets) e.settings; succeeds = (search rules); noted = s.refused ∙ e.noted; waiting = s.waiting ∙ e.waiting }
