use Rattle.std.proofs.Common.{◌≡◌, ◌∙◌, refl, ap, rules, true}
use Rattle.scc_owned.proofs.ruled_index.places.RuledIndex+K+V+R+H.next_version.Goals as goal

pub returns-in-Ok-make-clause-made : goal.returns-in-Ok-make-clause-made
returns-in-Ok-make-clause-made g c =
    let stored : c.key-stored.result.now ≡ c.entry_at.result.now.0 = c.key-stored.ensures ∙ ap (λ p. p.0) c.version.ensures.same in
    let equal : g.K.PartialEq.eq c.in-Ok.key c.key-stored.result.now ≡ true = search rules in
    (c.entry_at.result.now, c.entry_at.ensures.entry, rw (c.in-Ok-make.ensures.ok, ← stored) c.in-Ok.ensures.cases, rw (c.in-Ok-make.ensures.ok, ← stored) equal, rw c.in-Ok-make.ensures.ok refl)
