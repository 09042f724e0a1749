use Rattle.std.proofs.Common.{ap, ◌∙◌}
use Rattle.scc_owned_cache.proofs.Entries.{last_alike, replaced_as}
use Rattle.scc_owned_cache.proofs.Owned.replace_sync.Goals as goal

pub replace_key_at-old-requires-clause-same : goal.replace_key_at-old-requires-clause-same
replace_key_at-old-requires-clause-same g c = λ p got. last_alike _ g.K.PartialEq.eq c.args.self.now c.refresh.new.self c.args.k c.in-Some.place p c.in-Some.ensures.step got

pub returns-in-Some-clause-step : goal.returns-in-Some-clause-step
returns-in-Some-clause-step g c = replaced_as g.K.PartialEq.eq c.args.self.now c.refresh.new.self c.args.k c.replace_key_at-old.result c.at.result _ c.at.ensures.place c.in-Some.ensures.step c.in-Some.ensures.relocates c.replace_key_at-old.ensures.old (ap (λ x. x.now) c.at.ensures.guard ∙ c.replace_key_at-old.ensures.new)
