use Rattle.std.proofs.Common.{◌∙◌}
use Rattle.scc_owned_set.proofs.Clones.{clones-keys, finds-clones-keys}
use Rattle.scc_table.proofs.relocations.Mapped.{waiting_of-mapped}
use Rattle.scc_owned_set.proofs.Sets.{shows, unique-keys}
use Rattle.scc_owned_set.proofs.Owned.try_clone.Goals as goal

pub returns-in-Ok-clause-clones : goal.returns-in-Ok-clause-clones
returns-in-Ok-clause-clones g c = rw (← c.self.view_is) (clones-keys g.K.Clone.is_clone _ (λ p q h. h.0) g.H.Clone.is_clone c.self.inside.map c.in-Ok.map c.in-Ok.ensures.clones)

pub returns-in-Ok-clause-finds : goal.returns-in-Ok-clause-finds
returns-in-Ok-clause-finds g c = rw (← c.self.view_is) (λ e. finds-clones-keys g.K.Clone.is_clone _ (λ p q h. h.0) g.K.PartialEq.eq c.self.inside.map c.in-Ok.map (c.in-Ok.ensures.finds e))

pub returns-in-Ok-clause-unique : goal.returns-in-Ok-clause-unique
returns-in-Ok-clause-unique g c = unique-keys _ _ c.in-Ok.ensures.unique

pub returns-in-Ok-clause-waiting : goal.returns-in-Ok-clause-waiting
returns-in-Ok-clause-waiting g c = waiting_of-mapped _ c.in-Ok.map ∙ c.in-Ok.ensures.waiting

pub returns-in-Ok-clause-noted : goal.returns-in-Ok-clause-noted
returns-in-Ok-clause-noted g c = (shows c.in-Ok.map).refused ∙ c.in-Ok.ensures.noted
