use Rattle.std.proofs.Common.{ap, subst, ◌∙◌}
use Rattle.scc_owned.proofs.HeldEntries.{pair-is}
use Rattle.scc_owned.proofs.held.HeldOccupied.get.Goals as goal

pub returns-clause-value : goal.returns-clause-value
returns-clause-value g c = c.read.ensures.value ∙ ap g.E.Stored.value_of (pair-is c.args.self.now c.look.result.now c.entry_at.result.now c.look.ensures c.entry_at.ensures.entry)

pub returns-clause-allowed : goal.returns-clause-allowed
returns-clause-allowed g c = subst (λ k. g.E.Stored.allows k c.read.result.1.now) (c.read.ensures.key ∙ ap g.E.Keyed.key_of (pair-is c.args.self.now c.look.result.now c.entry_at.result.now c.look.ensures c.entry_at.ensures.entry)) c.read.ensures.allowed
