use Rattle.std.proofs.Common.{ap, subst, ◌∙◌}
use Rattle.scc_owned.proofs.HeldEntries.{pair-is}
use Rattle.scc_owned.proofs.held.HeldOccupied.key.Goals as goal

pub returns-clause-key : goal.returns-clause-key
returns-clause-key g c = c.read.ensures.key ∙ ap g.E.Keyed.key_of (pair-is c.args.self.now c.look.result.now c.entry_at.result.now c.look.ensures c.entry_at.ensures.entry)

pub returns-clause-allowed : goal.returns-clause-allowed
returns-clause-allowed g c = subst (λ v. g.E.Stored.allows c.read.result.0.now v) (c.read.ensures.value ∙ ap g.E.Stored.value_of (pair-is c.args.self.now c.look.result.now c.entry_at.result.now c.look.ensures c.entry_at.ensures.entry)) c.read.ensures.allowed
