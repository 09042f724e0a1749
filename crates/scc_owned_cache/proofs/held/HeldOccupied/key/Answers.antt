use Rattle.std.proofs.Common.{ap, subst}
use Rattle.scc_owned_cache.proofs.Entries.{pair-is}
use Rattle.scc_owned_cache.proofs.held.HeldOccupied.key.Goals as goal

pub returns-clause-key : goal.returns-clause-key
returns-clause-key g c = ap (λ p. p.0) (pair-is c.args.self.now c.look.result.now (c.pair_at.result.0.now, c.pair_at.result.1.now) c.look.ensures c.pair_at.ensures.pair)

pub returns-clause-kept : goal.returns-clause-kept
returns-clause-kept g c = subst (λ v. g.R.Rule.holds c.pair_at.result.0.now v) (ap (λ p. p.1) (pair-is c.args.self.now c.look.result.now (c.pair_at.result.0.now, c.pair_at.result.1.now) c.look.ensures c.pair_at.ensures.pair)) c.pair_at.ensures.kept
