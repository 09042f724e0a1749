use Rattle.scc_uses.proofs.AuditLemmas.{as_many, when_ok}
use Rattle.scc_uses.proofs.named_sessions.audit_sessions.Goals as goal

pub returns-clause-answered : goal.returns-clause-answered
returns-clause-answered g c = when_ok _ _ c.finish.result c.finish.ensures.finished (λ f r k p e. as_many _ _ _ _ (r.receipts k p e))

pub returns-clause-stamps : goal.returns-clause-stamps
returns-clause-stamps g c = when_ok _ _ c.finish.result c.finish.ensures.finished (λ f r. r.stamps)
