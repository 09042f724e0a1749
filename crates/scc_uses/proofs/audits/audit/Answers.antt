use Rattle.scc_uses.proofs.AuditLemmas.{as_many, when_ok}
use Rattle.scc_uses.proofs.audits.audit.Goals as goal

pub returns : goal.returns
returns g c = when_ok _ _ c.finish.result c.finish.ensures.finished (λ f r k p e. as_many g.C.Call.PartialEq.eq g.C.Reply.PartialEq.eq _ _ (r.receipts k p e))
