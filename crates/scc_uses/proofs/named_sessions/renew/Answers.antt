use Rattle.std.proofs.Common.{length, refl, ap, ◌∙◌, length-append}
use Rattle.scc_uses.proofs.AuditLemmas.{when_ok}
use Rattle.scc_uses.proofs.named_sessions.renew.Goals as goal

pub returns-clause-kept : goal.returns-clause-kept
returns-clause-kept g c = when_ok _ _ c.call.result c.call.ensures.receipt (λ r p.
    let made = p.1 c.args.name refl in
    ap length made.3 ∙ length-append c.args.pass.now.log.receipts.items _)
