use Rattle.std.proofs.Common.{rules, ◌≡◌, ap, ◌∙◌, sym, set}
use Rattle.std.proofs.lemmas.List.{set-get_or}
use Rattle.scc_recorded.proofs.Same.{pass-same}
use Rattle.scc_recorded.proofs.passes.Pass.audit_all.Goals as goal

pub returns-clause-same : goal.returns-clause-same
returns-clause-same g c =
    let all = c.args.passes.now in
    let was = c.index-passes-0.result in
    let is = c.index-passes-0.is in
    let ledger : c.empty-seen.new.self ≡ was.ledger = search (rules, c.empty-seen.ensures.same, ap (λ x. x.ledger) is) in
    (c.audit_from.ensures.same.0, c.audit_from.ensures.passes ∙ ap (λ z. set all 0 z) (pass-same was _ (ap (λ x. x.log) (sym is)) ledger) ∙ ap (λ z. set all 0 z) is ∙ set-get_or all 0 was)
