use Rattle.std.proofs.Common.{◌≡◌, sym, ap, ◌∙◌}
use Rattle.scc_common.specs.Contents.{settings_of}
use Rattle.scc_uses.proofs.parts.run_in_parts.Goals as goal
use Rattle.scc_uses.proofs.parts.run_in_parts.Goals.{then-number-eq0, else-number-eq0}

pub returns-in-Ok-clause-skipped : goal.returns-in-Ok-clause-skipped
returns-in-Ok-clause-skipped c =
    let made = c.in_ok-first.ensures in
    let chosen : (settings_of c.if-number-eq0.part).skipped ≡ 1 = elim c.if-number-eq0.branch [
      | then-number-eq0 w ↦ rw w.part-is made.skipped
      | else-number-eq0 w ↦ rw w.part-is (ap (λ s. s.skipped) (sym made.setting) ∙ made.skipped)
    ] in
    ap (λ s. s.skipped) c.run.ensures.setting ∙ chosen
