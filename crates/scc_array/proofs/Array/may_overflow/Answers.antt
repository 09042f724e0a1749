use Rattle.std.proofs.Common.{◌≡◌, ◌≤◌, ◌<◌, false, length, get_or, sym, ap, ◌∙◌, arith}
use Rattle.std.proofs.lemmas.List.{get_or_past, get_or_default}
use Rattle.scc_array.proofs.Crowded.{uncrowded}
use Rattle.scc_array.proofs.Array.may_overflow.Goals as goal

pub returns-then-flag-len : goal.returns-then-flag-len
returns-then-flag-len g c =
    let fs = c.self.inside.crowded.items in let b = c.args.bucket in let f = c.flag_of-flag.result in
    λ down.
    let l : f < length fs = omega (arith, c.if-flag-len.true, c.len.ensures, c.self.inside.crowded.ok.0) in
    let same : get_or fs f false ≡ c.index.result.now = sym (get_or_default fs f c.index.result.now false l) ∙ sym c.index.ensures in
    uncrowded c.self.inside.columns c.self.inside.overflow.items fs c.self.invariant.1 c.args.self.now c.self.view_is b c.requires (ap (λ j. get_or fs j false) (sym c.flag_of-flag.ensures) ∙ same ∙ down)

pub returns-else-flag-len : goal.returns-else-flag-len
returns-else-flag-len g c =
    let fs = c.self.inside.crowded.items in let b = c.args.bucket in let f = c.flag_of-flag.result in
    λ _.
    let l : length fs ≤ f = omega (arith, c.if-flag-len.false, c.len.ensures, c.self.inside.crowded.ok.0) in
    uncrowded c.self.inside.columns c.self.inside.overflow.items fs c.self.invariant.1 c.args.self.now c.self.view_is b c.requires (ap (λ j. get_or fs j false) (sym c.flag_of-flag.ensures) ∙ get_or_past fs f false l)
