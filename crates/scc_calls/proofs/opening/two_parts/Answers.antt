use Rattle.std.proofs.Common.{◌≡◌, ◌∙◌, sym, ap, subst, arith}
use Rattle.scc_calls.specs.Made.{IsMadeFor, same-setting}
use Rattle.scc_calls.proofs.opening.two_parts.Goals as goal

pub returns-clause-setting : goal.returns-clause-setting
returns-clause-setting g c =
    let m = g.C.Calls in
    let b = m.setting c.in_ok-second.second in
    same-setting m.limits g.met.C.Calls.one_limit _ (m.setting c.in_ok-first.first) b c.in_ok-first.ensures.made
    (subst (λ h. IsMadeFor m.limits (record { hasher = h; skipped = 1; slots = c.args.slots; maximum = c.args.maximum }) b) c.in-Ok.ensures c.in_ok-second.ensures.made)

pub returns-clause-state : goal.returns-clause-state
returns-clause-state g c =
    let m = g.C.Calls in
    let f = c.in_ok-first.ensures in
    let s = c.in_ok-second.ensures in
    let e = ap (λ x. x.minimum) (returns-clause-setting g c) in
    let n : m.size (m.state c.in_ok-first.first) ≡ m.size (m.state c.in_ok-second.second) = omega (arith, f.size, s.size, e) in
    f.state ∙ ap m.empty n ∙ sym s.state
