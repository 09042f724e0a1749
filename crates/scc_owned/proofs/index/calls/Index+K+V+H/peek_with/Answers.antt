use Rattle.std.proofs.Common.{◌≡◌, Some, refl, sym, ap, ◌∙◌}
use Rattle.scc_owned.proofs.index.calls.Index+K+V+H.peek_with.Goals as goal

pub f-requires : goal.f-requires
f-requires g c =
    let a = c.key.result.now in let b = c.value.result.now in
    let same : c.in-Some.version.now ≡ (a, b) = ap (λ x. (x, c.in-Some.version.now.1)) (sym c.key.ensures) ∙ ap (λ y. (a, y)) (sym c.value.ensures) in
    c.requires c.key.result c.value.result (c.in-Some.ensures ∙ ap Some same)

pub returns-in-Some : goal.returns-in-Some
returns-in-Some g c =
    let a = c.key.result.now in let b = c.value.result.now in
    let same : c.in-Some.version.now ≡ (a, b) = ap (λ x. (x, c.in-Some.version.now.1)) (sym c.key.ensures) ∙ ap (λ y. (a, y)) (sym c.value.ensures) in
    rw (c.in-Some.ensures) record { answer = record { key = c.key.result; value = c.value.result; shows = sym same; met = c.f.ensures } }

pub returns-in-None : goal.returns-in-None
returns-in-None g c = rw (c.in-None.ensures) record { answer = refl }
