-- Pairs of numbers that are equal by comparison are the same.
use Rattle.std.proofs.Common.{◌≡◌, ℕ, eqb, ◌&&◌, true, ap, ◌∙◌}
use Rattle.std.proofs.lemmas.Bool.{eqb-true, and_parts}

-- equal walks are the same walk
pub pairs-equal : (j k : ℕ × ℕ) → (eqb j.0 k.0 && eqb j.1 k.1) ≡ true → j ≡ k
pairs-equal (a, b) (c, d) same =
    let parts = and_parts (eqb a c) (eqb b d) same in
    ap (λ x. (x, b)) (eqb-true a c parts.0) ∙ ap (λ y. (c, y)) (eqb-true b d parts.1)
