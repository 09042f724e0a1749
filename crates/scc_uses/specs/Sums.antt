-- The sum of values.
use Rattle.std.specs.Prelude.{ℕ, ◌+◌, ◌%◌, ◌^◌, List}
use Rattle.std.specs.List.{fold}

-- the start and the values of the pairs, one after another, modulo 2 ^ 64
abbrev pub sum_from : ℕ → List (ℕ × ℕ) → ℕ
sum_from start pairs = fold (λ sum p. (sum + p.1) % 2 ^ 64) start pairs
