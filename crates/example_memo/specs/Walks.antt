-- A function of two arguments that takes long.
use Rattle.std.specs.Prelude.{ℕ, zero, suc, ◌+◌, ◌*◌, ◌%◌}

-- the end of a walk of a number of steps that starts at `at`: a step takes the number n to the rest of 48271 n + 11 by
-- 1000003
abbrev pub walked : ℕ → ℕ → ℕ
walked zero at = at
walked (suc n) at = (walked n at * 48271 + 11) % 1000003

-- the end of a walk from `start`
abbrev pub end_of : ℕ → ℕ → ℕ
end_of start steps = walked steps (start % 1000003)
