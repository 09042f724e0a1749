-- The meaning of counting.
use Rattle.std.specs.Prelude.{ℕ, suc, ◌^◌, ◌-◌, Option, None, Some, min}

-- the count of a word after one more; it stays at the greatest number
abbrev pub one_more : Option (ℕ × ℕ) → ℕ
one_more None = 1
one_more (Some p) = min (suc p.1) (2 ^ 64 - 1)
