-- The count of requests.
use Rattle.std.specs.Prelude.{ℕ, suc, ◌^◌, ◌-◌, min}

-- one more; the greatest number stays
abbrev pub one_more : ℕ → ℕ
one_more n = min (suc n) (2 ^ 64 - 1)
