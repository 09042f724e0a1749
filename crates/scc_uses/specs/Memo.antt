-- The value that a memo returns.
use Rattle.std.specs.Prelude.{ℕ, Option, None, Some}

-- the value of the pair, or the default
abbrev pub stored_or : ℕ → Option (ℕ × ℕ) → ℕ
stored_or default None = default
stored_or default (Some p) = p.1
