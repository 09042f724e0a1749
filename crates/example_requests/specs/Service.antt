-- The service, whose answers are kept.
use Rattle.std.specs.Prelude.{ℕ, ◌*◌, ◌+◌, ◌%◌}

-- the answer to a request
abbrev pub answer_to : ℕ → ℕ
answer_to request = (request % 1000003 * 48271 + 11) % 1000003
