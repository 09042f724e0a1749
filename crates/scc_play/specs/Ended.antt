-- How a run of workers ends.
use Rattle.std.specs.Prelude.{ℕ, List}
use Rattle.std.specs.String.{string_bytes}
use Rattle.scc_play.specs.declared.ends.Cause.{Cause}
use Rattle.scc_play.specs.declared.ends.End.{End}
use Rattle.scc_play.specs.declared.ends.End.TheVariants.{Played, Unfinished, Differs}

-- P holds of the output, if there is one
abbrev pub IfPlayed : End → (List ℕ → Type 0) → Type 0
IfPlayed (Played text) P = P (string_bytes text)
IfPlayed (Unfinished cause) P = Unit {0}
IfPlayed Differs P = Unit {0}

-- P holds of the output, or Q of the cause, or D holds if what was recorded is not what the script has
abbrev pub MatchEnd : End → (List ℕ → Type 0) → (Cause → Type 0) → Type 0 → Type 0
MatchEnd (Played text) P Q D = P (string_bytes text)
MatchEnd (Unfinished cause) P Q D = Q cause
MatchEnd Differs P Q D = D
