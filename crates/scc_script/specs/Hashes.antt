-- A hasher that finishes with a number that was written to it.
use Rattle.std.specs.Prelude.{ℕ, ◌==◌, List, length, cond}
use Rattle.std.specs.Int.{from_le_bytes}
use Rattle.scc_script.specs.declared.same.SameHasher.{SameHasher}
use mir.Syntax.{w64}

-- a write of eight bytes makes them the number, the lowest byte first; any other write changes nothing
abbrev pub same_write : SameHasher → List ℕ → SameHasher
same_write hasher bytes = cond (length bytes == 8) (record { last = from_le_bytes w64 bytes }) hasher
