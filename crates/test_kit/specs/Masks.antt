-- A hasher that finishes with a number that was written to it, under a mask.
use Rattle.std.specs.Prelude.{ℕ, ◌==◌, List, length, cond}
use Rattle.std.specs.Int.{from_le_bytes}
use Rattle.test_kit.specs.declared.masked.MaskedHasher.{MaskedHasher}
use mir.Syntax.{w64}

-- The hasher after a write of `bytes`. Eight bytes set its number, the lowest byte first. Any other write changes
-- nothing.
abbrev pub masked_write : MaskedHasher → List ℕ → MaskedHasher
masked_write hasher bytes = cond (length bytes == 8) (record { last = from_le_bytes w64 bytes; mask = hasher.mask }) hasher
