use Rattle.std.proofs.Common.{◌≡◌, ◌<◌, ◌≤◌, ℕ, arith}
use Rattle.std.specs.Int.{bit_at, w32}
use Rattle.std.proofs.lemmas.Nat.Bits.{bit_at-trailing_zeros}
use Rattle.scc_array.proofs.tags.lowest_bit.Goals as goal

pub returns-clause-set : goal.returns-clause-set
returns-clause-set c = (bit_at-trailing_zeros w32 c.args.bits c.requires c.ranges.bits.fits).1

not_below : (b t k : ℕ) → ((i : ℕ) → i < t → bit_at b i ≡ 0) → bit_at b k ≡ 1 → t ≤ k
not_below b t k f h = let zero = f k in grind arith

pub returns-clause-first : goal.returns-clause-first
returns-clause-first c =
    λ k h. not_below c.args.bits _ k (bit_at-trailing_zeros w32 c.args.bits c.requires c.ranges.bits.fits).2 h
