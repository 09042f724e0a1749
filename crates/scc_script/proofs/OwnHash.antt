-- A key of 64 bits is its own hash.
use Rattle.std.proofs.Common.{◌≡◌, ℕ, ◌/◌, ◌%◌, ◌^◌, ap, ◌∙◌, arith, ◌∷◌, []}
use Rattle.std.specs.Hash.{le_bytes}
use Rattle.std.specs.Int.{to_le_bytes, from_le_bytes}
use Rattle.std.proofs.lemmas.Nat.{from_le_bytes-to_le_bytes_8}
use Rattle.scc_script.specs.Hashes.{same_write}
use mir.Syntax.{w64}

-- the eight bytes of a number are the eight bytes of its lowest 64 bits
low-bytes : (k : ℕ) → to_le_bytes w64 k ≡ to_le_bytes w64 (k % 2 ^ 64)
low-bytes k =
    let r : ℕ = k % 2 ^ 64 in
    let b0 : k % 256 ≡ r % 256 = omega arith in
    let b1 : k / 256 ^ 1 % 256 ≡ r / 256 ^ 1 % 256 = omega arith in
    let b2 : k / 256 ^ 2 % 256 ≡ r / 256 ^ 2 % 256 = omega arith in
    let b3 : k / 256 ^ 3 % 256 ≡ r / 256 ^ 3 % 256 = omega arith in
    let b4 : k / 256 ^ 4 % 256 ≡ r / 256 ^ 4 % 256 = omega arith in
    let b5 : k / 256 ^ 5 % 256 ≡ r / 256 ^ 5 % 256 = omega arith in
    let b6 : k / 256 ^ 6 % 256 ≡ r / 256 ^ 6 % 256 = omega arith in
    let b7 : k / 256 ^ 7 % 256 ≡ r / 256 ^ 7 % 256 = omega arith in
    λ i. b0 i ∷ b1 i ∷ b2 i ∷ b3 i ∷ b4 i ∷ b5 i ∷ b6 i ∷ b7 i ∷ []

pub own-hash : (k : ℕ) → (same_write (record { last = 0 }) (le_bytes 8 k)).last ≡ k % 2 ^ 64
unfolding le_bytes
own-hash k = ap (from_le_bytes w64) (low-bytes k) ∙ from_le_bytes-to_le_bytes_8 (k % 2 ^ 64) (omega arith)
