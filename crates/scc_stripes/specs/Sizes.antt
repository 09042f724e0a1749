-- How many stripes there are, and how many slots they have together, if a capacity is asked for.
use Rattle.std.specs.Prelude.{◌≡◌, ℕ, ◌+◌, ◌*◌, ◌^◌, ◌<◌, ◌≤◌, ◌⊎◌}
use Rattle.scc_common.specs.Sizes.{IsArraySize}

-- n is the number of slots for a capacity that is asked for: 0 for 0, else the size of an array
pub record IsSlotsAsked (capacity n : ℕ) : Type 0 where
  pub none : capacity ≡ 0 → n ≡ 0
  pub some : 0 < capacity → IsArraySize capacity n

-- `bits` is the greatest number, at most 4, for which each of 2 ^ bits stripes has 64 slots or more, if they have
-- `slots` slots together; it is 0 if there are fewer than 64 slots
pub record IsBitsFor (slots bits : ℕ) : Type 0 where
  pub few : bits ≤ 4
  pub room : 64 ≤ slots → 64 * 2 ^ bits ≤ slots
  pub none : slots < 64 → bits ≡ 0
  pub most : (bits ≡ 4) ⊎ (slots < 64 * 2 ^ (bits + 1))

-- `bits` is the number of bits for the slots of an array for `capacity`, or for `instead` if `capacity` is 0
pub record IsBitsAsked (capacity instead bits : ℕ) : Type 0 where
  pub none : capacity ≡ 0 → (n : ℕ) × IsArraySize instead n × IsBitsFor n bits
  pub some : 0 < capacity → (n : ℕ) × IsArraySize capacity n × IsBitsFor n bits
