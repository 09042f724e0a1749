-- What a cache did.
use Rattle.std.specs.Prelude.{◌≡◌, ◌⊎◌, ◌^◌, ◌-◌, ℕ, suc, min}

-- the numbers of hits, misses and evictions
pub record Counts : Type 0 where
  pub hits : ℕ
  pub misses : ℕ
  pub evictions : ℕ

-- one more, up to the greatest number
abbrev pub one_more : ℕ → ℕ
one_more n = min (suc n) (2 ^ 64 - 1)

-- a request is one hit more or one miss more, and only a miss evicts an answer
abbrev pub Serves : Counts → Counts → Type 0
Serves old new =
    ((new.hits ≡ one_more old.hits) × (new.misses ≡ old.misses) × (new.evictions ≡ old.evictions))
    ⊎ ((new.hits ≡ old.hits) × (new.misses ≡ one_more old.misses) × ((new.evictions ≡ old.evictions) ⊎ (new.evictions ≡ one_more old.evictions)))
