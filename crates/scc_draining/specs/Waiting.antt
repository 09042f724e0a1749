-- The flags of the buckets that wait for their entries in an old array.
use Rattle.std.specs.Prelude.{◌≡◌, ◌==◌, ℕ, ◌<◌, Bool, true, false, cond, List, [], count_by, slice_index_or, slice_set}

-- whether bucket i waits
abbrev pub waits_at : List Bool → ℕ → Bool
waits_at w i = slice_index_or w i false

-- bucket i is the first waiting bucket
pub record IsFirst (ws : List Bool) (i : ℕ) : Type 0 where
  pub waits : waits_at ws i ≡ true
  pub below : (j : ℕ) → j < i → waits_at ws j ≡ false

-- bucket i alone waits
pub record IsLone (ws : List Bool) (i : ℕ) : Type 0 where
  pub first : IsFirst ws i
  pub after : (j : ℕ) → i < j → waits_at ws j ≡ false

-- bucket i is the first waiting bucket, and bucket j the second
pub record IsSecond (ws : List Bool) (i j : ℕ) : Type 0 where
  pub first : IsFirst ws i
  pub behind : i < j
  pub waits : waits_at ws j ≡ true
  pub between : (k : ℕ) → i < k → k < j → waits_at ws k ≡ false

-- the flags after bucket i has stopped waiting; empty if no other bucket waits
abbrev pub cleared : List Bool → ℕ → List Bool
cleared ws i = cond (count_by (λ w. w) (slice_set ws i false) == 0) [] (slice_set ws i false)
