-- Where a step from place to place goes on.
use Rattle.std.specs.Prelude.{◌≡◌, ℕ, ◌+◌, ◌-◌, ◌<◌, ◌≤◌, ◌==◌, false, true, cond, nat_lt, length, count_by}
use Rattle.scc_common.specs.Contents.{Contents, bucket_count, owed_of, list_of, waiting_of}
use Rattle.scc_buckets.specs.Places as spots
use Rattle.scc_buckets.specs.declared.place.Place.{Place}
use Rattle.scc_table.specs.Places.{owed_before}
use Rattle.scc_table.specs.TwoArrays.{waits_at}

module _ {E S : Type 0} where
  -- how many entries that wait for bucket t stand before slot s of old bucket j
  abbrev pub rank_on : Contents E S → ℕ → ℕ → ℕ → ℕ
  rank_on c t j s = count_by (λ u. u == t) (owed_before (owed_of c) j s)

  -- the spot of the first entry of bucket t from slot s of bucket b on; b is t itself or a bucket of the old array
  abbrev pub spot_on : Contents E S → ℕ → ℕ → ℕ → Place
  spot_on c t b s = cond (nat_lt b (bucket_count c)) (record { bucket = t; slot = s }) (record { bucket = t; slot = rank_on c t (b - bucket_count c) s })

  -- how many entries stand before the spot `spot_on c t b s`
  abbrev pub index_on : Contents E S → ℕ → ℕ → ℕ → ℕ
  index_on c t b s = spots.index_of_spot c (spot_on c t b s)

  -- a search for the entries of bucket t may start at slot s of bucket b: b is t, which doesn't wait, and s is at most
  -- the length of its list; or t waits, and b is a bucket of the old array
  pub data IsStart (c : Contents E S) (t b s : ℕ) : Type 0 where
    own : b ≡ t → waits_at (waiting_of c) t ≡ false → s ≤ length (list_of c t) → IsStart c t b s
    old : waits_at (waiting_of c) t ≡ true → bucket_count c ≤ b → b < bucket_count c + length (owed_of c) → IsStart c t b s
