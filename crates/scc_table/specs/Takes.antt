-- What the old array owes after a removal.
use Rattle.std.specs.Prelude.{ℕ, ◌-◌, cond, nat_lt, List, [], slice_index_or, slice_set, remove}
use Rattle.scc_buckets.specs.declared.place.Place.{Place}

-- what the old array owes without the entry at p, if p is a place of the old array; the current array has n buckets
abbrev pub owed_taken : ℕ → List (List ℕ) → Place → List (List ℕ)
owed_taken n hs p = cond (nat_lt p.bucket n) hs (slice_set hs (p.bucket - n) (remove (slice_index_or hs (p.bucket - n) []) p.slot))
