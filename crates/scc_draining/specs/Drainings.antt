-- The old array of a table, and the flags of the buckets that wait for its entries.
use Rattle.std.specs.Prelude.{◌≡◌, ◌==◌, ℕ, ◌+◌, ◌-◌, ◌^◌, ◌<◌, ◌≤◌, Bool, false, cond, List, [], length, slice_set, count_by, Option, None, Some, Result}
use Rattle.std.specs.List.{flat_map, position}
use Rattle.std.specs.Result.{OnOk, OnErr}
use Rattle.scc_draining.specs.declared.draining.Draining as code
use Rattle.scc_array.specs.Shelf.{Shelf, shelf_entries}
use Rattle.scc_array.specs.Shelves.{shelf_of}
use Rattle.scc_array.specs.Takes.{IsTakenOut}
use Rattle.scc_buckets.specs.Pour.{destined_for}
use Rattle.scc_common.specs.Contents.{Contents, IsRouted, bucket_count, overflow_of, settings_of}
use Rattle.scc_draining.specs.Moves.{TakesOver}

-- the old array, and the flags of the buckets that wait for its entries
pub record Draining (E : Type 0) : Type 0 where
  -- the buckets of the old array
  pub array : List (Shelf E)
  -- a flag for each bucket of the current array, which says whether it waits; empty if none waits
  pub waiting : List Bool
  -- how many buckets wait
  pub pending : ℕ
  -- no bucket before this number waits
  pub next : ℕ
  -- how many entries the old array holds
  pub left : ℕ
  -- its overflow lists hold at most this many of them
  pub left_overflow : ℕ

-- the `Draining` of the program as that of the logic
abbrev pub draining_of : {E : Type 0} → code.Draining E → Draining E
draining_of o = record { array = o.array; waiting = o.waiting.items; pending = o.pending; next = o.next; left = o.left; left_overflow = o.left_overflow }

-- the first entry of old bucket j that passes p is taken out, and the old array holds one entry less; if none passes,
-- nothing changes
abbrev pub TakesFromOld : {E : Type 0} → (E → Bool) → ℕ → code.Draining E → Option E → code.Draining E → Type 0
TakesFromOld p j o None d = (position p (shelf_entries (shelf_of o.array j)) ≡ None) × (d ≡ o)
TakesFromOld p j o (Some x) d = (i : ℕ) × (IsTakenOut p o.array j d.array i x) × (d ≡ record o { array = d.array; left = o.left - 1 })

-- after bucket i has stopped waiting, whose n entries have left the old array; with the last waiting bucket, the old
-- array is released
abbrev pub stopped : {E : Type 0} → ℕ → ℕ → Draining E → Draining E
stopped i n o = cond (count_by (λ w. w) (slice_set o.waiting i false) == 0)
    (record { array = []; waiting = []; pending = o.pending - 1; next = o.next; left = o.left - n; left_overflow = 0 })
    (record o { waiting = slice_set o.waiting i false; pending = o.pending - 1; left = o.left - n })

-- the entries of the old array that belong to the waiting bucket i have become its list, and it waits no longer
pub record IsMovedOut {E S : Type 0} (hash : E → ℕ) (i : ℕ) (c : Contents E S) (o : Draining E) (d : Contents E S) (p : Draining E) : Type 0 where
  -- the old array without these entries
  pub news : List (Shelf E)
  -- how many entries they are
  pub moved : ℕ
  pub takes : TakesOver hash i moved c o.array d news
  pub rest : p ≡ stopped i moved (record o { array = news })
  -- fewer than 2 ^ 62 entries stand in overflow lists, those of the old array included
  pub few : overflow_of d + o.left_overflow < 2 ^ 62
  -- if at most 32 entries come, no more entries than before stand in overflow lists
  pub short : length (destined_for hash (settings_of c).skipped (bucket_count c) i (flat_map shelf_entries o.array)) ≤ 32 → overflow_of d ≤ overflow_of c

-- the entries of the old array that belong to the waiting bucket i become its list, or memory is refused
pub record RelocatesFromOld {E S X : Type 0} (hash : E → ℕ) (i : ℕ) (c : Contents E S) (o : code.Draining E) (result : Result (Unit {0}) X) (d : Contents E S) (p : code.Draining E) : Type 0 where
  pub ok : OnOk result (IsMovedOut hash i c (draining_of o) d (draining_of p))
  -- on failure, the table and the old array stay, and the bucket waits
  pub err : OnErr result ((d ≡ c) × (p ≡ o))
  -- the call fails only if more than 32 entries come
  pub refused : OnErr result (32 < length (destined_for hash (settings_of c).skipped (bucket_count c) i (flat_map shelf_entries o.array)))
  -- each entry of the table stands in the list of the bucket of its hash
  pub routed : IsRouted hash c
