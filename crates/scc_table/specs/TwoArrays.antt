-- Two arrays beside each other: the entries of the old array stay there until their bucket of the current array is
-- relocated.
use Rattle.std.specs.Prelude.{◌≡◌, ◌==◌, ℕ, suc, ◌+◌, ◌^◌, ◌<◌, ◌≤◌, ◌⊎◌, Bool, true, false, cond, List, [], ◌∷◌, length, map, not, count_by}
use Rattle.std.specs.List.{filter, flat_map, range_with_len, sum_by, IsDistinct}
use Rattle.scc_array.specs.Shelf.{Shelf, shelf_entries}
use Rattle.scc_common.specs.Contents.{Contents, entries, bucket_count, list_of, lists_of, settings_of, notes_of, overflow_of, waiting_of, owed_of, pending_of}
use Rattle.scc_buckets.specs.Pour.{destined_for}
use Rattle.scc_common.specs.Routing.{bucket_number}
use Rattle.scc_common.specs.Sizes.{IsBucketCount}
use Rattle.scc_buckets.specs.Tables.{overflow_in}
use Rattle.scc_draining.specs.Drainings.{Draining}
use Rattle.scc_draining.specs.Moves.{AreMultiples, AreOwn}
use Rattle.scc_draining.specs.Waiting.{cleared, IsFirst, IsLone, IsSecond}
pub use Rattle.scc_draining.specs.Waiting.{waits_at}

-- the lists of the buckets from number i on: of a waiting bucket, the entries of the old array that belong to it; of
-- another, its own list
abbrev pub joined : {E : Type 0} → (E → ℕ) → ℕ → List Bool → List (List E) → List E → List (List E)
joined target i [] ls es = ls
joined target i (w ∷ ws) [] es = []
joined target i (w ∷ ws) (l ∷ ls) es = cond w (filter (λ e. target e == i) es) l ∷ joined target (suc i) ws ls es

-- for each old bucket, the buckets that its entries belong to; empty if there are no flags
abbrev pub owed_in : {E : Type 0} → (E → ℕ) → List Bool → List (Shelf E) → List (List ℕ)
owed_in target [] olds = []
owed_in target (w ∷ ws) olds = map (λ b. map target (shelf_entries b)) olds

module _ {E S : Type 0} where
  -- the bucket of the current array that an entry belongs to
  abbrev pub target_by : (E → ℕ) → Contents E S → E → ℕ
  target_by hash c e = bucket_number (settings_of c).skipped (bucket_count c) (hash e)

  -- the contents of both arrays: c is those of the current array, and the flags ws say which of its buckets wait
  abbrev pub together : (E → ℕ) → Contents E S → List Bool → List (Shelf E) → Contents E S
  together hash c ws olds = record {
    lists = joined (target_by hash c) 0 ws (lists_of c) (flat_map shelf_entries olds);
    settings = settings_of c;
    refused = notes_of c;
    spilled = overflow_of c + overflow_in olds;
    waiting = ws;
    owed = owed_in (target_by hash c) ws olds;
  }

  -- the old array holds an entry, in the bucket of its hash there, only if its bucket of the current array waits; a
  -- waiting bucket has no entries of its own
  pub record TwoArrays (hash : E → ℕ) (c : Contents E S) (ws : List Bool) (olds : List (Shelf E)) : Type 0 where
    pub flags : (ws ≡ []) ⊎ (length ws ≡ bucket_count c)
    pub multiples : (ws ≡ []) ⊎ AreMultiples (length olds) (bucket_count c)
    pub sized : (ws ≡ []) ⊎ IsBucketCount (length olds)
    pub own : AreOwn hash (settings_of c).skipped olds
    pub not_waiting : (i : ℕ) → waits_at ws i ≡ false → destined_for hash (settings_of c).skipped (bucket_count c) i (flat_map shelf_entries olds) ≡ []
    pub bare : (i : ℕ) → waits_at ws i ≡ true → list_of c i ≡ []

  -- bucket i waits
  abbrev pub IsWaiting : Contents E S → ℕ → Type 0
  IsWaiting c i = waits_at (waiting_of c) i ≡ true

  -- bucket i is the first waiting bucket
  abbrev pub IsFirstWaiting : Contents E S → ℕ → Type 0
  IsFirstWaiting c i = IsFirst (waiting_of c) i

  -- bucket i alone waits
  abbrev pub IsLoneWaiting : Contents E S → ℕ → Type 0
  IsLoneWaiting c i = IsLone (waiting_of c) i

  -- bucket i is the first waiting bucket, and bucket j the second
  abbrev pub IsSecondWaiting : Contents E S → ℕ → ℕ → Type 0
  IsSecondWaiting c i j = IsSecond (waiting_of c) i j

  -- the numbers of the waiting buckets, in rising order
  abbrev pub pending_targets : Contents E S → List ℕ
  pending_targets c = filter (waits_at (waiting_of c)) (range_with_len 0 (length (waiting_of c)))

-- what the old array owes without the entries of bucket i; empty if there are no flags
abbrev pub owed_without : List Bool → ℕ → List (List ℕ) → List (List ℕ)
owed_without [] i hs = []
owed_without (w ∷ ws) i hs = map (λ ts. filter (λ t. not (t == i)) ts) hs

-- bucket i, which waited, is relocated, and no list changes
pub record IsRelocated {E S : Type 0} (i : ℕ) (c d : Contents E S) : Type 0 where
  pub lists : lists_of d ≡ lists_of c
  pub settings : settings_of d ≡ settings_of c
  pub refused : notes_of d ≡ notes_of c
  pub waiting : waiting_of d ≡ cleared (waiting_of c) i
  pub owed : owed_of d ≡ owed_without (waiting_of d) i (owed_of c)
  pub pending : pending_of c ≡ pending_of d + 1

-- what holds of all fields of a table of two arrays; if no bucket waits, there is no old array
pub record IsTable {E K S : Type 0} (eq : K → K → Bool) (key : E → K) (hash : K → ℕ) (c : Contents E S) (drain : Draining E) : Type 0 where
  pub arrays : TwoArrays (λ e. hash (key e)) c drain.waiting drain.array
  pub counted : drain.pending ≡ count_by (λ w. w) drain.waiting
  pub none : drain.pending ≡ 0 → drain.waiting ≡ []
  pub given_back : drain.pending ≡ 0 → drain.array ≡ []
  pub nothing_left : drain.pending ≡ 0 → drain.left_overflow ≡ 0
  pub below : (i : ℕ) → i < drain.next → waits_at drain.waiting i ≡ false
  pub left_is : drain.left ≡ sum_by (λ b. length (shelf_entries b)) drain.array
  pub overflow_is : overflow_in drain.array ≤ drain.left_overflow
  pub few : overflow_of c + drain.left_overflow < 2 ^ 62
  pub unique : IsDistinct eq (map key (entries (together (λ e. hash (key e)) c drain.waiting drain.array)))
