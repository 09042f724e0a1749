-- Tables of two arrays whose lists hold at most 32 entries each. A place of the table stands for its spot, and the
-- words of `scc_buckets` speak of spots.
use Rattle.std.specs.Prelude.{◌≡◌, ℕ, ◌*◌, ◌<◌, ◌≤◌, ◌⊎◌, Bool, length}
use Rattle.scc_buckets.specs.Bounded as bounded
use Rattle.scc_buckets.specs.Bounded.{IsResized, HasListsOf}
use Rattle.scc_common.specs.Contents.{Contents, entries, bucket_count, list_of, minimum_of, pending_of, notes_of, IsMarked, IsNoteDown, IsNoteUp, IsUnmarked}
use Rattle.scc_common.specs.Sizes.{IsArraySize}
use Rattle.scc_buckets.specs.declared.place.Place.{Place}
use Rattle.scc_table.specs.Places.{spot_of}

-- p is the place of the first entry of list i that passes
abbrev pub IsListedAt : {E S : Type 0} → (E → Bool) → Contents E S → ℕ → Place → Type 0
IsListedAt passes c i p = bounded.IsListedAtSpot passes c i (spot_of c p)

module _ {E S : Type 0} where
  -- no bucket waits, and the table has at least half as many entries as slots, and fewer slots than `most`
  pub record IsDoublingDue (most : ℕ) (c : Contents E S) : Type 0 where
    pub not_waiting : pending_of c ≡ 0
    pub half : 32 * bucket_count c ≤ 2 * length (entries c)
    pub below : 32 * bucket_count c < most

  -- the array doubles if a doubling is due and no growth is marked; if memory for it is refused, or a growth is marked,
  -- that is noted, and nothing else changes
  pub data DoublesBelow (hash : E → ℕ) (most : ℕ) (c d : Contents E S) : Type 0 where
    stays : (IsDoublingDue most c → ⊥) → d ≡ c → DoublesBelow hash most c d
    denied : IsDoublingDue most c → IsNoteUp d → HasListsOf c d → DoublesBelow hash most c d
    doubles : IsDoublingDue most c → IsUnmarked c → IsNoteDown d → bucket_count d ≡ 2 * bucket_count c → IsResized hash c d → DoublesBelow hash most c d

  -- what a put of a new key into list i makes first: the first array, with the size of the minimum, which leaves the
  -- note and the mark, or a doubling if list i holds 32 entries and a doubling is due
  pub data GrowsBelow (hash : E → ℕ) (most i : ℕ) (c d : Contents E S) : Type 0 where
    makes : bucket_count c ≡ 0 → IsArraySize (minimum_of c) (32 * bucket_count d) → notes_of d ≡ notes_of c → IsResized hash c d → GrowsBelow hash most i c d
    has_room : 0 < bucket_count c → length (list_of c i) < 32 → d ≡ c → GrowsBelow hash most i c d
    is_full : 0 < bucket_count c → 32 ≤ length (list_of c i) → DoublesBelow hash most c d → GrowsBelow hash most i c d

  -- a put of a new key into list i is prepared: there is an array, and list i has room, no doubling is due, or a growth
  -- is marked
  abbrev pub IsPreparedBelow : ℕ → ℕ → Contents E S → Type 0
  IsPreparedBelow most i c = (0 < bucket_count c) × (length (list_of c i) < 32 ⊎ ((IsDoublingDue most c → ⊥) ⊎ IsMarked c))
