-- The key of an entry, and where the key stands in its stripe.
use Rattle.std.specs.Prelude.{◌≡◌, ℕ, Bool, List, []}
use Rattle.std.specs.Map.{keys_of}
use Rattle.std.specs.declared.cmp.PartialEq as eq
use Rattle.std.specs.declared.hash.Hash as hash
use Rattle.std.specs.declared.hash.Hasher as hasher
use Rattle.std.specs.declared.hash.BuildHasher as builder
use Rattle.scc_owned.specs.Held.{occupied_contents, occupied_pair, occupied_front as pairs_before, occupied_back as pairs_after}
use Rattle.scc_owned.specs.EntrySteps as pairs
use Rattle.scc_owned.specs.Seats as seats
use Rattle.scc_common.specs.Contents.{Contents}
use Rattle.scc_common.specs.Pairs.{IsUnique}
use Rattle.scc_common.specs.declared.guard.Guard as guard
use Rattle.scc_owned.specs.declared.held.HeldOccupied.{HeldOccupied}
use Rattle.scc_shared_set.specs.declared.entries.HeldKey.{HeldKey}
use Rattle.scc_stripes.specs.declared.seats.Seat.{Seat}
use Rattle.scc_stripes.specs.declared.Striped.{Striped}
use Rattle.scc_owned.specs.Lends.{pair_keys}

module _ {G N K S T : Type 0} {d : guard.Ghosts G (Contents (K × Unit {0}) S)} {g : eq.Ghosts K} {h : hash.Ghosts K} {b : builder.Ghosts S T} {w : hasher.Ghosts T} where
  -- the key of entry o
  abbrev pub occupied_key : HeldKey (HeldOccupied G N (K × Unit {0}) S K T d pair_keys g b w h) → K
  occupied_key o = (occupied_pair o.entry).0

  -- the keys of the stripe before entry o
  abbrev pub occupied_front : HeldKey (HeldOccupied G N (K × Unit {0}) S K T d pair_keys g b w h) → List K
  occupied_front o = keys_of (pairs_before o.entry)

  -- the keys of the stripe after entry o
  abbrev pub occupied_back : HeldKey (HeldOccupied G N (K × Unit {0}) S K T d pair_keys g b w h) → List K
  occupied_back o = keys_of (pairs_after o.entry)

  -- p is the entry that stands next after o in the list of the stripe, which stays
  abbrev pub IsNext : HeldKey (HeldOccupied G N (K × Unit {0}) S K T d pair_keys g b w h) → HeldKey (HeldOccupied G N (K × Unit {0}) S K T d pair_keys g b w h) → Type 0
  IsNext o p = pairs.IsNext o.entry p.entry

  -- the key of o is removed, the other keys of the stripe stay in their order, and p is the entry that stood next
  -- after o
  abbrev pub IsNextPastRemoved : HeldKey (HeldOccupied G N (K × Unit {0}) S K T d pair_keys g b w h) → HeldKey (HeldOccupied G N (K × Unit {0}) S K T d pair_keys g b w h) → Type 0
  IsNextPastRemoved o p = pairs.IsNextPastRemoved o.entry p.entry

  -- o is the last entry of its stripe
  abbrev pub IsLastOfStripe : HeldKey (HeldOccupied G N (K × Unit {0}) S K T d pair_keys g b w h) → Type 0
  IsLastOfStripe o = pairs_after o.entry ≡ []

  -- o is the first entry of its stripe
  abbrev pub IsFirstOfStripe : HeldKey (HeldOccupied G N (K × Unit {0}) S K T d pair_keys g b w h) → Type 0
  IsFirstOfStripe o = pairs_before o.entry ≡ []

  -- no two keys of the stripe are equal
  abbrev pub HasUniqueKeys : (K → K → Bool) → HeldKey (HeldOccupied G N (K × Unit {0}) S K T d pair_keys g b w h) → Type 0
  HasUniqueKeys same o = IsUnique same (occupied_contents o.entry)

  -- p holds the stripe that o holds
  abbrev pub HasSameRest : HeldKey (HeldOccupied G N (K × Unit {0}) S K T d pair_keys g b w h) → HeldKey (HeldOccupied G N (K × Unit {0}) S K T d pair_keys g b w h) → Type 0
  HasSameRest o p = seats.HasSameRest o.entry p.entry

module _ {G O H K S T : Type 0} {d : guard.Ghosts G (Contents (K × Unit {0}) S)} {g : eq.Ghosts K} {h : hash.Ghosts K} {b : builder.Ghosts S T} {w : hasher.Ghosts T} where
  -- the number of the stripe that o holds
  abbrev pub occupied_stripe : HeldKey (HeldOccupied G (Seat O H) (K × Unit {0}) S K T d pair_keys g b w h) → ℕ
  occupied_stripe o = seats.occupied_stripe o.entry

  -- o holds one of these stripes
  abbrev pub HasSeatIn : Striped O H → HeldKey (HeldOccupied G (Seat O H) (K × Unit {0}) S K T d pair_keys g b w h) → Type 0
  HasSeatIn stripes o = seats.HasSeatIn stripes o.entry

  -- p holds a later stripe than o, of the same stripes
  abbrev pub HasLaterSeat : HeldKey (HeldOccupied G (Seat O H) (K × Unit {0}) S K T d pair_keys g b w h) → HeldKey (HeldOccupied G (Seat O H) (K × Unit {0}) S K T d pair_keys g b w h) → Type 0
  HasLaterSeat o p = seats.HasLaterSeat o.entry p.entry
