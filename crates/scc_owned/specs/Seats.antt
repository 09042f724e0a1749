-- Which stripe an entry of a shared container holds.
use Rattle.std.specs.Prelude.{◌≡◌, ℕ}
use Rattle.std.specs.declared.cmp.PartialEq as eq
use Rattle.std.specs.declared.hash.Hash as hash
use Rattle.std.specs.declared.hash.Hasher as hasher
use Rattle.std.specs.declared.hash.BuildHasher as builder
use Rattle.scc_common.specs.declared.entry.Keyed as keyed
use Rattle.scc_common.specs.declared.guard.Guard as guard
use Rattle.scc_common.specs.Contents.{Contents}
use Rattle.scc_stripes.specs.Seats.{seat_stripe, IsLaterSeat, IsSeatIn}
use Rattle.scc_stripes.specs.declared.seats.Seat.{Seat}
use Rattle.scc_stripes.specs.declared.Striped.{Striped}
use Rattle.scc_owned.specs.declared.held.HeldOccupied.{HeldOccupied}
use Rattle.scc_owned.specs.declared.held.HeldEntry.{HeldEntry}
use Rattle.scc_owned.specs.declared.held.HeldEntry.TheVariants.{Occupied, Vacant}
use Rattle.scc_owned.specs.declared.held.HeldVacant.{HeldVacant}
use Rattle.scc_owned.specs.declared.held.HeldReplace.{HeldReplace}
use Rattle.scc_owned.specs.declared.held.HeldReplace.TheVariants.{Replaced, NotReplaced}

module _ {G N E S K T : Type 0} {d : guard.Ghosts G (Contents E S)} {y : keyed.Ghosts E K} {b : builder.Ghosts S T} {w : hasher.Ghosts T} {g : eq.Ghosts K} {h : hash.Ghosts K} where
  -- the `rest` of an occupied entry: its seat if the entry holds a stripe
  abbrev pub occupied_rest : HeldOccupied G N E S K T d y g b w h → N
  occupied_rest o = o.rest

  -- the `rest` of a vacant entry
  abbrev pub vacant_rest : HeldVacant G N E S K T d y g b w h → N
  vacant_rest e = e.rest

  -- the `rest` of an entry
  abbrev pub entry_rest : HeldEntry G N E S K T d y g b w h → N
  entry_rest (Occupied o) = o.rest
  entry_rest (Vacant e) = e.rest

  -- the `rest` of the result of a replacement
  abbrev pub replaced_rest : HeldReplace G N E S K T d y g b w h → N
  replaced_rest (Replaced o k) = o.rest
  replaced_rest (NotReplaced e) = e.rest

  -- p has the `rest` of o
  abbrev pub HasSameRest : HeldOccupied G N E S K T d y g b w h → HeldOccupied G N E S K T d y g b w h → Type 0
  HasSameRest o p = p.rest ≡ o.rest

module _ {G O H E S K T : Type 0} {d : guard.Ghosts G (Contents E S)} {y : keyed.Ghosts E K} {b : builder.Ghosts S T} {w : hasher.Ghosts T} {g : eq.Ghosts K} {h : hash.Ghosts K} where
  -- the number of the stripe that an occupied entry holds
  abbrev pub occupied_stripe : HeldOccupied G (Seat O H) E S K T d y g b w h → ℕ
  occupied_stripe o = seat_stripe o.rest

  -- the number of the stripe that a vacant entry holds
  abbrev pub vacant_stripe : HeldVacant G (Seat O H) E S K T d y g b w h → ℕ
  vacant_stripe e = seat_stripe e.rest

  -- the entry holds one of the stripes
  abbrev pub HasSeatIn : Striped O H → HeldOccupied G (Seat O H) E S K T d y g b w h → Type 0
  HasSeatIn stripes o = IsSeatIn stripes (seat_stripe o.rest) o.rest

  -- p holds a later stripe than o, among the same stripes
  abbrev pub HasLaterSeat : HeldOccupied G (Seat O H) E S K T d y g b w h → HeldOccupied G (Seat O H) E S K T d y g b w h → Type 0
  HasLaterSeat o p = IsLaterSeat o.rest p.rest
