-- What an entry has, whatever its guard and its container are. An entry holds its container by a guard, which is a
-- `&mut` in the owned form.
pub use Rattle.scc_owned.specs.declared.held.HeldEntry.TheVariants.{Occupied, Vacant}
use Rattle.std.specs.Prelude.{◌≡◌, List, Option}
use Rattle.std.specs.Borrow.{Fml, RattleType, MutBor, RestsIfNone}
use Rattle.std.specs.HashMap.Lent.{HashMembers}
use Rattle.std.specs.declared.cmp.PartialEq as eq
use Rattle.std.specs.declared.hash.Hash as hash
use Rattle.std.specs.declared.hash.Hasher as hasher
use Rattle.std.specs.declared.hash.BuildHasher as builder
use Rattle.scc_common.specs.Contents.{Contents}
use Rattle.scc_common.specs.declared.entry.Keyed as keyed
use Rattle.scc_common.specs.declared.guard.Guard as guard
use Rattle.scc_table.specs.Placed.{entry_of, front_of, back_of}
use Rattle.scc_owned.specs.Lends.{owned_row}
use Rattle.scc_owned.specs.declared.held.HeldOccupied.{HeldOccupied}
use Rattle.scc_owned.specs.declared.held.HeldEntry.{HeldEntry}
use Rattle.scc_owned.specs.declared.held.HeldVacant.{HeldVacant}

module _ {G N E S K T : Type 0} {d : guard.Ghosts G (Contents E S)} {y : keyed.Ghosts E K} {b : builder.Ghosts S T} {w : hasher.Ghosts T} {g : eq.Ghosts K} {h : hash.Ghosts K} where
  -- the container that the entry holds
  abbrev pub occupied_contents : HeldOccupied G N E S K T d y g b w h → Contents E S
  occupied_contents o = d.inner o.guard

  -- the pair of the entry
  abbrev pub occupied_pair : HeldOccupied G N E S K T d y g b w h → E
  occupied_pair o = entry_of (d.inner o.guard) o.place o.within

  -- the pairs before the entry
  abbrev pub occupied_front : HeldOccupied G N E S K T d y g b w h → List E
  occupied_front o = front_of (d.inner o.guard) o.place

  -- the pairs after the entry
  abbrev pub occupied_back : HeldOccupied G N E S K T d y g b w h → List E
  occupied_back o = back_of (d.inner o.guard) o.place

  -- the guard of an occupied entry
  abbrev pub occupied_guard : HeldOccupied G N E S K T d y g b w h → G
  occupied_guard o = o.guard

  -- the guard of a vacant entry
  abbrev pub vacant_guard : HeldVacant G N E S K T d y g b w h → G
  vacant_guard e = e.guard

  -- the key of a vacant entry
  abbrev pub vacant_key : HeldVacant G N E S K T d y g b w h → K
  vacant_key e = e.key

  -- the guard of the entry's container
  abbrev pub entry_guard : HeldEntry G N E S K T d y g b w h → G
  entry_guard (Occupied o) = o.guard
  entry_guard (Vacant e) = e.guard

  -- the stored key of an occupied entry, or the key of a vacant entry
  abbrev pub entry_key : HeldEntry G N E S K T d y g b w h → K
  entry_key (Occupied o) = y.key_of (occupied_pair o)
  entry_key (Vacant e) = e.key

module _ (E S K T : RattleType) (y : keyed.Ghosts E.Denot K.Denot) (key : HashMembers K.Denot) (build : builder.Ghosts S.Denot T.Denot) (feed : hasher.Ghosts T.Denot) where
  -- an entry of a borrowed container
  abbrev pub Borrowed : (N : Type 0) → guard.Ghosts (MutBor (Contents E.Denot S.Denot)) (Contents E.Denot S.Denot) → builder.Ghosts S.Denot T.Denot → hasher.Ghosts T.Denot → eq.Ghosts K.Denot → hash.Ghosts K.Denot → Type 0
  Borrowed N d b w g h = HeldOccupied (MutBor (Contents E.Denot S.Denot)) N E.Denot S.Denot K.Denot T.Denot d y g b w h

  -- if r has no entry, the container behind m is unchanged
  abbrev pub rests_if_none : {N : Type 0} {d : guard.Ghosts (MutBor (Contents E.Denot S.Denot)) (Contents E.Denot S.Denot)} {b : builder.Ghosts S.Denot T.Denot} {w : hasher.Ghosts T.Denot} {g : eq.Ghosts K.Denot} {h : hash.Ghosts K.Denot}
      → MutBor (Contents E.Denot S.Denot) → Option (Borrowed N d b w g h) → Fml
  rests_if_none m r = RestsIfNone (owned_row E S K T y key build feed) m (λ o. o.guard.ghost_name) r (λ n. n ≡ m.now)
