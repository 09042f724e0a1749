-- The words of an entry's contracts: its key, the keys before and after it, and what its calls leave.
use Rattle.std.specs.Prelude.{◌≡◌, [], Bool, List, ◌++◌, Option, Result, IfOk, IfErr}
use Rattle.std.specs.Borrow.{Fml, RattleType, MutBor, RestsIfErr, RestsIfNone}
use Rattle.std.specs.HashMap.Lent.{HashMembers}
use Rattle.std.specs.declared.cmp.PartialEq as eq
use Rattle.std.specs.declared.hash.Hash as hash
use Rattle.std.specs.declared.hash.Hasher as hasher
use Rattle.std.specs.declared.hash.BuildHasher as builder
use Rattle.scc_common.specs.Contents.{Contents, notes_of, waiting_of}
use Rattle.scc_table.specs.Placed.{entry_of, front_of, back_of, SplitsAt, IsNextAt, IsNextPastRemovedAt}
use Rattle.scc_common.specs.Steps.{HoldsExactly}
use Rattle.scc_buckets.specs.declared.place.Place.{Place}
use Rattle.scc_owned_set.specs.Keys.{IsUnique}
use Rattle.scc_owned_set.specs.Lends.{set_row}
use Rattle.scc_owned_set.specs.declared.entry.OccupiedEntry.{OccupiedEntry}
use Rattle.scc_owned_set.specs.declared.entry.Removed.{Removed}

module _ {K S T : Type 0} {g : eq.Ghosts K} {h : hash.Ghosts K} {b : builder.Ghosts S T} {w : hasher.Ghosts T} where
  -- the place of the entry
  abbrev pub place_of : OccupiedEntry K S T g h b w → Place
  place_of o = record { bucket = o.bucket; slot = o.slot }

  -- the borrow of the set that the entry holds
  abbrev pub occupied_borrow : OccupiedEntry K S T g h b w → MutBor (Contents K S)
  occupied_borrow o = o.set

  -- the key of the entry
  abbrev pub occupied_key : OccupiedEntry K S T g h b w → K
  occupied_key o = entry_of o.set.now (place_of o) o.within

  -- the keys before the entry
  abbrev pub occupied_front : OccupiedEntry K S T g h b w → List K
  occupied_front o = front_of o.set.now (place_of o)

  -- the keys after the entry
  abbrev pub occupied_back : OccupiedEntry K S T g h b w → List K
  occupied_back o = back_of o.set.now (place_of o)

  -- the set is c, and its list has the keys before o, the key of o, and the keys after it
  pub record StandsIn (c : Contents K S) (o : OccupiedEntry K S T g h b w) : Type 0 where
    pub contents : o.set.now ≡ c
    pub at : SplitsAt o.set.now (place_of o) o.within

  -- p stands next after o in the list, which is unchanged
  pub record IsNext (o p : OccupiedEntry K S T g h b w) : Type 0 where
    pub same_set : p.set.ghost_name ≡ o.set.ghost_name
    pub at : IsNextAt o.set.now (place_of o) o.within p.set.now (place_of p) p.within

  -- the key of o is removed, the others stay in their order, and p stands at the key that stood next after it
  pub record IsNextPastRemoved (o p : OccupiedEntry K S T g h b w) : Type 0 where
    pub same_set : p.set.ghost_name ≡ o.set.ghost_name
    pub at : IsNextPastRemovedAt o.set.now (place_of o) p.set.now (place_of p) p.within

  -- the contract of `remove_and_sync` of the entry o: it returns `result`
  pub record RemovesWithNext (same : K → K → Bool) (o : OccupiedEntry K S T g h b w) (result : Result (Removed K × OccupiedEntry K S T g h b w) K) : Type 0 where
    -- the result has the key of the entry
    pub key : IfOk result (λ r. r.0.key ≡ occupied_key o)
    -- the result has the entry that stood next after the removed key
    pub next : IfOk result (λ r. IsNextPastRemoved o r.1)
    -- the same buckets wait as before
    pub waiting : IfOk result (λ r. waiting_of r.1.set.now ≡ waiting_of o.set.now)
    -- no two keys are equal
    pub unique : IfOk result (λ r. IsUnique same r.1.set.now)
    -- if no entry stood next, the result is the key alone
    pub last : IfErr result (λ q. (q ≡ occupied_key o) × (occupied_back o ≡ []))

module _ (K S T : RattleType) (key : HashMembers K.Denot) (build : builder.Ghosts S.Denot T.Denot) (feed : hasher.Ghosts T.Denot) where
  -- if r has no entry, the set behind m is unchanged
  abbrev pub rests_if_none : {g : eq.Ghosts K.Denot} {h : hash.Ghosts K.Denot} {b : builder.Ghosts S.Denot T.Denot} {w : hasher.Ghosts T.Denot}
      → MutBor (Contents K.Denot S.Denot) → Option (OccupiedEntry K.Denot S.Denot T.Denot g h b w) → Fml
  rests_if_none m r = RestsIfNone (set_row K S T key build feed) m (λ o. o.set.ghost_name) r (λ n. n ≡ m.now)

  -- if r has no entry, the set behind o has the other keys in their order, and note, mark and waiting buckets stay
  abbrev pub rests_removed : {A B : Type 0} {g : eq.Ghosts K.Denot} {h : hash.Ghosts K.Denot} {b : builder.Ghosts S.Denot T.Denot} {w : hasher.Ghosts T.Denot}
      → OccupiedEntry K.Denot S.Denot T.Denot g h b w → Result (A × OccupiedEntry K.Denot S.Denot T.Denot g h b w) B → Fml
  rests_removed o r = RestsIfErr (set_row K S T key build feed) o.set (λ d. d.1.set.ghost_name) r (λ n. HoldsExactly o.set.now (occupied_front o ++ occupied_back o) n × (notes_of n ≡ notes_of o.set.now) × IsUnique key.eq n × (waiting_of n ≡ waiting_of o.set.now))
