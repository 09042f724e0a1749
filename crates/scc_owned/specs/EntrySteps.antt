-- Where an occupied entry stands in its list, and which entry stands next.
use Rattle.std.specs.Prelude.{◌≡◌, ◌++◌, [], Bool, Option, Result, IfOk, IfErr}
use Rattle.std.specs.Borrow.{Fml, RattleType, MutBor, RestsIfErr, RestsIfNone}
use Rattle.std.specs.HashMap.Lent.{HashMembers}
use Rattle.std.specs.declared.cmp.PartialEq as eq
use Rattle.std.specs.declared.hash.Hash as hash
use Rattle.std.specs.declared.hash.Hasher as hasher
use Rattle.std.specs.declared.hash.BuildHasher as builder
use Rattle.scc_common.specs.Contents.{Contents, notes_of, waiting_of, IsUniqueBy}
use Rattle.scc_table.specs.Placed.{SplitsAt, IsNextAt, IsNextPastRemovedAt}
use Rattle.scc_common.specs.Steps.{HoldsExactly}
use Rattle.scc_common.specs.declared.entry.Keyed as keyed
use Rattle.scc_common.specs.declared.guard.Guard as guard
use Rattle.scc_owned.specs.Held.{occupied_contents, occupied_pair, occupied_front, occupied_back, Borrowed}
use Rattle.scc_owned.specs.Lends.{owned_row}
use Rattle.scc_owned.specs.declared.held.HeldOccupied.{HeldOccupied}

module _ {G N E S K T : Type 0} {d : guard.Ghosts G (Contents E S)} {y : keyed.Ghosts E K} {b : builder.Ghosts S T} {w : hasher.Ghosts T} {g : eq.Ghosts K} {h : hash.Ghosts K} where
  -- the container is c, and its list has the pairs before o, the pair of o, and the pairs after it
  pub record StandsIn (c : Contents E S) (o : HeldOccupied G N E S K T d y g b w h) : Type 0 where
    pub contents : d.inner o.guard ≡ c
    pub at : SplitsAt (d.inner o.guard) o.place o.within

  -- p stands next after o in the list, which is unchanged
  pub record IsNext (o p : HeldOccupied G N E S K T d y g b w h) : Type 0 where
    pub same_guard : p.guard ≡ d.with_inner o.guard (d.inner p.guard)
    pub at : IsNextAt (d.inner o.guard) o.place o.within (d.inner p.guard) p.place p.within

  -- the pair of o is removed, the others stay in their order, and p stands at the pair that stood next after it
  pub record IsNextPastRemoved (o p : HeldOccupied G N E S K T d y g b w h) : Type 0 where
    pub same_guard : p.guard ≡ d.with_inner o.guard (d.inner p.guard)
    pub at : IsNextPastRemovedAt (d.inner o.guard) o.place (d.inner p.guard) p.place p.within

  -- the contract of `remove_and_sync` of the entry o of a borrowed map: it returns `result`
  pub record RemovesWithNext (same : K → K → Bool) (o : HeldOccupied G N E S K T d y g b w h) (result : Result (E × HeldOccupied G N E S K T d y g b w h) E) : Type 0 where
    -- the result has the pair of the entry
    pub pair : IfOk result (λ r. r.0 ≡ occupied_pair o)
    -- the result has the entry that stood next after the removed pair
    pub next : IfOk result (λ r. IsNextPastRemoved o r.1)
    -- the same buckets wait as before
    pub waiting : IfOk result (λ r. waiting_of (occupied_contents r.1) ≡ waiting_of (occupied_contents o))
    -- no two keys are equal
    pub unique : IfOk result (λ r. IsUniqueBy same y.key_of (occupied_contents r.1))
    -- if no entry stood next, the result is the pair alone
    pub last : IfErr result (λ p. (p ≡ occupied_pair o) × (occupied_back o ≡ []))

  -- the container behind o became n: it has the other pairs in their order, and note, mark and waiting buckets stay
  abbrev pub RestsWithout : (K → K → Bool) → HeldOccupied G N E S K T d y g b w h → Contents E S → Type 0
  RestsWithout same o n = HoldsExactly (d.inner o.guard) (occupied_front o ++ occupied_back o) n × (notes_of n ≡ notes_of (d.inner o.guard)) × IsUniqueBy same y.key_of n × (waiting_of n ≡ waiting_of (d.inner o.guard))

module _ (E S K T : RattleType) (y : keyed.Ghosts E.Denot K.Denot) (key : HashMembers K.Denot) (build : builder.Ghosts S.Denot T.Denot) (feed : hasher.Ghosts T.Denot) {N : Type 0} {d : guard.Ghosts (MutBor (Contents E.Denot S.Denot)) (Contents E.Denot S.Denot)} {b : builder.Ghosts S.Denot T.Denot} {w : hasher.Ghosts T.Denot} {g : eq.Ghosts K.Denot} {h : hash.Ghosts K.Denot} where
  -- if r has no entry, the map behind o has the other pairs
  abbrev pub rests_removed : {A B : Type 0} → Borrowed E S K T y key build feed N d b w g h → Result (A × Borrowed E S K T y key build feed N d b w g h) B → Fml
  rests_removed o r = RestsIfErr (owned_row E S K T y key build feed) o.guard (λ p. p.1.guard.ghost_name) r (RestsWithout key.eq o)

  -- if r has no entry, the index behind o has the other pairs
  abbrev pub rests_removed_alone : Borrowed E S K T y key build feed N d b w g h → Option (Borrowed E S K T y key build feed N d b w g h) → Fml
  rests_removed_alone o r = RestsIfNone (owned_row E S K T y key build feed) o.guard (λ p. p.guard.ghost_name) r (RestsWithout key.eq o)
