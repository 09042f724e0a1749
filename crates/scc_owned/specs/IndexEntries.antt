-- The words of the contracts of an entry of an index.
use Rattle.std.specs.Prelude.{◌≡◌, Bool, true, Some, ⊤}
use Rattle.std.specs.Borrow.{Bor}
use Rattle.std.specs.Fn.{Once, FnOnceTakesAt, FnOnceReturnsAt}
use Rattle.std.specs.declared.cmp.PartialEq as eq
use Rattle.std.specs.declared.hash.Hash as hash
use Rattle.std.specs.declared.hash.Hasher as hasher
use Rattle.std.specs.declared.hash.BuildHasher as builder
use Rattle.scc_common.specs.Contents.{Contents, entries}
use Rattle.scc_common.specs.Pairs.{FindsInstead}
use Rattle.scc_common.specs.declared.guard.Guard as guard
use Rattle.scc_table.specs.Placed.{IsWrittenAt}
use Rattle.scc_owned.specs.Held.{Occupied, Vacant, occupied_pair}
use Rattle.scc_owned.specs.Lends.{pair_keys}
use Rattle.scc_owned.specs.declared.held.HeldOccupied.{HeldOccupied}
use Rattle.scc_owned.specs.declared.held.HeldEntry.{HeldEntry}

module _ {G N K V S T : Type 0} {d : guard.Ghosts G (Contents (K × V) S)} {b : builder.Ghosts S T} {w : hasher.Ghosts T} {g : eq.Ghosts K} {h : hash.Ghosts K} where
  -- p is the entry o after a version of v and a clone of the key, by C, took the place of the old version
  pub record IsUpdated (C : K → K → Type 0) (same : K → K → Bool) (o : HeldOccupied G N (K × V) S K T d pair_keys g b w h) (v : V) (p : HeldOccupied G N (K × V) S K T d pair_keys g b w h) : Type 0 where
    pub same_guard : p.guard ≡ d.with_inner o.guard (d.inner p.guard)
    pub rest : p.rest ≡ o.rest
    pub key : K
    pub cloned : C (occupied_pair o).0 key
    pub equal : same key (occupied_pair o).0 ≡ true
    pub at : IsWrittenAt (d.inner o.guard) o.place (key, v) (d.inner p.guard) p.place p.within
    pub finds : FindsInstead same (entries (d.inner o.guard)) (occupied_pair o).0 (Some (key, v)) (entries (d.inner p.guard))

  module _ {F : Type 0} (f : Once F (Bor V × Unit {0}) V) (x : F) where
    -- f may be called on the value
    abbrev pub TakesEntry : HeldEntry G N (K × V) S K T d pair_keys g b w h → Type 0
    TakesEntry (Occupied o) = FnOnceTakesAt f x (occupied_pair o).1
    TakesEntry (Vacant e) = ⊤

    -- the entry after the result of the closure on its value was published
    abbrev pub Modifies : (K → K → Type 0) → (K → K → Bool) → HeldEntry G N (K × V) S K T d pair_keys g b w h → HeldEntry G N (K × V) S K T d pair_keys g b w h → Type 0
    Modifies C same (Occupied o) (Occupied p) = (v : V) × FnOnceReturnsAt f x (occupied_pair o).1 v × IsUpdated C same o v p
    Modifies C same (Vacant e) (Vacant p) = p ≡ e
    Modifies C same e p = ⊥

    -- the entry comes back as it was, with the result of the closure on its value
    abbrev pub RefusesModify : HeldEntry G N (K × V) S K T d pair_keys g b w h → HeldEntry G N (K × V) S K T d pair_keys g b w h × V → Type 0
    RefusesModify (Occupied o) r = (r.0 ≡ Occupied o) × FnOnceReturnsAt f x (occupied_pair o).1 r.1
    RefusesModify (Vacant e) r = ⊥
