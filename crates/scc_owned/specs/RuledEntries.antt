-- What a closure must take and keep that an entry of a map under a rule calls on its value.
use Rattle.std.specs.Prelude.{⊤}
use Rattle.std.specs.Borrow.{MutBor}
use Rattle.std.specs.Fn.{Once, FnOnceTakesAtMut, FnOnceReturnsAtMut}
use Rattle.std.specs.declared.cmp.PartialEq as eq
use Rattle.std.specs.declared.hash.Hash as hash
use Rattle.std.specs.declared.hash.Hasher as hasher
use Rattle.std.specs.declared.hash.BuildHasher as builder
use Rattle.scc_common.specs.Contents.{Contents}
use Rattle.scc_common.specs.declared.guard.Guard as guard
use Rattle.scc_owned.specs.Held.{Occupied, Vacant, occupied_pair}
use Rattle.scc_owned.specs.Lends.{pair_keys}
use Rattle.scc_owned.specs.declared.held.HeldEntry.{HeldEntry}

module _ {G N K V S T : Type 0} {d : guard.Ghosts G (Contents (K × V) S)} {b : builder.Ghosts S T} {w : hasher.Ghosts T} {g : eq.Ghosts K} {h : hash.Ghosts K}
    {F : Type 0} (holds : K → V → Type 0) (f : Once F (MutBor V × Unit {0}) (Unit {0} × (MutBor V × Unit {0}))) (x : F) where
  -- f may be called on the value, which keeps the rule
  abbrev pub TakesEntry : HeldEntry G N (K × V) S K T d pair_keys g b w h → Type 0
  TakesEntry (Occupied o) = holds (occupied_pair o).0 (occupied_pair o).1 → FnOnceTakesAtMut f x (occupied_pair o).1
  TakesEntry (Vacant e) = ⊤

  -- what f leaves keeps the rule
  abbrev pub KeepsEntry : HeldEntry G N (K × V) S K T d pair_keys g b w h → Type 0
  KeepsEntry (Occupied o) = (v : V) → holds (occupied_pair o).0 (occupied_pair o).1 → FnOnceReturnsAtMut f x (occupied_pair o).1 tt v → holds (occupied_pair o).0 v
  KeepsEntry (Vacant e) = ⊤
