-- What a closure must take and keep that a call of an index under a rule makes on a value, and what the rule decides of the
-- reply.
use Rattle.std.specs.Prelude.{Bool, true, List, Option, IfSome, ⊤}
use Rattle.std.specs.Borrow.{Bor}
use Rattle.std.specs.Fn.{Once, FnOnceReturnsAt, FnOnceTakesAt}
use Rattle.std.specs.Iterator.{YieldsFirstBy}
use Rattle.std.specs.declared.cmp.PartialEq as eq
use Rattle.std.specs.declared.hash.Hash as hash
use Rattle.std.specs.declared.hash.Hasher as hasher
use Rattle.std.specs.declared.hash.BuildHasher as builder
use Rattle.scc_common.specs.Contents.{Contents}
use Rattle.scc_common.specs.declared.guard.Guard as guard
use Rattle.scc_owned.specs.Held.{Occupied, Vacant, occupied_pair}
use Rattle.scc_owned.specs.Lends.{pair_keys}
use Rattle.scc_owned.specs.declared.held.HeldEntry.{HeldEntry}

module _ {F K V : Type 0} (holds : K → V → Type 0) (g : Once F (Bor V × Unit {0}) Bool) (f : F) (k : K) where
  -- f may be called on a value that may stand under k
  abbrev pub IsTestedOn : Type 0
  IsTestedOn = (v : V) → holds k v → FnOnceTakesAt g f v

  -- f may return true on a value that may stand under k
  abbrev pub PassesKept : Type 0
  PassesKept = (v : V) × holds k v × FnOnceReturnsAt g f v true

-- the first of the pairs comes next, by an item whose pair keeps the rule; or nothing if no pair is left
abbrev pub YieldsKept : {K V A : Type 0} → (K → V → Type 0) → (A → K × V) → List (K × V) → Option A → List (K × V) → Type 0
YieldsKept holds pair s r t = YieldsFirstBy pair (λ es. es) s r t × IfSome r (λ a. holds (pair a).0 (pair a).1)

module _ {G N K V S T : Type 0} {d : guard.Ghosts G (Contents (K × V) S)} {b : builder.Ghosts S T} {w : hasher.Ghosts T} {g : eq.Ghosts K} {h : hash.Ghosts K}
    {F : Type 0} (holds : K → V → Type 0) (f : Once F (Bor V × Unit {0}) V) (x : F) where
  -- f may be called on the value, which keeps the rule
  abbrev pub TakesEntry : HeldEntry G N (K × V) S K T d pair_keys g b w h → Type 0
  TakesEntry (Occupied o) = holds (occupied_pair o).0 (occupied_pair o).1 → FnOnceTakesAt f x (occupied_pair o).1
  TakesEntry (Vacant e) = ⊤

  -- what f returns keeps the rule under the entry's key
  abbrev pub KeepsEntry : HeldEntry G N (K × V) S K T d pair_keys g b w h → Type 0
  KeepsEntry (Occupied o) = (v : V) → holds (occupied_pair o).0 (occupied_pair o).1 → FnOnceReturnsAt f x (occupied_pair o).1 v → holds (occupied_pair o).0 v
  KeepsEntry (Vacant e) = ⊤
