-- The overflow lists, which are made with the first entry that needs one.
use Rattle.std.specs.Prelude.{◌≡◌, ℕ, ◌+◌, ◌/◌, ◌<◌, ◌≤◌, ◌⊎◌, Bool, false, true, List, [], ◌∷◌, ◌++◌, length, slice_index_or, slice_get, slice_set, Some, Result, Ok, Err}
use Rattle.std.specs.Result.{OnOk, OnErr}
use Rattle.std.specs.Vec.{vec_capacity}
use Rattle.std.specs.declared.vec.Vec.{Vec}

module _ {E A : Type 0} where
  -- each list is empty and has room for nothing
  pub record AreBare (os : List (Vec E A)) : Type 0 where
    pub bare : (i : ℕ) (v : Vec E A) → i < length os → v ≡ slice_index_or os i v → (v.items ≡ []) × (vec_capacity v ≡ 0)

  -- the lists os if there were any, or else n empty lists
  pub data MakesLists (os : List (Vec E A)) (n : ℕ) (ds : List (Vec E A)) : Type 0 where
    were_there : 0 < length os → ds ≡ os → MakesLists os n ds
    were_made : os ≡ [] → length ds ≡ n → AreBare ds → MakesLists os n ds

  -- on success list b has e at its end, and p is the slot of e, which counts on after 32 slots; otherwise e is handed
  -- back, and list b is as it was and had no room
  abbrev pub Pushes : List (Vec E A) → ℕ → E → Result ℕ E → List (Vec E A) → Type 0
  Pushes os b e (Ok p) ds = (u : Vec E A) × (v : Vec E A) × (slice_get os b ≡ Some u) × (p ≡ 32 + length u.items) × (v.items ≡ u.items ++ e ∷ []) × (vec_capacity u ≤ vec_capacity v) × (ds ≡ slice_set os b v)
  Pushes os b e (Err x) ds = (x ≡ e) × ((u : Vec E A) × (v : Vec E A) × (slice_get os b ≡ Some u) × (v.items ≡ u.items) × (ds ≡ slice_set os b v) × (vec_capacity u ≤ length u.items))

  -- no list has an entry
  pub record AreSpent (os : List (Vec E A)) : Type 0 where
    pub spent : (i : ℕ) (v : Vec E A) → i < length os → v ≡ slice_index_or os i v → v.items ≡ []

  -- list b has the entries it had and no less room; on success, it has room for n more entries
  abbrev pub ReservesList : {X : Type 0} → List (Vec E A) → ℕ → ℕ → Result (Unit {0}) X → List (Vec E A) → Type 0
  ReservesList os b n (Ok _) ds = (u : Vec E A) × (v : Vec E A) × (slice_get os b ≡ Some u) × (v.items ≡ u.items) × (vec_capacity u ≤ vec_capacity v) × (length u.items + n ≤ vec_capacity v) × (ds ≡ slice_set os b v)
  ReservesList os b n (Err _) ds = (u : Vec E A) × (v : Vec E A) × (slice_get os b ≡ Some u) × (v.items ≡ u.items) × (vec_capacity u ≤ vec_capacity v) × (ds ≡ slice_set os b v)

-- flag i is raised; if there are no flags, first those of n buckets are made, one for 16 buckets in a row
pub record RaisesFlag {X : Type 0} (olds : List Bool) (n i : ℕ) (result : Result (Unit {0}) X) (news : List Bool) : Type 0 where
  -- flag i is up
  pub up : OnOk result (slice_index_or news i false ≡ true)
  -- there are as many flags as n buckets need
  pub count : OnOk result (length news ≡ n / 16 + 1)
  -- each flag that is down was down
  pub kept : OnOk result ((j : ℕ) → slice_index_or news j false ≡ false → slice_index_or olds j false ≡ false)
  -- each flag that is up is flag i, or was up
  pub only : OnOk result ((j : ℕ) → slice_index_or news j false ≡ true → (j ≡ i) ⊎ (slice_index_or olds j false ≡ true))
  -- if memory is refused, the flags stay
  pub err : OnErr result (news ≡ olds)
  -- memory is refused only if there were no flags
  pub none : OnErr result (olds ≡ [])
