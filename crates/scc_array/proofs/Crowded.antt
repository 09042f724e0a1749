-- The flags of the buckets that may have entries in their overflow lists.
use Rattle.std.proofs.Common.{◌≡◌, ℕ, ◌+◌, ◌/◌, ◌<◌, Bool, true, false, List, [], length, set, get_or, Result, Ok, Err, refl, sym, ap, ◌∙◌, subst, inl, inr, arith, length-set}
use Rattle.std.specs.declared.vec.Vec.{Vec}
use Rattle.scc_array.proofs.Gets.{get-set_other}
use Rattle.scc_array.proofs.Shelves.{bare-spilled, shelf-is, overflow-is, opened-count}
use Rattle.scc_array.proofs.Windows.{same_or_not}
use Rattle.scc_array.specs.Lists.{MakesLists, Pushes, ReservesList, were_there, were_made}
use Rattle.scc_array.specs.Shelves.{shelf_of, spilled, list_room, shelves, HasListEach, IsFlagged}
use Rattle.scc_array.specs.Windows.{Window}
use Rattle.scc_array.specs.Shelf.{Shelf}

-- a change of one list keeps the number of lists: none, or one for each bucket
pub array-set : {E A : Type 0} (ws : List (Window E)) (os : List (Vec E A)) (b : ℕ) (v : Vec E A) → HasListEach ws os → HasListEach ws (set os b v)
array-set {E} {A} ws os b v kept = record {
  lists = elim kept.lists [
    | inl e ↦ inl (ap (λ (l : List (Vec E A)). set l b v) e)
    | inr e ↦ inr (length-set os b v ∙ e)
  ];
}

by_flag : {X : Type 0} (f : Bool) → (f ≡ true → X) → (f ≡ false → X) → X
by_flag true p q = p refl
by_flag false p q = q refl

module _ {E A : Type 0} (ws : List (Window E)) (os : List (Vec E A)) (fs : List Bool) (kept : IsFlagged ws os fs) where
  -- the flags stay right if the list of a bucket whose flag is up changes
  pub flagged-list : (b : ℕ) (v : Vec E A) → get_or fs (b / 16) false ≡ true → IsFlagged ws (set os b v) fs
  flagged-list b v up = record {
    flags = kept.flags;
    told = λ i down. elim (same_or_not i b) [
      | inl e ↦ absurd (let z : true ≡ false = sym up ∙ ap (λ j. get_or fs (j / 16) false) (sym e) ∙ down in cc)
      | inr e ↦ let k = kept.told i down in let g = get-set_other os b i v e in (ap spilled g ∙ k.0, ap list_room g ∙ k.1)
    ];
  }

  -- the flags stay right if more flags are up
  pub flagged-more : (gs : List Bool) → length gs ≡ length ws / 16 + 1 → ((i : ℕ) → get_or gs i false ≡ false → get_or fs i false ≡ false) → IsFlagged ws os gs
  flagged-more gs n more = record { flags = inr n; told = λ i down. kept.told i (more (i / 16) down) }

  -- the flags stay right if lists are made
  pub flagged-opened : (ds : List (Vec E A)) (n : ℕ) → MakesLists os n ds → IsFlagged ws ds fs
  flagged-opened ds n (were_there h e) = subst (λ (l : List (Vec E A)). IsFlagged ws l fs) (sym e) kept
  flagged-opened ds n (were_made e l bare) = record { flags = kept.flags; told = λ i down. bare-spilled ws os ds (shelves ws os) refl (record { lists = inl e }) (length ws) refl bare i }

  module _ (bs : List (Shelf E)) (view : shelves ws os ≡ bs) (b : ℕ) (within : b < length bs) where
    -- a bucket whose flag is down has no entry in its overflow list
    pub uncrowded : get_or fs (b / 16) false ≡ false → (shelf_of bs b).overflow ≡ []
    uncrowded down = sym (overflow-is ws os bs view b within) ∙ (kept.told b down).0

    -- a bucket whose flag is down has no room in its overflow list
    pub no-room : get_or fs (b / 16) false ≡ false → (shelf_of bs b).room ≡ 0
    no-room down = ap (λ (s : Shelf E). s.room) (shelf-is ws os bs view b within) ∙ (kept.told b down).1

    -- if a bucket has room in its overflow list, its flag is up
    pub room-flag : 0 < (shelf_of bs b).room → get_or fs (b / 16) false ≡ true
    room-flag some = by_flag (get_or fs (b / 16) false) (λ q. q) (λ q. absurd (let z = no-room q in omega arith))

-- `HasListEach` and `IsFlagged` stay true if an entry is pushed to a list, or handed back
pub pushed-both : {E A : Type 0} (ws : List (Window E)) (os : List (Vec E A)) (fs : List Bool) (b : ℕ) (e : E) (r : Result ℕ E) (ds : List (Vec E A)) → HasListEach ws os → IsFlagged ws os fs → get_or fs (b / 16) false ≡ true → Pushes os b e r ds
    → HasListEach ws ds × IsFlagged ws ds fs
pushed-both {E} {A} ws os fs b e (Ok p) ds kept told up (u, v, entry_count, is, items, grown, changed) = subst (λ (l : List (Vec E A)). HasListEach ws l × IsFlagged ws l fs) (sym changed) (array-set ws os b v kept, flagged-list ws os fs told b v up)
pushed-both {E} {A} ws os fs b e (Err x) ds kept told up (same, (u, v, entry_count, items, changed, full)) = subst (λ (l : List (Vec E A)). HasListEach ws l × IsFlagged ws l fs) (sym changed) (array-set ws os b v kept, flagged-list ws os fs told b v up)

-- `HasListEach` and `IsFlagged` stay true if room is reserved in a list, or refused
pub reserved-both : {E A X : Type 0} (ws : List (Window E)) (os : List (Vec E A)) (fs : List Bool) (b n : ℕ) (r : Result (Unit {0}) X) (ds : List (Vec E A)) → HasListEach ws os → IsFlagged ws os fs → get_or fs (b / 16) false ≡ true → ReservesList os b n r ds
    → HasListEach ws ds × IsFlagged ws ds fs
reserved-both {E} {A} ws os fs b n (Ok p) ds kept told up (u, v, entry_count, items, grown, room, changed) = subst (λ (l : List (Vec E A)). HasListEach ws l × IsFlagged ws l fs) (sym changed) (array-set ws os b v kept, flagged-list ws os fs told b v up)
reserved-both {E} {A} ws os fs b n (Err x) ds kept told up (u, v, entry_count, items, grown, changed) = subst (λ (l : List (Vec E A)). HasListEach ws l × IsFlagged ws l fs) (sym changed) (array-set ws os b v kept, flagged-list ws os fs told b v up)

-- `HasListEach` holds if lists were made, or exist already
pub opened-array : {E A : Type 0} (ws : List (Window E)) (os ds : List (Vec E A)) (n : ℕ) → HasListEach ws os → n ≡ length ws → MakesLists os n ds → HasListEach ws ds
opened-array ws os ds n kept count opens = record { lists = inr (opened-count ws os ds (shelves ws os) refl kept n count opens) }
