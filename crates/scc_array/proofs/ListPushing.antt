-- A push to the overflow list of a bucket.
use Rattle.std.proofs.Common.{◌≡◌, ℕ, ◌+◌, ◌<◌, ◌≤◌, List, [], ◌∷◌, ◌++◌, length, set, Result, Ok, Err, refl, sym, ap, ◌∙◌, arith}
use Rattle.std.specs.Prelude.{IfOk, IfErr, OnErr, slice_get}
use Rattle.std.specs.Vec.{vec_capacity}
use Rattle.std.specs.declared.vec.Vec.{Vec}
use Rattle.scc_array.proofs.Shelves.{window-within, list-is, room-is, shelf-is, empty-list, seen-list, own-room, opened-view, opened-count}
use Rattle.scc_array.specs.Lists.{MakesLists, Pushes}
use Rattle.scc_array.specs.Shelves.{shelf_of, spilled, list_room, shelves, HasListEach}
use Rattle.scc_array.specs.Windows.{Window, window_of}
use Rattle.scc_array.specs.Shelf.{Shelf, with_overflow}

module _ {E A : Type 0} (ws : List (Window E)) (os ds : List (Vec E A)) (bs : List (Shelf E)) (view : shelves ws os ≡ bs) (kept : HasListEach ws os) (n : ℕ) (count : n ≡ length ws) (opens : MakesLists os n ds)
    (b : ℕ) (within : b < length bs) where
  now : shelves ws ds ≡ bs
  now = opened-view ws os ds bs view kept n count opens

  pub opened-within : b < length ds
  opened-within = let l = opened-count ws os ds bs view kept n count opens in let w = window-within ws os bs view b within in omega arith

  module _ (e : E) (es : List (Vec E A)) where
    pub list-pushed-ok : (r : Result ℕ E) → Pushes ds b e r es → IfOk r (λ p. (p ≡ 32 + length (shelf_of bs b).overflow) × (shelves ws es ≡ set bs b (record (with_overflow (shelf_of bs b) e) { room = (shelf_of (shelves ws es) b).room })))
    list-pushed-ok (Ok p) (u, v, entry_count, is, items, grown, changed) =
        let s : Shelf E → Shelf E = λ s. record { slots = s.slots; tags = s.tags; overflow = s.overflow ++ e ∷ []; room = vec_capacity v } in
        let seen : shelves ws (set ds b v) ≡ set bs b (s (shelf_of bs b)) = seen-list ws ds bs now b within s v (u.items ++ e ∷ []) (vec_capacity v) opened-within items refl
        (ap (λ (l : List E). record { slots = (window_of ws b).slots; tags = (window_of ws b).tags; overflow = l ++ e ∷ []; room = vec_capacity v }) (ap spilled entry_count)) in
        (is ∙ ap (λ l. 32 + length l) (list-is ws ds bs now b within u entry_count), own-room (shelves ws es) bs b (s (shelf_of bs b)) within (ap (shelves ws) changed ∙ seen))
    list-pushed-ok (Err x) h = tt

    pub list-pushed-err : (r : Result ℕ E) → Pushes ds b e r es → IfErr r (λ x. (x ≡ e) × (shelves ws es ≡ set bs b (record (shelf_of bs b) { room = (shelf_of (shelves ws es) b).room })))
    list-pushed-err (Ok p) h = tt
    list-pushed-err (Err x) (same, (u, v, entry_count, items, changed, full)) =
        let s : Shelf E → Shelf E = λ s. record { slots = s.slots; tags = s.tags; overflow = s.overflow; room = vec_capacity v } in
        let seen : shelves ws (set ds b v) ≡ set bs b (s (shelf_of bs b)) = seen-list ws ds bs now b within s v u.items (vec_capacity v) opened-within items refl
        (ap (λ (l : List E). record { slots = (window_of ws b).slots; tags = (window_of ws b).tags; overflow = l; room = vec_capacity v }) (ap spilled entry_count)) in
        (same, own-room (shelves ws es) bs b (s (shelf_of bs b)) within (ap (shelves ws) changed ∙ seen))

    pub list-pushed-refused : (r : Result ℕ E) → Pushes ds b e r es → OnErr r ((shelf_of bs b).room ≤ length (shelf_of bs b).overflow)
    list-pushed-refused (Ok p) h = tt
    list-pushed-refused (Err x) (same, (u, v, entry_count, items, changed, full)) =
        let r : vec_capacity u ≡ (shelf_of bs b).room = room-is ws ds bs now b within u entry_count in
        let l : length u.items ≡ length (shelf_of bs b).overflow = ap length (list-is ws ds bs now b within u entry_count) in
        omega arith

-- if there are no lists, no overflow list has room
pub bare-refused : {E A : Type 0} (ws : List (Window E)) (os : List (Vec E A)) (bs : List (Shelf E)) (view : shelves ws os ≡ bs) (b : ℕ) (within : b < length bs) → length os ≡ 0 → (shelf_of bs b).room ≤ length (shelf_of bs b).overflow
bare-refused ws os bs view b within none =
    let z : list_room (slice_get os b) ≡ 0 = ap (λ l. list_room (slice_get l b)) (empty-list os none) in
    let r : list_room (slice_get os b) ≡ (shelf_of bs b).room = ap (λ (s : Shelf _). s.room) (sym (shelf-is ws os bs view b within)) in
    omega arith

-- adds a third fact to two facts about an error
pub and-third : {X Y : Type 0} (r : Result X Y) (A B : Y → Type 0) (C : Type 0) → C → IfErr r (λ y. A y × B y) → IfErr r (λ y. A y × B y × C)
and-third (Ok x) A B C c h = tt
and-third (Err y) A B C c h = (h.0, h.1, c)
