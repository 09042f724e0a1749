-- Room in the overflow list of a bucket.
use Rattle.std.proofs.Common.{◌≡◌, ℕ, zero, suc, ◌+◌, ◌<◌, ◌≤◌, List, ◌∷◌, ◌++◌, [], length, set, nat_lt, Result, Ok, Err, refl, sym, ap, ◌∙◌, inl, inr, arith}
use Rattle.std.proofs.lemmas.List.{get_or-set_same}
use Rattle.std.specs.Prelude.{OnOk, slice_get, Some}
use Rattle.std.specs.Vec.{vec_capacity}
use Rattle.std.specs.declared.vec.Vec.{Vec}
use Rattle.scc_array.proofs.Shelves.{list-is, list-within, room-is, seen-list, shelf-is, own-room}
use Rattle.scc_array.specs.Lists.{Pushes, ReservesList}
use Rattle.scc_array.specs.Shelves.{shelf_of, spilled, list_room, shelves, HasListEach}
use Rattle.scc_array.specs.Windows.{Window, window_of}
use Rattle.scc_array.proofs.Joined.{true-or-false}
use Rattle.scc_array.specs.Shelf.{Shelf, empty_shelf, with_entry}

-- the shelf at b is the one that was set there
pub shelf-put : {E : Type 0} (bs ds : List (Shelf E)) (b : ℕ) (s : Shelf E) → b < length bs → ds ≡ set bs b s → shelf_of ds b ≡ s
shelf-put bs ds b s h e = ap (λ v. shelf_of v b) e ∙ get_or-set_same bs b s empty_shelf h

module _ {E A : Type 0} (ws : List (Window E)) (ds : List (Vec E A)) (bs : List (Shelf E)) (view : shelves ws ds ≡ bs) (b : ℕ) (within : b < length bs) (there : b < length ds) where
  module _ (u v : Vec E A) (entry_count : slice_get ds b ≡ Some u) (items : v.items ≡ u.items) (es : List (Vec E A)) (changed : es ≡ set ds b v) where
    grown : shelves ws es ≡ set bs b (record (shelf_of bs b) { room = vec_capacity v })
    grown =
        ap (shelves ws) changed
        ∙ seen-list ws ds bs view b within (λ s. record { slots = s.slots; tags = s.tags; overflow = s.overflow; room = vec_capacity v }) v u.items (vec_capacity v) there items refl
        (ap (λ (l : List E). record { slots = (window_of ws b).slots; tags = (window_of ws b).tags; overflow = l; room = vec_capacity v }) (ap spilled entry_count))

    grown-value : shelves ws es ≡ set bs b (record (shelf_of bs b) { room = (shelf_of (shelves ws es) b).room })
    grown-value = own-room (shelves ws es) bs b (record (shelf_of bs b) { room = vec_capacity v }) within grown

    grown-room : (shelf_of (shelves ws es) b).room ≡ vec_capacity v
    grown-room = ap (λ (s : Shelf E). s.room) (shelf-put bs (shelves ws es) b (record (shelf_of bs b) { room = vec_capacity v }) within grown)

    grown-list : length (shelf_of (shelves ws es) b).overflow ≡ length u.items
    grown-list = ap (λ (s : Shelf E). length s.overflow) (shelf-put bs (shelves ws es) b (record (shelf_of bs b) { room = vec_capacity v }) within grown) ∙ ap length (sym (list-is ws ds bs view b within u entry_count))

  module _ {X : Type 0} (n : ℕ) (es : List (Vec E A)) where
    pub reserved-value : (r : Result (Unit {0}) X) → ReservesList ds b n r es → shelves ws es ≡ set bs b (record (shelf_of bs b) { room = (shelf_of (shelves ws es) b).room })
    reserved-value (Ok _) (u, v, entry_count, items, more, room, changed) = grown-value u v entry_count items es changed
    reserved-value (Err _) (u, v, entry_count, items, more, changed) = grown-value u v entry_count items es changed

    pub reserved-more : (r : Result (Unit {0}) X) → ReservesList ds b n r es → (shelf_of bs b).room ≤ (shelf_of (shelves ws es) b).room
    reserved-more (Ok _) (u, v, entry_count, items, more, room, changed) = let r = grown-room u v entry_count items es changed in let o = room-is ws ds bs view b within u entry_count in omega arith
    reserved-more (Err _) (u, v, entry_count, items, more, changed) = let r = grown-room u v entry_count items es changed in let o = room-is ws ds bs view b within u entry_count in omega arith

    pub reserved-room : (r : Result (Unit {0}) X) → ReservesList ds b n r es → OnOk r (length (shelf_of (shelves ws es) b).overflow + n ≤ (shelf_of (shelves ws es) b).room)
    reserved-room (Ok _) (u, v, entry_count, items, more, room, changed) = let r = grown-room u v entry_count items es changed in let l = grown-list u v entry_count items es changed in omega arith
    reserved-room (Err _) h = tt

  -- a push doesn't lessen the room of the overflow list
  pub pushed-more : (e : E) (es : List (Vec E A)) (p : ℕ) → Pushes ds b e (Ok p) es → (shelf_of bs b).room ≤ (shelf_of (shelves ws es) b).room
  pushed-more e es p (u, v, entry_count, is, items, more, changed) =
      let seen : shelves ws es ≡ set bs b (record { slots = (shelf_of bs b).slots; tags = (shelf_of bs b).tags; overflow = (shelf_of bs b).overflow ++ e ∷ []; room = vec_capacity v }) =
      ap (shelves ws) changed
      ∙ seen-list ws ds bs view b within (λ s. record { slots = s.slots; tags = s.tags; overflow = s.overflow ++ e ∷ []; room = vec_capacity v }) v (u.items ++ e ∷ []) (vec_capacity v) there items refl
      (ap (λ (l : List E). record { slots = (window_of ws b).slots; tags = (window_of ws b).tags; overflow = l ++ e ∷ []; room = vec_capacity v }) (ap spilled entry_count)) in
      let r : (shelf_of (shelves ws es) b).room ≡ vec_capacity v = ap (λ (s : Shelf E). s.room) (shelf-put bs (shelves ws es) b _ within seen) in
      let o = room-is ws ds bs view b within u entry_count in omega arith

  -- an overflow list with room doesn't refuse a push
  pub has-room : (e : E) (es : List (Vec E A)) (x : E) → Pushes ds b e (Err x) es → length (shelf_of bs b).overflow < (shelf_of bs b).room → ⊥
  has-room e es x (same, (u, v, entry_count, items, changed, full)) room =
      let o = room-is ws ds bs view b within u entry_count in let l = ap length (list-is ws ds bs view b within u entry_count) in absurd (omega arith)

-- if an overflow list has room, there are lists
pub list-room : {E A : Type 0} (ws : List (Window E)) (os : List (Vec E A)) (bs : List (Shelf E)) (view : shelves ws os ≡ bs) (b : ℕ) (within : b < length bs) → HasListEach ws os → length (shelf_of bs b).overflow < (shelf_of bs b).room → b < length os
list-room ws os bs view b within kept room =
    list-within ws os bs view b within kept
    (λ e. let z : list_room (slice_get os b) ≡ 0 = ap (λ l. list_room (slice_get l b)) e in
    let r : list_room (slice_get os b) ≡ (shelf_of bs b).room = ap (λ (s : Shelf _). s.room) (sym (shelf-is ws os bs view b within)) in
    omega arith)

with-room : {E : Type 0} (s : Shelf E) (r q : ℕ) (e : E) (t : ℕ) → ◌≡◌ {A = Shelf E} (record (with_entry (record s { room = r }) e t) { room = q }) (record (with_entry s e t) { room = q })
with-room s r q e t = elim (true-or-false (nat_lt (length s.slots) 32)) [ inl h ↦ rw h refl | inr h ↦ rw h refl ]

set-twice : {X : Type 0} (xs : List X) (i : ℕ) (x y : X) → set (set xs i x) i y ≡ set xs i y
set-twice [] zero x y = refl
set-twice [] (suc i) x y = refl
set-twice (z ∷ xs) zero x y = refl
set-twice (z ∷ xs) (suc i) x y = ap (λ w. z ∷ w) (set-twice xs i x y)

-- room that is reserved, and an entry that is put in afterwards, are one change of the bucket
pub put-after : {E : Type 0} (bs ms ds : List (Shelf E)) (b : ℕ) (within : b < length bs) (r : ℕ) → ms ≡ set bs b (record (shelf_of bs b) { room = r }) → (e f : E) → e ≡ f → (t q : ℕ)
    → ds ≡ set ms b (record (with_entry (shelf_of ms b) e t) { room = q }) → ds ≡ set bs b (record (with_entry (shelf_of bs b) f t) { room = q })
put-after {E} bs ms ds b within r made e f same t q put =
    let there = shelf-put bs ms b (record (shelf_of bs b) { room = r }) within made in
    put ∙ ap (λ (s : Shelf E). set ms b (record (with_entry s e t) { room = q })) there
    ∙ ap (λ (s : Shelf E). set ms b s) (with-room (shelf_of bs b) r q e t)
    ∙ ap (λ (v : List (Shelf E)). set v b (record (with_entry (shelf_of bs b) e t) { room = q })) made
    ∙ set-twice bs b (record (shelf_of bs b) { room = r }) (record (with_entry (shelf_of bs b) e t) { room = q })
    ∙ ap (λ (x : E). set bs b (record (with_entry (shelf_of bs b) x t) { room = q })) same
