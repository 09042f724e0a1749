-- An array, bucket by bucket.
use Rattle.std.proofs.Common.{◌≡◌, ◌≢◌, ℕ, zero, suc, ◌<◌, List, [], ◌∷◌, length, set, get_or, Option, Some, None, replicate, refl, sym, ap, ◌∙◌, subst, inl, inr, arith, length-set}
use Rattle.std.proofs.lemmas.List.{ext_get_or, get_or-set_same, get_or-set_other, get_or-replicate, length-replicate}
use Rattle.std.proofs.lemmas.List.FromFn.{get_or-map-range_with_len, length-map-range_with_len}
use Rattle.std.specs.List.{slice_get}
use Rattle.std.specs.Vec.{vec_capacity}
use Rattle.std.specs.declared.vec.Vec.{Vec}
use native.Mathlib.Decide.{dec_lt}
use Rattle.scc_array.proofs.Gets.{get-set, get-set_other, get-past, get-some, get-is}
use Rattle.scc_array.specs.Lists.{AreBare, MakesLists, were_there, were_made}
use Rattle.scc_array.proofs.Windows.{same_or_not}
use Rattle.scc_array.specs.Shelves.{shelf_of, spilled, list_room, shelf_at, shelves, HasListEach}
use Rattle.scc_array.specs.Windows.{Window, empty_window, window_of}
use Rattle.scc_array.specs.Shelf.{Shelf, empty_shelf}

module _ {E A : Type 0} (ws : List (Window E)) (os : List (Vec E A)) where
  pub length-shelves : length (shelves ws os) ≡ length ws
  length-shelves = length-map-range_with_len (shelf_at ws os) 0 (length ws)

  pub shelf-there : (i : ℕ) → i < length ws → shelf_of (shelves ws os) i ≡ shelf_at ws os i
  shelf-there i h = get_or-map-range_with_len (shelf_at ws os) 0 (length ws) i i empty_shelf h (omega arith)

  pub shelves-are : (bs : List (Shelf E)) → length bs ≡ length ws → ((i : ℕ) → i < length ws → shelf_at ws os i ≡ shelf_of bs i) → shelves ws os ≡ bs
  shelves-are bs n each = ext_get_or empty_shelf (shelves ws os) bs (length-shelves ∙ sym n) (λ i h. let l : i < length ws = let m = length-shelves in omega arith in shelf-there i l ∙ each i l)

module _ {E A : Type 0} (ws : List (Window E)) (os : List (Vec E A)) (b : ℕ) (within : b < length ws) where
  -- a change of one bucket's slots changes one shelf
  pub shelves-window : (w : Window E) → shelves (set ws b w) os ≡ set (shelves ws os) b (record { slots = w.slots; tags = w.tags; overflow = spilled (slice_get os b); room = list_room (slice_get os b) })
  shelves-window w =
      let s : Shelf E = record { slots = w.slots; tags = w.tags; overflow = spilled (slice_get os b); room = list_room (slice_get os b) } in
      let n = length-set ws b w in
      shelves-are (set ws b w) os (set (shelves ws os) b s) (length-set (shelves ws os) b s ∙ length-shelves ws os ∙ sym n)
      (λ i h. elim (same_or_not i b) [
        | inl e ↦ subst (λ k. shelf_at (set ws b w) os k ≡ shelf_of (set (shelves ws os) b s) k) (sym e)
            (ap (λ (v : Window E). record { slots = v.slots; tags = v.tags; overflow = spilled (slice_get os b); room = list_room (slice_get os b) }) (get_or-set_same ws b w empty_window within)
            ∙ sym (get_or-set_same (shelves ws os) b s empty_shelf (let m = length-shelves ws os in omega arith)))
        | inr e ↦ ap (λ (v : Window E). record { slots = v.slots; tags = v.tags; overflow = spilled (slice_get os i); room = list_room (slice_get os i) }) (get_or-set_other ws b i w empty_window e)
            ∙ sym (shelf-there ws os i (omega arith)) ∙ sym (get_or-set_other (shelves ws os) b i s empty_shelf e)
      ])

  -- a change of one bucket's overflow list changes one shelf
  pub shelves-list : (v : Vec E A) → b < length os → shelves ws (set os b v) ≡ set (shelves ws os) b (record { slots = (window_of ws b).slots; tags = (window_of ws b).tags; overflow = v.items; room = vec_capacity v })
  shelves-list v there =
      let s : Shelf E = record { slots = (window_of ws b).slots; tags = (window_of ws b).tags; overflow = v.items; room = vec_capacity v } in
      shelves-are ws (set os b v) (set (shelves ws os) b s) (length-set (shelves ws os) b s ∙ length-shelves ws os)
      (λ i h. elim (same_or_not i b) [
        | inl e ↦ subst (λ k. shelf_at ws (set os b v) k ≡ shelf_of (set (shelves ws os) b s) k) (sym e)
            (ap (λ (o : Option (Vec E A)). record { slots = (window_of ws b).slots; tags = (window_of ws b).tags; overflow = spilled o; room = list_room o }) (get-set os b v there)
            ∙ sym (get_or-set_same (shelves ws os) b s empty_shelf (let m = length-shelves ws os in omega arith)))
        | inr e ↦ ap (λ (o : Option (Vec E A)). record { slots = (window_of ws i).slots; tags = (window_of ws i).tags; overflow = spilled o; room = list_room o }) (get-set_other os b i v e)
            ∙ sym (shelf-there ws os i h) ∙ sym (get_or-set_other (shelves ws os) b i s empty_shelf e)
      ])

-- bs are the shelves of the array, and b is the number of a bucket
module _ {E A : Type 0} (ws : List (Window E)) (os : List (Vec E A)) (bs : List (Shelf E)) (view : shelves ws os ≡ bs) (b : ℕ) (within : b < length bs) where
  pub window-within : b < length ws
  window-within = let n = length-shelves ws os in let m = ap length view in omega arith

  pub shelf-is : shelf_of bs b ≡ shelf_at ws os b
  shelf-is = ap (λ v. shelf_of v b) (sym view) ∙ shelf-there ws os b window-within

  pub slots-are : (window_of ws b).slots ≡ (shelf_of bs b).slots
  slots-are = ap (λ (s : Shelf E). s.slots) (sym shelf-is)

  pub overflow-is : spilled (slice_get os b) ≡ (shelf_of bs b).overflow
  overflow-is = ap (λ (s : Shelf E). s.overflow) (sym shelf-is)

  pub list-within : HasListEach ws os → os ≢ [] → b < length os
  list-within kept some = elim kept.lists [ inl e ↦ absurd (some e) | inr e ↦ let l = window-within in omega arith ]

  -- if the bucket has an entry in its overflow list, there are lists
  pub spilled-there : HasListEach ws os → 0 < length (shelf_of bs b).overflow → b < length os
  spilled-there kept some = list-within kept (λ e. let z : length (shelf_of bs b).overflow ≡ 0 = ap length (sym overflow-is ∙ ap (λ l. spilled (slice_get l b)) e) in omega arith)

  pub list-is : (v : Vec E A) → slice_get os b ≡ Some v → v.items ≡ (shelf_of bs b).overflow
  list-is v e = ap spilled (sym e) ∙ overflow-is

  pub room-is : (v : Vec E A) → slice_get os b ≡ Some v → vec_capacity v ≡ (shelf_of bs b).room
  room-is v e = ap list_room (sym e) ∙ ap (λ (s : Shelf E). s.room) (sym shelf-is)

module _ {E A : Type 0} (ws : List (Window E)) (os : List (Vec E A)) (bs : List (Shelf E)) (view : shelves ws os ≡ bs) (b : ℕ) (within : b < length bs) (F : Shelf E → Shelf E) where
  -- F is the change of the bucket's slots
  pub seen-window : (w : Window E) → F (shelf_at ws os b) ≡ record { slots = w.slots; tags = w.tags; overflow = spilled (slice_get os b); room = list_room (slice_get os b) } → shelves (set ws b w) os ≡ set bs b (F (shelf_of bs b))
  seen-window w e =
      shelves-window ws os b (window-within ws os bs view b within) w ∙ ap (λ s. set (shelves ws os) b s) (sym e)
      ∙ ap (λ v. set v b (F (shelf_at ws os b))) view ∙ ap (λ s. set bs b (F s)) (sym (shelf-is ws os bs view b within))

  -- F is the change of the bucket's overflow list
  pub seen-list : (v : Vec E A) (items : List E) (room : ℕ) → b < length os → v.items ≡ items → vec_capacity v ≡ room
      → F (shelf_at ws os b) ≡ record { slots = (window_of ws b).slots; tags = (window_of ws b).tags; overflow = items; room = room } → shelves ws (set os b v) ≡ set bs b (F (shelf_of bs b))
  seen-list v items room there ei er e =
      let t : Shelf E = record { slots = (window_of ws b).slots; tags = (window_of ws b).tags; overflow = items; room = room } in
      shelves-list ws os b (window-within ws os bs view b within) v there
      ∙ ap (λ (l : List E). set (shelves ws os) b (record { slots = (window_of ws b).slots; tags = (window_of ws b).tags; overflow = l; room = vec_capacity v })) ei
      ∙ ap (λ (r : ℕ). set (shelves ws os) b (record { slots = (window_of ws b).slots; tags = (window_of ws b).tags; overflow = items; room = r })) er
      ∙ ap (λ (s : Shelf E). set (shelves ws os) b s) (sym e)
      ∙ ap (λ v. set v b (F (shelf_at ws os b))) view ∙ ap (λ s. set bs b (F s)) (sym (shelf-is ws os bs view b within))

-- the shelves of an array with no entries and no lists are empty
pub shelves-empty : (E A : Type 0) (n : ℕ) → shelves {E = E} {A = A} (replicate n empty_window) [] ≡ replicate n empty_shelf
shelves-empty E A n =
    let ws : List (Window E) = replicate n empty_window in let none : List (Vec E A) = [] in
    let m : length ws ≡ n = length-replicate n empty_window in
    shelves-are ws none (replicate n empty_shelf) (length-replicate n (empty_shelf {E = E}) ∙ sym m)
    (λ i h. ap (λ (w : Window E). record { slots = w.slots; tags = w.tags; overflow = []; room = 0 }) (get_or-replicate n i empty_window empty_window (omega arith)) ∙ sym (get_or-replicate n i empty_shelf empty_shelf (omega arith)))

-- without lists, no bucket has an entry in an overflow list
pub no-list : {E A : Type 0} (os : List (Vec E A)) (b : ℕ) → os ≡ [] → spilled (slice_get os b) ≡ []
no-list os b e = ap (λ l. spilled (slice_get l b)) e

pub empty-list : {E A : Type 0} (os : List (Vec E A)) → length os ≡ 0 → os ≡ []
empty-list [] e = refl
empty-list (o ∷ os) e = absurd (omega arith)

-- a list that was read is the list at b
pub list-read : {E A : Type 0} (os : List (Vec E A)) (b : ℕ) (v : Vec E A) → b < length os → v ≡ get_or os b v → slice_get os b ≡ Some v
list-read [] b v h e = absurd (omega arith)
list-read (o ∷ os) zero v h e = ap Some (sym e)
list-read (o ∷ os) (suc b) v h e = list-read os b v (omega arith) e

-- the changed bucket has the room that is seen
pub own-room : {E : Type 0} (seen bs : List (Shelf E)) (b : ℕ) (s : Shelf E) → b < length bs → seen ≡ set bs b s → seen ≡ set bs b (record s { room = (shelf_of seen b).room })
own-room seen bs b s h e =
    let r : s.room ≡ (shelf_of seen b).room = sym (ap (λ v. (shelf_of v b).room) e ∙ ap (λ (t : Shelf _). t.room) (get_or-set_same bs b s empty_shelf h)) in
    e ∙ ap (λ r. set bs b (record s { room = r })) r

-- new lists are seen like no lists
module _ {E A : Type 0} (ws : List (Window E)) (os ds : List (Vec E A)) (bs : List (Shelf E)) (view : shelves ws os ≡ bs) (kept : HasListEach ws os) (n : ℕ) (count : n ≡ length ws) where
  pub bare-spilled : AreBare ds → (i : ℕ) → (spilled (slice_get ds i) ≡ []) × (list_room (slice_get ds i) ≡ 0)
  bare-spilled h i = elim (dec_lt i (length ds)) [
    | yes l ↦
        let v = get-some ds i l in let k = h.bare i v.0 l (get-is ds i v.0 v.0 v.1) in
        (ap spilled v.1 ∙ k.0, ap list_room v.1 ∙ k.1)
    | no k ↦ let past : slice_get ds i ≡ None = get-past ds i (omega arith) in (ap spilled past, ap list_room past)
  ]

  pub opened-view : MakesLists os n ds → shelves ws ds ≡ bs
  opened-view (were_there h e) = ap (shelves ws) e ∙ view
  opened-view (were_made e l bare) =
      shelves-are ws ds (shelves ws os) (length-shelves ws os) (λ i h.
      let k = bare-spilled bare i in
      ap (λ (l : List E). record { slots = (window_of ws i).slots; tags = (window_of ws i).tags; overflow = l; room = list_room (slice_get ds i) }) (k.0 ∙ sym (no-list os i e))
      ∙ ap (λ (r : ℕ). record { slots = (window_of ws i).slots; tags = (window_of ws i).tags; overflow = spilled (slice_get os i); room = r }) (k.1 ∙ sym (ap (λ l. list_room (slice_get l i)) e))
      ∙ sym (shelf-there ws os i h)) ∙ view

  pub opened-count : MakesLists os n ds → length ds ≡ length ws
  opened-count (were_there h e) = ap length e ∙ elim kept.lists [ inl z ↦ absurd (let l : length os ≡ 0 = ap length z in omega arith) | inr l ↦ l ]
  opened-count (were_made e l bare) = l ∙ count
