-- A row whose entries are parted by flags: a mask's bits take out those whose flag is up, then the others close their ranks.
use Rattle.std.proofs.Common.{◌≡◌, ◌≢◌, ℕ, zero, suc, ◌+◌, ◌<◌, ◌≤◌, ◌^◌, bit_and, Bool, true, false, cond, List, [], ◌∷◌, ◌++◌, length, map, set, take, get_or, Option, Some, None, refl, sym, ap, ◌∙◌, inl, inr, arith, length-append, append-nil, append_assoc, subst, ◌==◌}
use Rattle.std.proofs.lemmas.List.{get_or-set_same, get_or-set_other, set-get_or, set-set, length-map}
use Rattle.std.proofs.lemmas.Nat.Bits.{bit_at_and, bit_at_not, bit_at-lt, bit_at-zero, bit_at_above}
use Rattle.std.proofs.lemmas.Simd.{bit_mask_l, mask_l-lt}
use Rattle.std.specs.Int.{bit_at, bit_not, w32}
use Rattle.std.specs.List.{slice_get}
use lib.Lanes.{mask_l}
use native.Mathlib.Decide.{dec_lt}
use Rattle.scc_array.proofs.Counting.{lane-set, lane-is, tag-some, some-positive}
use Rattle.scc_array.proofs.Gets.{get-past, get-some}
use Rattle.scc_array.proofs.Parting.{kept-down, length-kept, kept-fewer, middle-end, middle-stay, picked-up, place_view, tag_view, middle-start, Middle}
use Rattle.scc_array.proofs.Windows.{same_or_not}
use Rattle.scc_array.specs.Sifts.{picked, unflagged, picked_of, unflagged_of, left_at, window_with, AreAt, AreUnflagged, AreLeft, MovesCell}
use Rattle.scc_array.specs.Windows.{Window, empty_window, window_of, pushed, tag_there}

-- a flag that is up is in the list of flags
pub get-up : (fs : List Bool) (k : ℕ) → get_or fs k false ≡ true → slice_get fs k ≡ Some true
get-up [] k e = absurd (let z : false ≡ true = e in cc)
get-up (f ∷ fs) zero e = ap Some e
get-up (f ∷ fs) (suc k) e = get-up fs k e

-- a flag that is down is in the list of flags if its index is below their number
pub get-down : (fs : List Bool) (k : ℕ) → k < length fs → get_or fs k false ≡ false → slice_get fs k ≡ Some false
get-down [] k l e = absurd (omega arith)
get-down (f ∷ fs) zero l e = ap Some e
get-down (f ∷ fs) (suc k) l e = get-down fs k (omega arith) e

module _ {X : Type 0} where
  -- flags that are down pick nothing
  pub picked-skip : (fs : List Bool) (xs : List X) (n b : ℕ) → n ≤ b → ((k : ℕ) → n ≤ k → k < b → get_or fs k false ≡ false) → picked (take b fs) xs ≡ picked (take n fs) xs
  picked-skip [] xs zero zero l h = refl
  picked-skip [] xs zero (suc b) l h = refl
  picked-skip [] xs (suc n) zero l h = refl
  picked-skip [] xs (suc n) (suc b) l h = refl
  picked-skip (f ∷ fs) xs zero zero l h = refl
  picked-skip (f ∷ fs) [] zero (suc b) l h = refl
  picked-skip (f ∷ fs) (x ∷ xs) zero (suc b) l h = ap (λ c. cond c (x ∷ picked (take b fs) xs) (picked (take b fs) xs)) (h 0 (omega arith) (omega arith)) ∙ picked-skip fs xs zero b (omega arith) (λ k a z. h (suc k) (omega arith) (omega arith))
  picked-skip (f ∷ fs) xs (suc n) zero l h = absurd (omega arith)
  picked-skip (f ∷ fs) [] (suc n) (suc b) l h = refl
  picked-skip (f ∷ fs) (x ∷ xs) (suc n) (suc b) l h = ap (λ z. cond f (x ∷ z) z) (picked-skip fs xs n b (omega arith) (λ k a z. h (suc k) (omega arith) (omega arith)))

  -- if all flags from n on are down, no more elements are picked
  pub picked-end : (fs : List Bool) (xs : List X) (n : ℕ) → ((k : ℕ) → n ≤ k → k < length xs → get_or fs k false ≡ false) → picked (take n fs) xs ≡ picked fs xs
  picked-end [] xs zero h = refl
  picked-end [] xs (suc n) h = refl
  picked-end (f ∷ fs) [] zero h = refl
  picked-end (f ∷ fs) [] (suc n) h = refl
  picked-end (f ∷ fs) (x ∷ xs) zero h = sym (ap (λ c. cond c (x ∷ picked fs xs) (picked fs xs)) (h 0 (omega arith) (omega arith)) ∙ sym (picked-end fs xs zero (λ k a z. h (suc k) (omega arith) (omega arith))))
  picked-end (f ∷ fs) (x ∷ xs) (suc n) h = ap (λ z. cond f (x ∷ z) z) (picked-end fs xs n (λ k a z. h (suc k) (omega arith) (omega arith)))

  -- flags that are up keep nothing
  pub kept-skip : (fs : List Bool) (xs : List X) (n b : ℕ) → n ≤ b → ((k : ℕ) → n ≤ k → k < b → get_or fs k false ≡ true) → unflagged (take b fs) xs ≡ unflagged (take n fs) xs
  kept-skip [] xs zero zero l h = refl
  kept-skip [] xs zero (suc b) l h = refl
  kept-skip [] xs (suc n) zero l h = refl
  kept-skip [] xs (suc n) (suc b) l h = refl
  kept-skip (f ∷ fs) xs zero zero l h = refl
  kept-skip (f ∷ fs) [] zero (suc b) l h = refl
  kept-skip (f ∷ fs) (x ∷ xs) zero (suc b) l h = ap (λ c. cond c (unflagged (take b fs) xs) (x ∷ unflagged (take b fs) xs)) (h 0 (omega arith) (omega arith)) ∙ kept-skip fs xs zero b (omega arith) (λ k a z. h (suc k) (omega arith) (omega arith))
  kept-skip (f ∷ fs) xs (suc n) zero l h = absurd (omega arith)
  kept-skip (f ∷ fs) [] (suc n) (suc b) l h = refl
  kept-skip (f ∷ fs) (x ∷ xs) (suc n) (suc b) l h = ap (λ z. cond f z (x ∷ z)) (kept-skip fs xs n b (omega arith) (λ k a z. h (suc k) (omega arith) (omega arith)))

  pub kept-end : (fs : List Bool) (xs : List X) (n : ℕ) → ((k : ℕ) → n ≤ k → k < length xs → get_or fs k false ≡ true) → unflagged (take n fs) xs ≡ unflagged fs xs
  kept-end [] xs zero h = refl
  kept-end [] xs (suc n) h = refl
  kept-end (f ∷ fs) [] zero h = refl
  kept-end (f ∷ fs) [] (suc n) h = refl
  kept-end (f ∷ fs) (x ∷ xs) zero h = sym (ap (λ c. cond c (unflagged fs xs) (x ∷ unflagged fs xs)) (h 0 (omega arith) (omega arith)) ∙ sym (kept-end fs xs zero (λ k a z. h (suc k) (omega arith) (omega arith))))
  kept-end (f ∷ fs) (x ∷ xs) (suc n) h = ap (λ z. cond f z (x ∷ z)) (kept-end fs xs n (λ k a z. h (suc k) (omega arith) (omega arith)))

  -- an element is left if its flag is down, and is gone if its flag is up
  pub left-up : (fs : List Bool) (xs : List X) (j : ℕ) → get_or fs j false ≡ true → left_at fs xs j ≡ None
  left-up fs xs j e = ap (λ c. cond c None (slice_get xs j)) e

  pub left-down : (fs : List Bool) (xs : List X) (j : ℕ) → get_or fs j false ≡ false → left_at fs xs j ≡ slice_get xs j
  left-down fs xs j e = ap (λ c. cond c None (slice_get xs j)) e

  pub left-past : (fs : List Bool) (xs : List X) (j : ℕ) → length xs ≤ j → left_at fs xs j ≡ None
  left-past fs xs j l = ap (λ (o : Option X). cond (get_or fs j false) None o) (get-past xs j l) ∙ (elim (get_or fs j false) as (λ c. ◌≡◌ {A = Option X} (cond c None None) None) [ true ↦ refl | false ↦ refl ])

-- `take` keeps the first n flags
pub take-below : (fs : List Bool) (n j : ℕ) → j < n → get_or (take n fs) j false ≡ get_or fs j false
take-below [] zero j l = refl
take-below [] (suc n) j l = refl
take-below (f ∷ fs) zero j l = absurd (omega arith)
take-below (f ∷ fs) (suc n) zero l = refl
take-below (f ∷ fs) (suc n) (suc j) l = take-below fs n j (omega arith)

pub take-above : (fs : List Bool) (n j : ℕ) → n ≤ j → get_or (take n fs) j false ≡ false
take-above [] zero j l = refl
take-above [] (suc n) j l = refl
take-above (f ∷ fs) zero j l = refl
take-above (f ∷ fs) (suc n) zero l = absurd (omega arith)
take-above (f ∷ fs) (suc n) (suc j) l = take-above fs n j (omega arith)

module _ {X : Type 0} (fs : List Bool) (xs : List X) where
  -- if one more element is taken out, the other indices are unchanged
  pub left-out : (n b : ℕ) → n ≤ b → ((k : ℕ) → n ≤ k → k < b → get_or fs k false ≡ false) → (j : ℕ) → j ≢ b → left_at (take (b + 1) fs) xs j ≡ left_at (take n fs) xs j
  left-out n b l h j ne = ap (λ c. cond c None (slice_get xs j)) (elim (dec_lt j n) [
    | yes a ↦ take-below fs (b + 1) j (omega arith) ∙ sym (take-below fs n j a)
    | no a ↦ elim (dec_lt j b) [
      | yes z ↦ take-below fs (b + 1) j (omega arith) ∙ h j (omega arith) z ∙ sym (take-above fs n j (omega arith))
      | no z ↦ take-above fs (b + 1) j (omega arith) ∙ sym (take-above fs n j (omega arith))
    ]
  ])

  -- if all flags from n on are down, all elements whose flag is up are taken out already
  pub left-end : (n : ℕ) → ((k : ℕ) → n ≤ k → k < length xs → get_or fs k false ≡ false) → (j : ℕ) → left_at (take n fs) xs j ≡ left_at fs xs j
  left-end n h j = elim (dec_lt j n) [
    | yes a ↦ ap (λ c. cond c None (slice_get xs j)) (take-below fs n j a)
    | no a ↦ elim (dec_lt j (length xs)) [
      | yes z ↦ ap (λ c. cond c None (slice_get xs j)) (take-above fs n j (omega arith) ∙ sym (h j (omega arith) z))
      | no z ↦ left-past (take n fs) xs j (omega arith) ∙ sym (left-past fs xs j (omega arith))
    ]
  ]

cond-one : (b : Bool) → ◌≡◌ {A = ℕ} (cond b 1 0) 1 → b ≡ true
cond-one true e = refl
cond-one false e = absurd (omega arith)

cond-none : (b : Bool) → ◌≡◌ {A = ℕ} (cond b 1 0) 0 → b ≡ false
cond-none true e = absurd (omega arith)
cond-none false e = refl

not_one : (n : ℕ) → n < 2 → (n ≡ 1 → ⊥) → n ≡ 0
not_one zero l h = refl
not_one (suc zero) l h = absurd (h refl)
not_one (suc (suc n)) l h = absurd (omega arith)

there_none : (t : ℕ) → tag_there t ≡ None → t ≡ 0
there_none zero e = refl
there_none (suc t) e = absurd (let n : Some (suc t) ≡ None = e in cc)

free-small : (row : List ℕ) → length row ≡ 32 → mask_l (map (λ x. x == 0) row) < 2 ^ 32
free-small row wide = let m = mask_l-lt (map (λ x. x == 0) row) in let l : length (map (λ x. x == 0) row) ≡ 32 = length-map row (λ x. x == 0) ∙ wide in rw l at m

not-small : (n : ℕ) → bit_not w32 n < 2 ^ 32
not-small n = omega arith

flags-small : (fs : List Bool) → length fs ≡ 32 → mask_l fs < 2 ^ 32
flags-small fs wide = let m = mask_l-lt fs in rw wide at m

-- the flagged entries of w before slot n stand at the end of bucket `target` of ws; each bit is an entry still to be taken out
pub record Picks {E : Type 0} (fs : List Bool) (base target first : ℕ) (w : Window E) (ws : List (Window E)) (cells : List (Option E)) (row : List ℕ) (into : List (Window E)) (bits next : ℕ) : Type 0 where
  pub n : ℕ
  pub cells_are : (j : ℕ) → j < 32 → place_view cells base j ≡ left_at (take n fs) w.slots j
  pub tags_are : (j : ℕ) → j < 32 → tag_view row j ≡ left_at (take n fs) w.tags j
  pub moved : into ≡ set ws target (window_with (window_of ws target) (picked_of (take n fs) w))
  pub filled : next ≡ first + length (picked (take n fs) w.slots)
  pub up : (k : ℕ) → n ≤ k → k < length w.slots → get_or fs k false ≡ true → bit_at bits k ≡ 1
  pub only : (k : ℕ) → bit_at bits k ≡ 1 → (n ≤ k) × (k < length w.slots) × (get_or fs k false ≡ true)

false_or : (b : Bool) → (b ≡ true → ⊥) → b ≡ false
false_or true h = absurd (h refl)
false_or false h = refl

true_or : (b : Bool) → (b ≡ false → ⊥) → b ≡ true
true_or true h = refl
true_or false h = absurd (h refl)

picked-none : {X : Type 0} (fs : List Bool) (xs : List X) → picked (take 0 fs) xs ≡ []
picked-none [] xs = refl
picked-none (f ∷ fs) xs = refl

window-with_none : {E : Type 0} (v : Window E) (ss : List E) (ts : List ℕ) → ss ≡ [] → ts ≡ [] → window_with v (record { slots = ss; tags = ts }) ≡ v
window-with_none v ss ts a b =
    ap (λ (z : List _). let r : Window _ = record { slots = z; tags = v.tags ++ ts } in r) (ap (λ z. v.slots ++ z) a ∙ append-nil v.slots)
    ∙ ap (λ (z : List ℕ). let r : Window _ = record { slots = v.slots; tags = z } in r) (ap (λ z. v.tags ++ z) b ∙ append-nil v.tags)

-- the first n flags pick at most n elements
picked-first : {X : Type 0} (fs : List Bool) (xs : List X) (n : ℕ) → length (picked (take n fs) xs) ≤ n
picked-first [] xs zero = omega arith
picked-first [] xs (suc n) = omega arith
picked-first (f ∷ fs) xs zero = omega arith
picked-first (f ∷ fs) [] (suc n) = omega arith
picked-first (f ∷ fs) (x ∷ xs) (suc n) = let ih = picked-first fs xs n in elim f as (λ b. length (cond b (x ∷ picked (take n fs) xs) (picked (take n fs) xs)) ≤ suc n) [ true ↦ omega arith | false ↦ omega arith ]

module _ {E : Type 0} (fs : List Bool) (base target : ℕ) (w : Window E) (ws : List (Window E)) where
  -- at first no entry is taken out
  pub picks-start : (first : ℕ) (cells : List (Option E)) (row : List ℕ) (bits : ℕ) → first ≡ length (window_of ws target).slots → AreAt cells row base w
      → ((k : ℕ) → k < length w.slots → get_or fs k false ≡ true → bit_at bits k ≡ 1) → ((k : ℕ) → bit_at bits k ≡ 1 → (k < length w.slots) × (get_or fs k false ≡ true))
      → Picks fs base target first w ws cells row ws bits first
  picks-start first cells row bits is at up only = record {
    n = 0;
    cells_are = λ j h. at.cells_are j h ∙ sym (left-down (take 0 fs) w.slots j (take-above fs 0 j (omega arith)));
    tags_are = λ j h. at.tags_are j h ∙ sym (left-down (take 0 fs) w.tags j (take-above fs 0 j (omega arith)));
    moved = sym (ap (λ v. set ws target v) (window-with_none (window_of ws target) (picked (take 0 fs) w.slots) (picked (take 0 fs) w.tags) (picked-none fs w.slots) (picked-none fs w.tags)) ∙ set-get_or ws target empty_window);
    filled = let n = ap length (picked-none fs w.slots) in omega arith;
    up = λ k a z e. up k z e;
    only = λ k e. let o = only k e in (omega arith, o.0, o.1);
  }

  module _ (first : ℕ) (same : length w.tags ≡ length w.slots) (most : length w.slots ≤ 32) (cells : List (Option E)) (row : List ℕ) (into : List (Window E)) (bits next : ℕ) (s : Picks fs base target first w ws cells row into bits next) where
    -- the entry at p, if bit p is set
    module _ (p : ℕ) (set_there : bit_at bits p ≡ 1) where
      here : (s.n ≤ p) × (p < length w.slots) × (get_or fs p false ≡ true)
      here = s.only p set_there

      pub picks-within : p < 32
      picks-within = let h = here in omega arith

      pub picks-entry : (x : E) × (get_or cells (base + p) None ≡ Some x) × (slice_get w.slots p ≡ Some x)
      picks-entry =
          let h = here in let g = get-some w.slots p h.1 in
          (g.0, s.cells_are p picks-within ∙ left-down (take s.n fs) w.slots p (take-above fs s.n p h.0) ∙ g.1, g.1)

      pub picks-tag : (t : ℕ) × (tag_view row p ≡ Some t) × (slice_get w.tags p ≡ Some t)
      picks-tag =
          let h = here in let g = get-some w.tags p (omega arith) in
          (g.0, s.tags_are p picks-within ∙ left-down (take s.n fs) w.tags p (take-above fs s.n p h.0) ∙ g.1, g.1)

      pub picks-some : 0 < get_or row p 0
      picks-some = some-positive (get_or row p 0) picks-tag.0 picks-tag.1

      pub picks-room : first + length w.slots ≤ 32 → next < 32
      picks-room room =
          let h = here in
          let f = s.filled in
          let l = picked-first fs w.slots s.n in
          omega arith

      -- the entry of the lowest bit is taken out
      pub picks-out : ((k : ℕ) → bit_at bits k ≡ 1 → p ≤ k) → base + p < length cells → p < length row → target < length ws → (e : E) → get_or cells (base + p) None ≡ Some e → (later : List (Window E))
          → later ≡ set into target (pushed (window_of into target) e (get_or row p 0)) → (rest : ℕ) → ((k : ℕ) → bit_at bits k ≡ 1 → k ≢ p → bit_at rest k ≡ 1) → ((k : ℕ) → bit_at rest k ≡ 1 → (bit_at bits k ≡ 1) × (k ≢ p))
          → Picks fs base target first w ws (set cells (base + p) None) (set row p 0) later rest (next + 1)
      picks-out least lp lr lt e was later put rest others only =
          let h = here in
          let down : (k : ℕ) → s.n ≤ k → k < p → get_or fs k false ≡ false = λ k a z. false_or (get_or fs k false) (λ t. let q = least k (s.up k a (omega arith) t) in omega arith) in
          let one : take (p + 1) fs ≡ take (suc p) fs = let n : p + 1 ≡ suc p = omega arith in ap (λ m. take m fs) n in
          let up : slice_get fs p ≡ Some true = get-up fs p h.2 in
          let got : slice_get w.slots p ≡ Some e = picks-entry.2 ∙ sym picks-entry.1 ∙ was in
          let t : slice_get w.tags p ≡ Some (get_or row p 0) = picks-tag.2 ∙ ap Some (sym (tag-some (get_or row p 0) picks-tag.0 picks-tag.1)) in
          let q1 : picked (take (p + 1) fs) w.slots ≡ picked (take s.n fs) w.slots ++ e ∷ [] = ap (λ f. picked f w.slots) one ∙ picked-up fs w.slots p e up got ∙ ap (λ z. z ++ e ∷ []) (picked-skip fs w.slots s.n p h.0 down) in
          let q2 : picked (take (p + 1) fs) w.tags ≡ picked (take s.n fs) w.tags ++ get_or row p 0 ∷ [] = ap (λ f. picked f w.tags) one ∙ picked-up fs w.tags p (get_or row p 0) up t ∙ ap (λ z. z ++ get_or row p 0 ∷ []) (picked-skip fs w.tags s.n p h.0 down) in
          let v : Window E = window_of ws target in
          let v1 : Window E = window_with v (picked_of (take s.n fs) w) in
          let there : window_of into target ≡ v1 = ap (λ z. window_of z target) s.moved ∙ get_or-set_same ws target v1 empty_window lt in
          let pushed_is : pushed v1 e (get_or row p 0) ≡ window_with v (picked_of (take (p + 1) fs) w) =
          ap (λ (z : List E). let r : Window E = record { slots = z; tags = (v.tags ++ picked (take s.n fs) w.tags) ++ get_or row p 0 ∷ [] } in r) (append_assoc v.slots (picked (take s.n fs) w.slots) (e ∷ []) ∙ ap (λ z. v.slots ++ z) (sym q1))
          ∙ ap (λ (z : List ℕ). let r : Window E = record { slots = v.slots ++ picked (take (p + 1) fs) w.slots; tags = z } in r) (append_assoc v.tags (picked (take s.n fs) w.tags) (get_or row p 0 ∷ []) ∙ ap (λ z. v.tags ++ z) (sym q2)) in
          let gone : get_or (take (p + 1) fs) p false ≡ true = take-below fs (p + 1) p (omega arith) ∙ h.2 in
          record {
            n = p + 1;
            cells_are = λ j l. elim (same_or_not j p) [
              | inl is ↦ ap (λ i. get_or (set cells (base + p) None) (base + i) None) is ∙ get_or-set_same cells (base + p) None None lp ∙ sym (ap (λ i. left_at (take (p + 1) fs) w.slots i) is ∙ left-up (take (p + 1) fs) w.slots p gone)
              | inr ne ↦ get_or-set_other cells (base + p) (base + j) None None (λ z. ne (omega arith)) ∙ s.cells_are j l ∙ sym (left-out fs w.slots s.n p h.0 down j ne)
            ];
            tags_are = λ j l. elim (same_or_not j p) [
              | inl is ↦ ap (λ i. tag_view (set row p 0) i) is ∙ ap tag_there (get_or-set_same row p 0 0 lr) ∙ sym (ap (λ i. left_at (take (p + 1) fs) w.tags i) is ∙ left-up (take (p + 1) fs) w.tags p gone)
              | inr ne ↦ ap tag_there (get_or-set_other row p j 0 0 ne) ∙ s.tags_are j l ∙ sym (left-out fs w.tags s.n p h.0 down j ne)
            ];
            moved = put ∙ ap (λ z. set into target (pushed z e (get_or row p 0))) there ∙ ap (λ z. set z target (pushed v1 e (get_or row p 0))) s.moved ∙ set-set ws target v1 (pushed v1 e (get_or row p 0)) ∙ ap (set ws target) pushed_is;
            filled = let n = ap length q1 ∙ length-append (picked (take s.n fs) w.slots) (e ∷ []) in let f = s.filled in omega arith;
            up = λ k a z b. others k (s.up k (omega arith) z b) (λ is. omega arith);
            only = λ k b. let o = only k b in let q = s.only k o.0 in let r = least k o.0 in let ne = o.1 in (elim (dec_lt p k) [ yes y ↦ omega arith | no y ↦ absurd (ne (omega arith)) ], q.1, q.2);
          }

    -- no bit is left
    module _ (none : bits ≡ 0) where
      rest-down : (k : ℕ) → s.n ≤ k → k < length w.slots → get_or fs k false ≡ false
      rest-down k a z = false_or (get_or fs k false) (λ t. let one : bit_at 0 k ≡ 1 = subst (λ b. bit_at b k ≡ 1) none (s.up k a z t) in let o = bit_at-zero k in omega arith)

      pub picks-left : length fs ≡ 32 → AreLeft cells row base fs w
      picks-left flags = record {
        flags = flags;
        cells_are = λ j l. s.cells_are j l ∙ left-end fs w.slots s.n rest-down j;
        tags_are = λ j l. s.tags_are j l ∙ left-end fs w.tags s.n (λ k a z. rest-down k a (omega arith)) j;
        most = most;
        same = same;
      }

      pub picks-moved : into ≡ set ws target (window_with (window_of ws target) (picked_of fs w))
      picks-moved =
          s.moved ∙ ap (λ (z : List E). set ws target (let r : Window E = record { slots = (window_of ws target).slots ++ z; tags = (window_of ws target).tags ++ picked (take s.n fs) w.tags } in r)) (picked-end fs w.slots s.n rest-down)
          ∙ ap (λ (z : List ℕ). set ws target (let r : Window E = record { slots = (window_of ws target).slots ++ picked fs w.slots; tags = (window_of ws target).tags ++ z } in r)) (picked-end fs w.tags s.n (λ k a z. rest-down k a (omega arith)))

-- the unflagged entries of w before slot n stand in the first slots; each bit is an entry still to move
pub record Ranks {E : Type 0} (fs : List Bool) (base : ℕ) (w : Window E) (places0 cells : List (Option E)) (row0 row : List ℕ) (bits stays : ℕ) : Type 0 where
  pub n : ℕ
  pub cells_are : Middle (place_view places0 base) (place_view cells base) (unflagged (take n fs) w.slots) n
  pub tags_are : Middle (tag_view row0) (tag_view row) (unflagged (take n fs) w.tags) n
  pub stayed : stays ≡ length (unflagged (take n fs) w.slots)
  pub all : (k : ℕ) → n ≤ k → k < length w.slots → get_or fs k false ≡ false → bit_at bits k ≡ 1
  pub only : (k : ℕ) → bit_at bits k ≡ 1 → (n ≤ k) × (k < length w.slots) × (get_or fs k false ≡ false)

kept-none : {X : Type 0} (fs : List Bool) (xs : List X) → unflagged (take 0 fs) xs ≡ []
kept-none [] xs = refl
kept-none (f ∷ fs) xs = refl

-- empty slots are skipped
middle-skip : {X : Type 0} (f0 f : ℕ → Option X) (ks : List X) (n b : ℕ) → n ≤ b → b ≤ 32 → ((k : ℕ) → n ≤ k → k < b → f0 k ≡ None) → Middle f0 f ks n → Middle f0 f ks b
middle-skip f0 f ks n b e l none m = let s = m.short in record {
  low = m.low;
  hole = λ j a z. elim (dec_lt j n) [ yes y ↦ m.hole j a y | no y ↦ m.high j (omega arith) (omega arith) ∙ none j (omega arith) z ];
  high = λ j a z. m.high j (omega arith) z;
  short = omega arith;
}

module _ {E : Type 0} (fs : List Bool) (base : ℕ) (w : Window E) (places0 : List (Option E)) (row0 : List ℕ) (left : AreLeft places0 row0 base fs w) where
  pub ranks-start : (bits : ℕ) → AreUnflagged fs w bits → Ranks fs base w places0 places0 row0 row0 bits 0
  ranks-start bits k = record {
    n = 0;
    cells_are = subst (λ ks. Middle (place_view places0 base) (place_view places0 base) ks 0) (sym (kept-none fs w.slots)) (middle-start (place_view places0 base));
    tags_are = subst (λ ks. Middle (tag_view row0) (tag_view row0) ks 0) (sym (kept-none fs w.tags)) (middle-start (tag_view row0));
    stayed = sym (ap length (kept-none fs w.slots));
    all = λ i a z e. k.all i z e;
    only = λ i e. let o = k.only i e in (omega arith, o.0, o.1);
  }

  module _ (cells : List (Option E)) (row : List ℕ) (bits stays : ℕ) (s : Ranks fs base w places0 cells row0 row bits stays) where
    module _ (p : ℕ) (set_there : bit_at bits p ≡ 1) (least : (k : ℕ) → bit_at bits k ≡ 1 → p ≤ k) where
      stands : (s.n ≤ p) × (p < length w.slots) × (get_or fs p false ≡ false)
      stands = s.only p set_there

      between : (k : ℕ) → s.n ≤ k → k < p → get_or fs k false ≡ true
      between k a z = true_or (get_or fs k false) (λ down. let h = stands in let q = least k (s.all k a (omega arith) down) in omega arith)

      pub ranks-within : (p < 32) × (stays ≤ p)
      ranks-within = let h = stands in let m = left.most in let t = s.stayed in let o = s.cells_are.short in (omega arith, omega arith)

      pub ranks-entry : (x : E) × (get_or cells (base + p) None ≡ Some x) × (place_view places0 base p ≡ Some x) × (slice_get w.slots p ≡ Some x)
      ranks-entry =
          let h = stands in let g = get-some w.slots p h.1 in
          let was : place_view places0 base p ≡ Some g.0 = left.cells_are p ranks-within.0 ∙ left-down fs w.slots p h.2 ∙ g.1 in
          (g.0, s.cells_are.high p h.0 ranks-within.0 ∙ was, was, g.1)

      ranks-tag : (t : ℕ) × (tag_view row0 p ≡ Some t) × (slice_get w.tags p ≡ Some t)
      ranks-tag =
          let h = stands in let n = left.same in let g = get-some w.tags p (omega arith) in
          (g.0, left.tags_are p ranks-within.0 ∙ left-down fs w.tags p h.2 ∙ g.1, g.1)

      -- if the entry moves to another slot, that slot is free
      pub ranks-free : stays < p → get_or cells (base + stays) None ≡ None
      ranks-free l =
          let r = ranks-within in let t = s.stayed in
          elim (dec_lt stays s.n) [
            | yes y ↦ s.cells_are.hole stays (omega arith) y
            | no y ↦ s.cells_are.high stays (omega arith) (omega arith) ∙ left.cells_are stays (omega arith) ∙ left-up fs w.slots stays (between stays (omega arith) l)
          ]

      -- the entry moves to the slot `stays`
      pub ranks-stay : (places_left : List (Option E)) (row_left : List ℕ) → MovesCell None cells (base + p) (base + stays) places_left → MovesCell 0 row p stays row_left
          → (rest : ℕ) → ((k : ℕ) → bit_at bits k ≡ 1 → k ≢ p → bit_at rest k ≡ 1) → ((k : ℕ) → bit_at rest k ≡ 1 → (bit_at bits k ≡ 1) × (k ≢ p)) → Ranks fs base w places0 places_left row0 row_left rest (stays + 1)
      ranks-stay places_left row_left mp mr rest others only =
          let h = stands in
          let m = left.most in
          let x = ranks-entry.0 in
          let t = ranks-tag.0 in
          let one : take (p + 1) fs ≡ take (suc p) fs = let n : p + 1 ≡ suc p = omega arith in ap (λ m. take m fs) n in
          let down : slice_get fs p ≡ Some false = get-down fs p (let f = left.flags in omega arith) h.2 in
          let skip1 : unflagged (take p fs) w.slots ≡ unflagged (take s.n fs) w.slots = kept-skip fs w.slots s.n p h.0 between in
          let skip2 : unflagged (take p fs) w.tags ≡ unflagged (take s.n fs) w.tags = kept-skip fs w.tags s.n p h.0 between in
          let k1 : unflagged (take (p + 1) fs) w.slots ≡ unflagged (take p fs) w.slots ++ x ∷ [] = ap (λ f. unflagged f w.slots) one ∙ kept-down fs w.slots p x down ranks-entry.3 in
          let k2 : unflagged (take (p + 1) fs) w.tags ≡ unflagged (take p fs) w.tags ++ t ∷ [] = ap (λ f. unflagged f w.tags) one ∙ kept-down fs w.tags p t down ranks-tag.2 in
          let n1 : length (unflagged (take p fs) w.slots) ≡ stays = ap length skip1 ∙ sym s.stayed in
          let n2 : length (unflagged (take p fs) w.tags) ≡ stays = length-kept (take p fs) w.slots w.tags left.same ∙ n1 in
          let m1 : Middle (place_view places0 base) (place_view cells base) (unflagged (take p fs) w.slots) p =
          subst (λ ks. Middle (place_view places0 base) (place_view cells base) ks p) (sym skip1)
          (middle-skip (place_view places0 base) (place_view cells base) (unflagged (take s.n fs) w.slots) s.n p h.0 (omega arith) (λ k a z. left.cells_are k (omega arith) ∙ left-up fs w.slots k (between k a z)) s.cells_are) in
          let m2 : Middle (tag_view row0) (tag_view row) (unflagged (take p fs) w.tags) p =
          subst (λ ks. Middle (tag_view row0) (tag_view row) ks p) (sym skip2)
          (middle-skip (tag_view row0) (tag_view row) (unflagged (take s.n fs) w.tags) s.n p h.0 (omega arith) (λ k a z. left.tags_are k (omega arith) ∙ left-up fs w.tags k (between k a z)) s.tags_are) in
          record {
            n = p + 1;
            cells_are = subst (λ ks. Middle (place_view places0 base) (place_view places_left base) ks (p + 1)) (sym k1)
                (middle-stay (place_view places0 base) (place_view cells base) (unflagged (take p fs) w.slots) p m1 (place_view places_left base) x (omega arith) ranks-entry.2
                (ap (λ n. get_or places_left (base + n) None) n1 ∙ mp.there) (λ ne. mp.gone (λ z. ne (omega arith))) (λ j a b. mp.others (base + j) (λ z. a (omega arith)) (λ z. b (omega arith))));
            tags_are = subst (λ ks. Middle (tag_view row0) (tag_view row_left) ks (p + 1)) (sym k2)
                (middle-stay (tag_view row0) (tag_view row) (unflagged (take p fs) w.tags) p m2 (tag_view row_left) t (omega arith) ranks-tag.1
                (ap (λ n. tag_view row_left n) n2 ∙ ap tag_there mr.there) (λ ne. ap tag_there (mr.gone (λ z. ne (omega arith)))) (λ j a b. ap tag_there (mr.others j a (λ z. b (omega arith)))));
            stayed = let n = ap length k1 ∙ length-append (unflagged (take p fs) w.slots) (x ∷ []) in omega arith;
            all = λ k a z e. others k (s.all k (omega arith) z e) (λ is. omega arith);
            only = λ k b. let o = only k b in let q = s.only k o.0 in let r = least k o.0 in let ne = o.1 in (elim (dec_lt p k) [ yes y ↦ omega arith | no y ↦ absurd (ne (omega arith)) ], q.1, q.2);
          }

    -- no bit is left
    module _ (none : bits ≡ 0) where
      rest-up : (k : ℕ) → s.n ≤ k → k < length w.slots → get_or fs k false ≡ true
      rest-up k a z = true_or (get_or fs k false) (λ e. let one : bit_at 0 k ≡ 1 = subst (λ b. bit_at b k ≡ 1) none (s.all k a z e) in let o = bit_at-zero k in omega arith)

      rest-tagged : (k : ℕ) → s.n ≤ k → k < length w.tags → get_or fs k false ≡ true
      rest-tagged k a z = rest-up k a (let n = left.same in omega arith)

      bare : (k : ℕ) → s.n ≤ k → k < 32 → place_view places0 base k ≡ None
      bare k a z = left.cells_are k z ∙ (elim (dec_lt k (length w.slots)) [ yes y ↦ left-up fs w.slots k (rest-up k a y) | no y ↦ left-past fs w.slots k (omega arith) ])

      untagged : (k : ℕ) → s.n ≤ k → k < 32 → tag_view row0 k ≡ None
      untagged k a z = left.tags_are k z ∙ (elim (dec_lt k (length w.tags)) [ yes y ↦ left-up fs w.tags k (rest-tagged k a y) | no y ↦ left-past fs w.tags k (omega arith) ])

      pub ranks-kept : AreAt cells row base (unflagged_of fs w)
      ranks-kept =
          let k1 = kept-end fs w.slots s.n rest-up in
          let k2 = kept-end fs w.tags s.n rest-tagged in
          record {
            cells_are = λ j l. middle-end (place_view places0 base) (place_view cells base) (unflagged (take s.n fs) w.slots) s.n s.cells_are bare j l ∙ ap (λ z. slice_get z j) k1;
            tags_are = λ j l. middle-end (tag_view row0) (tag_view row) (unflagged (take s.n fs) w.tags) s.n s.tags_are untagged j l ∙ ap (λ z. slice_get z j) k2;
            most = let f = kept-fewer fs w.slots in let m = left.most in omega arith;
            same = length-kept fs w.slots w.tags left.same;
          }

-- the bits of the masks
module _ {E : Type 0} (row : List ℕ) (wide : length row ≡ 32) (fs : List Bool) (flags : length fs ≡ 32) (base : ℕ) (cells : List (Option E)) (w : Window E) (at : AreAt cells row base w) where
  abbrev pub free_mask : ℕ
  free_mask = mask_l (map (λ x. x == 0) row)

  used-bit : (k : ℕ) → k < length w.slots → bit_at (bit_not w32 free_mask) k ≡ 1
  used-bit k l =
      let m = at.most in let n = at.same in
      let g = get-some w.tags k (omega arith) in
      let some : 0 < get_or row k 0 = some-positive (get_or row k 0) g.0 (at.tags_are k (omega arith) ∙ g.1) in
      let zero : bit_at free_mask k ≡ 0 = not_one (bit_at free_mask k) (bit_at-lt free_mask k) (λ e. let is = lane-is 0 row k e in omega arith) in
      bit_at_not w32 free_mask k (free-small row wide) (omega arith) ∙ omega arith

  used-only : (k : ℕ) → bit_at (bit_not w32 free_mask) k ≡ 1 → k < length w.slots
  used-only k e = elim (dec_lt k 32) [
    | yes l ↦ elim (dec_lt k (length w.slots)) [
      | yes y ↦ y
      | no y ↦
          let n = at.same in
          let z : get_or row k 0 ≡ 0 = there_none (get_or row k 0) (at.tags_are k l ∙ get-past w.tags k (omega arith)) in
          let one = lane-set 0 row k (omega arith) z in
          let bit = bit_at_not w32 free_mask k (free-small row wide) l in
          absurd (omega arith)
    ]
    | no l ↦ let z = bit_at_above (bit_not w32 free_mask) 32 k (not-small free_mask) (omega arith) in absurd (omega arith)
  ]

  pub picked-bit : (k : ℕ) → k < length w.slots → get_or fs k false ≡ true → bit_at (bit_and (bit_not w32 free_mask) (mask_l fs)) k ≡ 1
  picked-bit k l e =
      let u = used-bit k l in
      let f : bit_at (mask_l fs) k ≡ 1 = bit_mask_l fs k ∙ ap (λ c. cond c 1 0) e in
      let b = bit_at_and (bit_not w32 free_mask) (mask_l fs) k in
      omega arith

  pub picked-only : (k : ℕ) → bit_at (bit_and (bit_not w32 free_mask) (mask_l fs)) k ≡ 1 → (k < length w.slots) × (get_or fs k false ≡ true)
  picked-only k e =
      let b = bit_at_and (bit_not w32 free_mask) (mask_l fs) k in
      let x = bit_at-lt (bit_not w32 free_mask) k in
      let y = bit_at-lt (mask_l fs) k in
      let u : bit_at (bit_not w32 free_mask) k ≡ 1 = omega arith in
      let f : bit_at (mask_l fs) k ≡ 1 = omega arith in
      (used-only k u, cond-one (get_or fs k false) (sym (bit_mask_l fs k) ∙ f))

  pub kept-bits : AreUnflagged fs w (bit_and (bit_not w32 free_mask) (bit_not w32 (mask_l fs)))
  kept-bits = record {
    all = λ k l e.
        let m = at.most in
        let u = used-bit k l in
        let f : bit_at (mask_l fs) k ≡ 0 = bit_mask_l fs k ∙ ap (λ c. cond c 1 0) e in
        let g = bit_at_not w32 (mask_l fs) k (flags-small fs flags) (omega arith) in
        let b = bit_at_and (bit_not w32 free_mask) (bit_not w32 (mask_l fs)) k in
        omega arith;
    only = λ k e.
        let b = bit_at_and (bit_not w32 free_mask) (bit_not w32 (mask_l fs)) k in
        let x = bit_at-lt (bit_not w32 free_mask) k in
        let y = bit_at-lt (bit_not w32 (mask_l fs)) k in
        let u : bit_at (bit_not w32 free_mask) k ≡ 1 = omega arith in
        let l = used-only k u in
        let m = at.most in
        let g = bit_at_not w32 (mask_l fs) k (flags-small fs flags) (omega arith) in
        let f : bit_at (mask_l fs) k ≡ 0 = omega arith in
        (l, cond-none (get_or fs k false) (sym (bit_mask_l fs k) ∙ f));
  }
