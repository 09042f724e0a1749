-- A row whose entries are parted by flags: the entries that stay close their ranks, one after the other.
use Rattle.std.proofs.Common.{◌≡◌, ◌≢◌, ℕ, zero, suc, ◌+◌, ◌<◌, ◌≤◌, Bool, true, false, cond, List, [], ◌∷◌, ◌++◌, length, set, take, get_or, ◌*◌, ◌⊎◌, Option, Some, None, refl, sym, ap, ◌∙◌, inl, inr, arith, length-append, append_assoc, subst}
use Rattle.std.proofs.lemmas.List.{get_or-set_same, get_or-set_other, set-set}
use Rattle.std.specs.List.{slice_get}
use native.Mathlib.Decide.{dec_lt}
use Rattle.scc_array.proofs.Counting.{tag-some, some-positive}
use Rattle.scc_array.proofs.Gets.{get-past, get-some, get-end, get-before_end}
use Rattle.scc_array.proofs.Windows.{same_or_not, windows-changed, columns-changed}
use Rattle.scc_array.specs.Sifts.{picked, unflagged, picked_of, unflagged_of, window_with, AreAt}
use Rattle.scc_array.specs.Windows.{Window, empty_window, window_of, windows, pushed, tag_there, IsPackedWindow, IsColumns}

module _ {X : Type 0} where
  -- one more element whose flag is up is picked, and is not kept
  pub kept-up : (fs : List Bool) (xs : List X) (n : ℕ) → slice_get fs n ≡ Some true → unflagged (take (suc n) fs) xs ≡ unflagged (take n fs) xs
  kept-up [] xs n e = absurd (let z : None ≡ Some true = e in cc)
  kept-up (f ∷ fs) [] zero e = refl
  kept-up (f ∷ fs) [] (suc n) e = refl
  kept-up (f ∷ fs) (x ∷ xs) zero e = let t : f ≡ true = cc in ap (λ b. cond b [] (x ∷ [])) t
  kept-up (f ∷ fs) (x ∷ xs) (suc n) e = ap (λ z. cond f z (x ∷ z)) (kept-up fs xs n e)

  pub picked-up : (fs : List Bool) (xs : List X) (n : ℕ) (x : X) → slice_get fs n ≡ Some true → slice_get xs n ≡ Some x → picked (take (suc n) fs) xs ≡ picked (take n fs) xs ++ x ∷ []
  picked-up [] xs n x e h = absurd (let z : None ≡ Some true = e in cc)
  picked-up (f ∷ fs) [] n x e h = absurd (let z : None ≡ Some x = h in cc)
  picked-up (f ∷ fs) (y ∷ xs) zero x e h = let t : f ≡ true = cc in let s : y ≡ x = cc in ap (λ b. cond b (y ∷ []) []) t ∙ ap (λ z. z ∷ []) s
  picked-up (f ∷ fs) (y ∷ xs) (suc n) x e h = ap (λ z. cond f (y ∷ z) z) (picked-up fs xs n x e h) ∙ (elim f as (λ b. cond b (y ∷ (picked (take n fs) xs ++ x ∷ [])) (picked (take n fs) xs ++ x ∷ []) ≡ cond b (y ∷ picked (take n fs) xs) (picked (take n fs) xs) ++ x ∷ []) [ true ↦ refl | false ↦ refl ])

  -- one more element whose flag is down is kept, and is not picked
  pub picked-down : (fs : List Bool) (xs : List X) (n : ℕ) → slice_get fs n ≡ Some false → picked (take (suc n) fs) xs ≡ picked (take n fs) xs
  picked-down [] xs n e = absurd (let z : None ≡ Some false = e in cc)
  picked-down (f ∷ fs) [] zero e = refl
  picked-down (f ∷ fs) [] (suc n) e = refl
  picked-down (f ∷ fs) (x ∷ xs) zero e = let t : f ≡ false = cc in ap (λ b. cond b (x ∷ []) []) t
  picked-down (f ∷ fs) (x ∷ xs) (suc n) e = ap (λ z. cond f (x ∷ z) z) (picked-down fs xs n e)

  pub kept-down : (fs : List Bool) (xs : List X) (n : ℕ) (x : X) → slice_get fs n ≡ Some false → slice_get xs n ≡ Some x → unflagged (take (suc n) fs) xs ≡ unflagged (take n fs) xs ++ x ∷ []
  kept-down [] xs n x e h = absurd (let z : None ≡ Some false = e in cc)
  kept-down (f ∷ fs) [] n x e h = absurd (let z : None ≡ Some x = h in cc)
  kept-down (f ∷ fs) (y ∷ xs) zero x e h = let t : f ≡ false = cc in let s : y ≡ x = cc in ap (λ b. cond b [] (y ∷ [])) t ∙ ap (λ z. z ∷ []) s
  kept-down (f ∷ fs) (y ∷ xs) (suc n) x e h = ap (λ z. cond f z (y ∷ z)) (kept-down fs xs n x e h) ∙ (elim f as (λ b. cond b (unflagged (take n fs) xs ++ x ∷ []) (y ∷ (unflagged (take n fs) xs ++ x ∷ [])) ≡ cond b (unflagged (take n fs) xs) (y ∷ unflagged (take n fs) xs) ++ x ∷ []) [ true ↦ refl | false ↦ refl ])

  -- flags past the last element change nothing
  pub kept-all : (fs : List Bool) (xs : List X) (n : ℕ) → length xs ≤ n → unflagged (take n fs) xs ≡ unflagged fs xs
  kept-all [] [] zero h = refl
  kept-all [] [] (suc n) h = refl
  kept-all [] (x ∷ xs) zero h = absurd (omega arith)
  kept-all [] (x ∷ xs) (suc n) h = refl
  kept-all (f ∷ fs) [] zero h = refl
  kept-all (f ∷ fs) [] (suc n) h = refl
  kept-all (f ∷ fs) (x ∷ xs) zero h = absurd (omega arith)
  kept-all (f ∷ fs) (x ∷ xs) (suc n) h = ap (λ z. cond f z (x ∷ z)) (kept-all fs xs n (omega arith))

  pub picked-all : (fs : List Bool) (xs : List X) (n : ℕ) → length xs ≤ n → picked (take n fs) xs ≡ picked fs xs
  picked-all [] [] zero h = refl
  picked-all [] [] (suc n) h = refl
  picked-all [] (x ∷ xs) zero h = absurd (omega arith)
  picked-all [] (x ∷ xs) (suc n) h = refl
  picked-all (f ∷ fs) [] zero h = refl
  picked-all (f ∷ fs) [] (suc n) h = refl
  picked-all (f ∷ fs) (x ∷ xs) zero h = absurd (omega arith)
  picked-all (f ∷ fs) (x ∷ xs) (suc n) h = ap (λ z. cond f (x ∷ z) z) (picked-all fs xs n (omega arith))

  pub length-kept : {Y : Type 0} (fs : List Bool) (xs : List X) (ys : List Y) → length ys ≡ length xs → length (unflagged fs ys) ≡ length (unflagged fs xs)
  length-kept [] xs ys h = refl
  length-kept (f ∷ fs) [] [] h = refl
  length-kept (f ∷ fs) [] (y ∷ ys) h = absurd (omega arith)
  length-kept (f ∷ fs) (x ∷ xs) [] h = absurd (omega arith)
  length-kept (f ∷ fs) (x ∷ xs) (y ∷ ys) h =
      let ih = length-kept fs xs ys (omega arith) in
      elim f as (λ b. length (cond b (unflagged fs ys) (y ∷ unflagged fs ys)) ≡ length (cond b (unflagged fs xs) (x ∷ unflagged fs xs))) [ true ↦ ih | false ↦ ap suc ih ]

  pub kept-fewer : (fs : List Bool) (xs : List X) → length (unflagged fs xs) ≤ length xs
  kept-fewer [] xs = omega arith
  kept-fewer (f ∷ fs) [] = omega arith
  kept-fewer (f ∷ fs) (x ∷ xs) = let ih = kept-fewer fs xs in elim f as (λ b. length (cond b (unflagged fs xs) (x ∷ unflagged fs xs)) ≤ suc (length xs)) [ true ↦ omega arith | false ↦ omega arith ]

-- f0 is the row at first, f is the row now: the first n slots were looked at, and the elements ks of them stayed
pub record Middle {X : Type 0} (f0 f : ℕ → Option X) (ks : List X) (n : ℕ) : Type 0 where
  pub low : (j : ℕ) → j < length ks → f j ≡ slice_get ks j
  pub hole : (j : ℕ) → length ks ≤ j → j < n → f j ≡ None
  pub high : (j : ℕ) → n ≤ j → j < 32 → f j ≡ f0 j
  pub short : length ks ≤ n

module _ {X : Type 0} where
  pub middle-start : (f : ℕ → Option X) → Middle f f [] 0
  middle-start f = record { low = λ j l. absurd (omega arith); hole = λ j a b. absurd (omega arith); high = λ j a b. refl; short = omega arith }

  module _ (f0 f : ℕ → Option X) (ks : List X) (n : ℕ) (m : Middle f0 f ks n) where
    -- slot n is free now
    pub middle-out : (g : ℕ → Option X) → n < 32 → g n ≡ None → ((j : ℕ) → j ≢ n → g j ≡ f j) → Middle f0 g ks (n + 1)
    middle-out g within gone others = let s = m.short in record {
      low = λ j l. others j (λ e. omega arith) ∙ m.low j l;
      hole = λ j a b. elim (same_or_not j n) [ inl e ↦ ap g e ∙ gone | inr e ↦ others j e ∙ m.hole j a (omega arith) ];
      high = λ j a b. others j (λ e. omega arith) ∙ m.high j (omega arith) b;
      short = omega arith;
    }

    -- the element of slot n stands behind those that stayed
    pub middle-stay : (g : ℕ → Option X) (x : X) → n < 32 → f0 n ≡ Some x → g (length ks) ≡ f n → (n ≢ length ks → g n ≡ None) → ((j : ℕ) → j ≢ n → j ≢ length ks → g j ≡ f j) → Middle f0 g (ks ++ x ∷ []) (n + 1)
    middle-stay g x within was there gone others =
        let s = m.short in
        let k : length (ks ++ x ∷ []) ≡ length ks + 1 = length-append ks (x ∷ []) in
        record {
          low = λ j l. elim (same_or_not j (length ks)) [
            | inl e ↦ ap g e ∙ there ∙ m.high n (omega arith) within ∙ was ∙ sym (get-end ks x j e)
            | inr e ↦ others j (λ z. omega arith) e ∙ m.low j (omega arith) ∙ sym (get-before_end ks x j e)
          ];
          hole = λ j a b. elim (same_or_not j n) [ inl e ↦ ap g e ∙ gone (λ z. omega arith) | inr e ↦ others j e (λ z. omega arith) ∙ m.hole j (omega arith) (omega arith) ];
          high = λ j a b. others j (λ z. omega arith) (λ z. omega arith) ∙ m.high j (omega arith) b;
          short = omega arith;
        }

    -- the slots past those that were looked at are empty
    pub middle-end : ((j : ℕ) → n ≤ j → j < 32 → f0 j ≡ None) → (j : ℕ) → j < 32 → f j ≡ slice_get ks j
    middle-end none j l = elim (dec_lt j (length ks)) [
      | yes h ↦ m.low j h
      | no h ↦ elim (dec_lt j n) [
        | yes k ↦ m.hole j (omega arith) k ∙ sym (get-past ks j (omega arith))
        | no k ↦ m.high j (omega arith) l ∙ none j (omega arith) l ∙ sym (get-past ks j (omega arith))
      ]
    ]

abbrev pub place_view : {E : Type 0} → List (Option E) → ℕ → ℕ → Option E
place_view cells base j = get_or cells (base + j) None

abbrev pub tag_view : List ℕ → ℕ → Option ℕ
tag_view row j = tag_there (get_or row j 0)

-- p entries of w were looked at: `stays` stay, and the others stand in bucket `target` of ws, whose next slot is `next`
pub record Sifts {E : Type 0} (fs : List Bool) (base target first : ℕ) (w : Window E) (ws : List (Window E)) (places0 cells : List (Option E)) (row0 row : List ℕ) (into : List (Window E)) (p stays next : ℕ) : Type 0 where
  pub cells_are : Middle (place_view places0 base) (place_view cells base) (unflagged (take p fs) w.slots) p
  pub tags_are : Middle (tag_view row0) (tag_view row) (unflagged (take p fs) w.tags) p
  pub stayed : stays ≡ length (unflagged (take p fs) w.slots)
  pub moved : into ≡ set ws target (window_with (window_of ws target) (picked_of (take p fs) w))
  pub filled : next ≡ first + length (picked (take p fs) w.slots)
  pub all : next + stays ≡ first + p

module _ {E : Type 0} (fs : List Bool) (base target first : ℕ) (w : Window E) (ws : List (Window E)) (places0 : List (Option E)) (row0 : List ℕ) (at : AreAt places0 row0 base w)
    (cells : List (Option E)) (row : List ℕ) (into : List (Window E)) (p stays next : ℕ) (s : Sifts fs base target first w ws places0 cells row0 row into p stays next) where
  tags-as_many : length (unflagged (take p fs) w.tags) ≡ stays
  tags-as_many = length-kept (take p fs) w.slots w.tags at.same ∙ sym s.stayed

  module _ (l : p < length w.slots) where
    pub sifted-entry : (x : E) × (get_or cells (base + p) None ≡ Some x) × (slice_get w.slots p ≡ Some x)
    sifted-entry = let m = at.most in let g = get-some w.slots p l in (g.0, s.cells_are.high p (omega arith) (omega arith) ∙ at.cells_are p (omega arith) ∙ g.1, g.1)

    sifted-tag : (t : ℕ) × (tag_view row p ≡ Some t) × (slice_get w.tags p ≡ Some t)
    sifted-tag = let m = at.most in let n = at.same in let g = get-some w.tags p (omega arith) in (g.0, s.tags_are.high p (omega arith) (omega arith) ∙ at.tags_are p (omega arith) ∙ g.1, g.1)

    pub sifted-some : 0 < get_or row p 0
    sifted-some = some-positive (get_or row p 0) sifted-tag.0 sifted-tag.1

    one_more : take (p + 1) fs ≡ take (suc p) fs
    one_more = let e : p + 1 ≡ suc p = omega arith in ap (λ m. take m fs) e

    -- the flag of entry p is up
    pub sifts-out : slice_get fs p ≡ Some true → base + p < length cells → p < length row → target < length ws → (e : E) → get_or cells (base + p) None ≡ Some e → (later : List (Window E))
        → later ≡ set into target (pushed (window_of into target) e (get_or row p 0)) → Sifts fs base target first w ws places0 (set cells (base + p) None) row0 (set row p 0) later (p + 1) stays (next + 1)
    sifts-out up lp lr lt e was later put =
        let m = at.most in
        let k1 : (X : Type 0) (xs : List X) → unflagged (take (p + 1) fs) xs ≡ unflagged (take p fs) xs = λ X xs. ap (λ f. unflagged f xs) one_more ∙ kept-up fs xs p up in
        let got : slice_get w.slots p ≡ Some e = sifted-entry.2 ∙ sym sifted-entry.1 ∙ was in
        let t : slice_get w.tags p ≡ Some (get_or row p 0) = sifted-tag.2 ∙ ap Some (sym (tag-some (get_or row p 0) sifted-tag.0 sifted-tag.1)) in
        let q1 : picked (take (p + 1) fs) w.slots ≡ picked (take p fs) w.slots ++ e ∷ [] = ap (λ f. picked f w.slots) one_more ∙ picked-up fs w.slots p e up got in
        let q2 : picked (take (p + 1) fs) w.tags ≡ picked (take p fs) w.tags ++ get_or row p 0 ∷ [] = ap (λ f. picked f w.tags) one_more ∙ picked-up fs w.tags p (get_or row p 0) up t in
        let v : Window E = window_of ws target in
        let v1 : Window E = window_with v (picked_of (take p fs) w) in
        let there : window_of into target ≡ v1 = ap (λ z. window_of z target) s.moved ∙ get_or-set_same ws target v1 empty_window lt in
        let pushed_is : pushed v1 e (get_or row p 0) ≡ window_with v (picked_of (take (p + 1) fs) w) =
        ap (λ (z : List E). let r : Window E = record { slots = z; tags = (v.tags ++ picked (take p fs) w.tags) ++ get_or row p 0 ∷ [] } in r) (append_assoc v.slots (picked (take p fs) w.slots) (e ∷ []) ∙ ap (λ z. v.slots ++ z) (sym q1))
        ∙ ap (λ (z : List ℕ). let r : Window E = record { slots = v.slots ++ picked (take (p + 1) fs) w.slots; tags = z } in r) (append_assoc v.tags (picked (take p fs) w.tags) (get_or row p 0 ∷ []) ∙ ap (λ z. v.tags ++ z) (sym q2)) in
        record {
          cells_are = subst (λ ks. Middle (place_view places0 base) (place_view (set cells (base + p) None) base) ks (p + 1)) (sym (k1 E w.slots))
              (middle-out _ _ _ p s.cells_are (place_view (set cells (base + p) None) base) (omega arith) (get_or-set_same cells (base + p) None None lp) (λ j h. get_or-set_other cells (base + p) (base + j) None None (λ z. h (omega arith))));
          tags_are = subst (λ ks. Middle (tag_view row0) (tag_view (set row p 0)) ks (p + 1)) (sym (k1 ℕ w.tags))
              (middle-out _ _ _ p s.tags_are (tag_view (set row p 0)) (omega arith) (ap tag_there (get_or-set_same row p 0 0 lr)) (λ j h. ap tag_there (get_or-set_other row p j 0 0 h)));
          stayed = s.stayed ∙ ap length (sym (k1 E w.slots));
          moved = put ∙ ap (λ z. set into target (pushed z e (get_or row p 0))) there ∙ ap (λ z. set z target (pushed v1 e (get_or row p 0))) s.moved ∙ set-set ws target v1 (pushed v1 e (get_or row p 0)) ∙ ap (set ws target) pushed_is;
          filled = let n = ap length q1 ∙ length-append (picked (take p fs) w.slots) (e ∷ []) in let f = s.filled in omega arith;
          all = let a = s.all in omega arith;
        }

  -- all entries were looked at
  module _ (h : length w.slots ≤ p) where
    none-past : (j : ℕ) → p ≤ j → j < 32 → place_view places0 base j ≡ None
    none-past j a b = at.cells_are j b ∙ get-past w.slots j (omega arith)

    none-tagged : (j : ℕ) → p ≤ j → j < 32 → tag_view row0 j ≡ None
    none-tagged j a b = let n = at.same in at.tags_are j b ∙ get-past w.tags j (omega arith)

    pub sifts-kept : AreAt cells row base (unflagged_of fs w)
    sifts-kept =
        let n = at.same in
        let k1 = kept-all fs w.slots p h in
        let k2 = kept-all fs w.tags p (omega arith) in
        record {
          cells_are = λ j l. middle-end _ _ _ p s.cells_are none-past j l ∙ ap (λ z. slice_get z j) k1;
          tags_are = λ j l. middle-end _ _ _ p s.tags_are none-tagged j l ∙ ap (λ z. slice_get z j) k2;
          most = let f = kept-fewer fs w.slots in let m = at.most in omega arith;
          same = length-kept fs w.slots w.tags at.same;
        }

    pub sifts-moved : into ≡ set ws target (window_with (window_of ws target) (picked_of fs w))
    sifts-moved =
        let n = at.same in
        s.moved ∙ ap (λ (z : List E). set ws target (let r : Window E = record { slots = (window_of ws target).slots ++ z; tags = (window_of ws target).tags ++ picked (take p fs) w.tags } in r)) (picked-all fs w.slots p h)
        ∙ ap (λ (z : List ℕ). set ws target (let r : Window E = record { slots = (window_of ws target).slots ++ picked fs w.slots; tags = (window_of ws target).tags ++ z } in r)) (picked-all fs w.tags p (omega arith))

-- bucket b of the columns is read from its cells and its row of tags
pub packed-at : {E : Type 0} (rows : List (List ℕ)) (cells : List (Option E)) (b : ℕ) (w : Window E) (row : List ℕ) → IsPackedWindow rows cells b w.slots w.tags → get_or rows b [] ≡ row → AreAt cells row (32 * b) w
packed-at rows cells b w row p e = record { cells_are = p.cells_are; tags_are = λ j h. ap (λ (r : List ℕ). tag_view r j) (sym e) ∙ p.tags_are j h; most = p.most; same = p.same }

at-packed : {E : Type 0} (rows : List (List ℕ)) (new : List (Option E)) (b : ℕ) (w : Window E) (row : List ℕ) → b < length rows → AreAt new row (32 * b) w → IsPackedWindow (set rows b row) new b w.slots w.tags
at-packed rows new b w row l a = record { cells_are = a.cells_are; tags_are = λ j h. ap (λ (r : List ℕ). tag_view r j) (get_or-set_same rows b row [] l) ∙ a.tags_are j h; most = a.most; same = a.same }

module _ {E : Type 0} (rows : List (List ℕ)) (cells : List (Option E)) (kept_there : IsColumns rows cells) (b : ℕ) (within : b < length rows) (new : List (Option E)) (row : List ℕ) (wide : length row ≡ 32) (count : length new ≡ length cells)
    (outside : (q : ℕ) → (q < 32 * b) ⊎ (32 * b + 32 ≤ q) → get_or new q None ≡ get_or cells q None) (w : Window E) (at : AreAt new row (32 * b) w) where
  pub windows-parted : windows (set rows b row) new ≡ set (windows rows cells) b w
  windows-parted = windows-changed rows cells new kept_there b row within wide count outside w (at-packed rows new b w row within at)

  pub columns-parted : IsColumns (set rows b row) new
  columns-parted = columns-changed rows cells new kept_there b row within wide count outside w (at-packed rows new b w row within at)
