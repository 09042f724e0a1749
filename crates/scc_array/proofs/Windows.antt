-- Columns, bucket by bucket.
use Rattle.std.proofs.Common.{◌≡◌, ◌≢◌, ℕ, ◌+◌, ◌*◌, ◌^◌, ◌<◌, ◌≤◌, ◌⊎◌, List, [], length, set, get_or, Option, None, sym, ap, ◌∙◌, subst, inl, inr, arith, length-set}
use Rattle.std.proofs.lemmas.List.{ext_get_or, get_or-set_same, get_or-set_other}
use Rattle.std.proofs.lemmas.List.FromFn.{get_or-map-range_with_len, length-map-range_with_len}
use native.Mathlib.Decide.{dec_lt}
use Rattle.scc_array.proofs.Gathering.{gather-is}
use Rattle.scc_array.specs.Windows.{Window, empty_window, window_of, cell_at, tag_at, window_at, windows, IsPackedWindow, IsColumns}

pub same_or_not : (a b : ℕ) → (a ≡ b) ⊎ (a ≢ b)
same_or_not a b = elim (dec_lt a b) [
  | yes l ↦ inr (λ e. omega arith)
  | no h ↦ elim (dec_lt b a) [ yes l ↦ inr (λ e. omega arith) | no k ↦ inl (omega arith) ]
]

module _ {E : Type 0} (rows : List (List ℕ)) (cells : List (Option E)) where
  pub length-windows : length (windows rows cells) ≡ length rows
  length-windows = length-map-range_with_len (window_at rows cells) 0 (length rows)

  pub window-there : (i : ℕ) → i < length rows → window_of (windows rows cells) i ≡ window_at rows cells i
  window-there i h = get_or-map-range_with_len (window_at rows cells) 0 (length rows) i i empty_window h (omega arith)

  -- the window of the packed slots and tags is the one that `window_at` reads
  pub window-is : (i : ℕ) (w : Window E) → IsPackedWindow rows cells i w.slots w.tags → window_at rows cells i ≡ w
  window-is i w p = rw (gather-is (cell_at rows cells i) 32 w.slots p.most p.cells_are, gather-is (tag_at rows cells i) 32 w.tags (let n = p.same in let m = p.most in omega arith) p.tags_are)

  module _ (ws : List (Window E)) (count : length ws ≡ length rows) (each : (i : ℕ) → i < length rows → IsPackedWindow rows cells i (window_of ws i).slots (window_of ws i).tags) where
    pub windows-are : windows rows cells ≡ ws
    windows-are = ext_get_or empty_window (windows rows cells) ws (length-windows ∙ sym count)
        (λ i h. let l : i < length rows = let n = length-windows in omega arith in window-there i l ∙ window-is i (window_of ws i) (each i l))

    pub columns-are : length rows ≤ 2 ^ 58 → length cells ≡ 32 * length rows → ((i : ℕ) → i < length rows → length (get_or rows i []) ≡ 32) → IsColumns rows cells
    columns-are few sized lanes = record {
      few = few;
      sized = sized;
      lanes = lanes;
      packed = λ i h. subst (λ (w : Window E). IsPackedWindow rows cells i w.slots w.tags) (sym (window-is i (window_of ws i) (each i h))) (each i h);
    }

-- one row of tags and its cells change
module _ {E : Type 0} (rows : List (List ℕ)) (cells new : List (Option E)) (kept : IsColumns rows cells) (b : ℕ) (row : List ℕ) (within : b < length rows) (wide : length row ≡ 32)
    (count : length new ≡ length cells) (outside : (p : ℕ) → (p < 32 * b) ⊎ (32 * b + 32 ≤ p) → get_or new p None ≡ get_or cells p None)
    (w : Window E) (here : IsPackedWindow (set rows b row) new b w.slots w.tags) where
  abbrev changed : List (Window E)
  changed = set (windows rows cells) b w

  other-slot : (i j : ℕ) → j < 32 → i ≢ b → (32 * i + j < 32 * b) ⊎ (32 * b + 32 ≤ 32 * i + j)
  other-slot i j h e = elim (dec_lt i b) [ yes l ↦ inl (omega arith) | no l ↦ inr (omega arith) ]

  other-packed : (i : ℕ) (v : Window E) → i ≢ b → IsPackedWindow rows cells i v.slots v.tags → IsPackedWindow (set rows b row) new i v.slots v.tags
  other-packed i v e p = record {
    cells_are = λ j h. outside (32 * i + j) (other-slot i j h e) ∙ p.cells_are j h;
    tags_are = λ j h. rw (get_or-set_other rows b i row [] e) (p.tags_are j h);
    most = p.most;
    same = p.same;
  }

  each-packed : (i : ℕ) → i < length (set rows b row) → IsPackedWindow (set rows b row) new i (window_of changed i).slots (window_of changed i).tags
  each-packed i h =
      let n = length-windows rows cells in let m = length-set rows b row in
      elim (same_or_not i b) [
        | inl e ↦ subst (λ k. IsPackedWindow (set rows b row) new k (window_of changed k).slots (window_of changed k).tags) (sym e)
            (subst (λ (v : Window E). IsPackedWindow (set rows b row) new b v.slots v.tags) (sym (get_or-set_same (windows rows cells) b w empty_window (omega arith))) here)
        | inr e ↦ subst (λ (v : Window E). IsPackedWindow (set rows b row) new i v.slots v.tags) (sym (get_or-set_other (windows rows cells) b i w empty_window e ∙ window-there rows cells i (omega arith)))
            (other-packed i (window_at rows cells i) e (kept.packed i (omega arith)))
      ]

  changed-count : length changed ≡ length (set rows b row)
  changed-count = length-set (windows rows cells) b w ∙ length-windows rows cells ∙ sym (length-set rows b row)

  pub windows-changed : windows (set rows b row) new ≡ set (windows rows cells) b w
  windows-changed = windows-are (set rows b row) new changed changed-count each-packed

  changed-lanes : (i : ℕ) → i < length (set rows b row) → length (get_or (set rows b row) i []) ≡ 32
  changed-lanes i h = let m = length-set rows b row in elim (same_or_not i b) [
    | inl e ↦ subst (λ k. length (get_or (set rows b row) k []) ≡ 32) (sym e) (ap length (get_or-set_same rows b row [] within) ∙ wide)
    | inr e ↦ ap length (get_or-set_other rows b i row [] e) ∙ kept.lanes i (omega arith)
  ]

  pub columns-changed : IsColumns (set rows b row) new
  columns-changed =
      let m = length-set rows b row in let f = kept.few in let s = kept.sized in
      columns-are (set rows b row) new changed changed-count each-packed (omega arith) (omega arith) changed-lanes
