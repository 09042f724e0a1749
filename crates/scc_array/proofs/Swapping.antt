-- A removal of an entry from a bucket: the last entry takes its place.
use Rattle.std.proofs.Common.{◌≡◌, ◌≢◌, ℕ, ◌+◌, ◌-◌, ◌*◌, ◌<◌, ◌≤◌, ◌⊎◌, List, [], length, set, get_or, Option, None, sym, ap, ◌∙◌, arith, inl, inr, length-set}
use Rattle.std.proofs.lemmas.List.{get_or-set_same, get_or-set_other}
use Rattle.std.specs.List.{slice_get, swap_remove}
use native.Mathlib.Decide.{dec_lt}
use Rattle.scc_array.proofs.Gets.{get-past, get-swapped_here, get-swapped_other, get-swapped_past, length-swapped}
use Rattle.scc_array.proofs.Windows.{windows-changed, columns-changed, same_or_not}
use Rattle.scc_array.specs.Windows.{Window, windows, tag_there, IsPackedWindow, IsColumns}

module _ {E : Type 0} (rows : List (List ℕ)) (cells : List (Option E)) (kept : IsColumns rows cells) (b : ℕ) (within : b < length rows)
    (xs : List E) (ts : List ℕ) (packed : IsPackedWindow rows cells b xs ts) (i : ℕ) (there : i < length xs) (x : E) where
  abbrev pub last : ℕ
  last = length xs - 1

  abbrev row : List ℕ
  row = get_or rows b []

  abbrev pub row_left : List ℕ
  row_left = set (set row i (get_or row last 0)) last 0

  wide : length row_left ≡ 32
  wide = length-set (set row i (get_or row last 0)) last 0 ∙ length-set row i (get_or row last 0) ∙ kept.lanes b within

  abbrev window : Window E
  window = record { slots = swap_remove xs i x; tags = swap_remove ts i 0 }

  tag-left : (j : ℕ) → j < 32 → tag_there (get_or row_left j 0) ≡ slice_get (swap_remove ts i 0) j
  tag-left j h =
      let same = packed.same in let m = packed.most in let lanes = kept.lanes b within in let l = length-set row i (get_or row last 0) in
      let end : length ts - 1 ≡ last = ap (λ n. n - 1) same in
      elim (same_or_not j last) [
        | inl q ↦ ap (λ k. tag_there (get_or row_left k 0)) q ∙ ap tag_there (get_or-set_same (set row i (get_or row last 0)) last 0 0 (omega arith)) ∙ sym (get-swapped_past ts i 0 (omega arith) j (omega arith))
        | inr q ↦ ap tag_there (get_or-set_other (set row i (get_or row last 0)) last j 0 0 q) ∙ elim (dec_lt j last) [
          | yes k ↦ elim (same_or_not j i) [
            | inl p ↦ ap (λ n. tag_there (get_or (set row i (get_or row last 0)) n 0)) p ∙ ap tag_there (get_or-set_same row i (get_or row last 0) 0 (omega arith)) ∙ packed.tags_are last (omega arith)
                ∙ ap (slice_get ts) (sym end) ∙ sym (get-swapped_here ts i 0 (omega arith) (omega arith)) ∙ ap (slice_get (swap_remove ts i 0)) (sym p)
            | inr p ↦ ap tag_there (get_or-set_other row i j (get_or row last 0) 0 p) ∙ packed.tags_are j h ∙ sym (get-swapped_other ts i 0 (omega arith) j (omega arith) p)
          ]
          | no k ↦ ap tag_there (get_or-set_other row i j (get_or row last 0) 0 (λ e. q (omega arith))) ∙ packed.tags_are j h ∙ get-past ts j (omega arith) ∙ sym (get-swapped_past ts i 0 (omega arith) j (omega arith))
        ]
      ]

  module _ (new : List (Option E)) (count : length new ≡ length cells) (outside : (p : ℕ) → (p < 32 * b) ⊎ (32 * b + 32 ≤ p) → get_or new p None ≡ get_or cells p None)
      (at_last : get_or new (32 * b + last) None ≡ None) (at_place : i ≢ last → get_or new (32 * b + i) None ≡ get_or cells (32 * b + last) None)
      (others : (j : ℕ) → j ≢ i → j ≢ last → get_or new (32 * b + j) None ≡ get_or cells (32 * b + j) None) where
    slot-left : (j : ℕ) → j < 32 → get_or new (32 * b + j) None ≡ slice_get (swap_remove xs i x) j
    slot-left j h =
        let m = packed.most in
        elim (same_or_not j last) [
          | inl q ↦ ap (λ k. get_or new (32 * b + k) None) q ∙ at_last ∙ sym (get-swapped_past xs i x there j (omega arith))
          | inr q ↦ elim (dec_lt j last) [
            | yes k ↦ elim (same_or_not j i) [
              | inl p ↦ ap (λ n. get_or new (32 * b + n) None) p ∙ at_place (λ e. q (p ∙ e)) ∙ packed.cells_are last (omega arith) ∙ sym (get-swapped_here xs i x there (omega arith)) ∙ ap (slice_get (swap_remove xs i x)) (sym p)
              | inr p ↦ others j p q ∙ packed.cells_are j h ∙ sym (get-swapped_other xs i x there j k p)
            ]
            | no k ↦ others j (λ e. q (omega arith)) q ∙ packed.cells_are j h ∙ get-past xs j (omega arith) ∙ sym (get-swapped_past xs i x there j (omega arith))
          ]
        ]

    packed-left : IsPackedWindow (set rows b row_left) new b (swap_remove xs i x) (swap_remove ts i 0)
    packed-left =
        let m = packed.most in let n = length-swapped xs i x there in
        record {
          cells_are = slot-left;
          tags_are = λ j h. ap (λ (r : List ℕ). tag_there (get_or r j 0)) (get_or-set_same rows b row_left [] within) ∙ tag-left j h;
          most = omega arith;
          same = length-swapped ts i 0 (let s = packed.same in omega arith) ∙ ap (λ k. k - 1) packed.same ∙ sym n;
        }

    pub windows-swapped : windows (set rows b row_left) new ≡ set (windows rows cells) b window
    windows-swapped = windows-changed rows cells new kept b row_left within wide count outside window packed-left

    pub columns-swapped : IsColumns (set rows b row_left) new
    columns-swapped = columns-changed rows cells new kept b row_left within wide count outside window packed-left

  -- the cells after the last entry has moved into the place of the removed entry
  abbrev pub over_place : List (Option E)
  over_place = set (set cells (32 * b + i) (get_or cells (32 * b + last) None)) (32 * b + last) None

  abbrev at_place : List (Option E)
  at_place = set cells (32 * b + i) (get_or cells (32 * b + last) None)

  count_place : length at_place ≡ length cells
  count_place = length-set cells (32 * b + i) (get_or cells (32 * b + last) None)

  clear : (p : ℕ) → (p < 32 * b) ⊎ (32 * b + 32 ≤ p) → (j : ℕ) → j < 32 → p ≢ 32 * b + j
  clear p o j h e = elim o [ inl l ↦ omega arith | inr l ↦ omega arith ]

  outside_over : (p : ℕ) → (p < 32 * b) ⊎ (32 * b + 32 ≤ p) → get_or over_place p None ≡ get_or cells p None
  outside_over p o = let m = packed.most in
      get_or-set_other at_place (32 * b + last) p None None (clear p o last (omega arith)) ∙ get_or-set_other cells (32 * b + i) p (get_or cells (32 * b + last) None) None (clear p o i (omega arith))

  at_last_over : get_or over_place (32 * b + last) None ≡ None
  at_last_over = let s = kept.sized in let m = packed.most in get_or-set_same at_place (32 * b + last) None None (omega (arith, count_place))

  at_place_over : i ≢ last → get_or over_place (32 * b + i) None ≡ get_or cells (32 * b + last) None
  at_place_over n = let s = kept.sized in let m = packed.most in
      get_or-set_other at_place (32 * b + last) (32 * b + i) None None (λ e. n (omega arith)) ∙ get_or-set_same cells (32 * b + i) (get_or cells (32 * b + last) None) None (omega arith)

  others_over : (j : ℕ) → j ≢ i → j ≢ last → get_or over_place (32 * b + j) None ≡ get_or cells (32 * b + j) None
  others_over j p q =
      get_or-set_other at_place (32 * b + last) (32 * b + j) None None (λ e. q (omega arith)) ∙ get_or-set_other cells (32 * b + i) (32 * b + j) (get_or cells (32 * b + last) None) None (λ e. p (omega arith))

  pub windows-over : windows (set rows b row_left) over_place ≡ set (windows rows cells) b window
  windows-over = windows-swapped over_place (length-set at_place (32 * b + last) None ∙ count_place) outside_over at_last_over at_place_over others_over

  pub columns-over : IsColumns (set rows b row_left) over_place
  columns-over = columns-swapped over_place (length-set at_place (32 * b + last) None ∙ count_place) outside_over at_last_over at_place_over others_over
