-- A removal of an entry from a bucket: the later entries move up.
use Rattle.std.proofs.Common.{◌≡◌, ◌≢◌, ℕ, suc, ◌+◌, ◌-◌, ◌*◌, ◌<◌, ◌≤◌, ◌⊎◌, List, [], length, set, get_or, Option, None, sym, ap, ◌∙◌, arith, inl, inr, length-set}
use Rattle.std.proofs.lemmas.List.{get_or-set_same, get_or-set_other}
use Rattle.std.specs.List.{slice_get, remove}
use native.Mathlib.Decide.{dec_lt}
use Rattle.scc_array.proofs.Gets.{get-past, get-removed_before, get-removed_after, length-removed}
use Rattle.scc_array.proofs.Windows.{windows-changed, columns-changed, same_or_not}
use Rattle.scc_array.specs.Shifts.{Closes}
use Rattle.scc_array.specs.Windows.{Window, windows, tag_there, IsPackedWindow, IsColumns}

module _ {E : Type 0} (rows : List (List ℕ)) (cells : List (Option E)) (kept : IsColumns rows cells) (b : ℕ) (within : b < length rows)
    (xs : List E) (ts : List ℕ) (packed : IsPackedWindow rows cells b xs ts) (i : ℕ) (there : i < length xs)
    (new : List (Option E)) (row_left : List ℕ) (closed : Closes None (set cells (32 * b + i) None) (32 * b + i) (32 * b + (length xs - 1)) new) (closed_row : Closes 0 (get_or rows b []) i (length xs - 1) row_left) where
  abbrev last : ℕ
  last = length xs - 1

  abbrev window : Window E
  window = record { slots = remove xs i; tags = remove ts i }

  wide : length row_left ≡ 32
  wide = closed_row.count ∙ kept.lanes b within

  count : length new ≡ length cells
  count = closed.count ∙ length-set cells (32 * b + i) None

  gap-other : (p : ℕ) → p ≢ 32 * b + i → get_or (set cells (32 * b + i) None) p None ≡ get_or cells p None
  gap-other p e = get_or-set_other cells (32 * b + i) p None None e

  outside : (p : ℕ) → (p < 32 * b) ⊎ (32 * b + 32 ≤ p) → get_or new p None ≡ get_or cells p None
  outside p o =
      let m = packed.most in
      elim o [ inl l ↦ closed.others p (inl (omega arith)) ∙ gap-other p (λ e. omega arith) | inr l ↦ closed.others p (inr (omega arith)) ∙ gap-other p (λ e. omega arith) ]

  slot-left : (j : ℕ) → j < 32 → get_or new (32 * b + j) None ≡ slice_get (remove xs i) j
  slot-left j h =
      let m = packed.most in
      elim (dec_lt j i) [
        | yes l ↦ closed.others (32 * b + j) (inl (omega arith)) ∙ gap-other (32 * b + j) (λ e. omega arith) ∙ packed.cells_are j h ∙ sym (get-removed_before xs i j l)
        | no l ↦ elim (dec_lt j last) [
          | yes k ↦
              let next : (32 * b + j) + 1 ≡ 32 * b + suc j = omega arith in
              closed.moved (32 * b + j) (omega arith) (omega arith) ∙ gap-other ((32 * b + j) + 1) (λ e. omega arith) ∙ ap (λ p. get_or cells p None) next ∙ packed.cells_are (suc j) (omega arith) ∙ sym (get-removed_after xs i j (omega arith))
          | no k ↦ elim (same_or_not j last) [
            | inl e ↦ ap (λ n. get_or new (32 * b + n) None) e ∙ closed.end ∙ sym (get-past xs (suc j) (omega arith)) ∙ sym (get-removed_after xs i j (omega arith))
            | inr e ↦ closed.others (32 * b + j) (inr (omega arith)) ∙ gap-other (32 * b + j) (λ h. omega arith) ∙ packed.cells_are j h ∙ get-past xs j (omega arith) ∙ sym (get-past xs (suc j) (omega arith)) ∙ sym (get-removed_after xs i j (omega arith))
          ]
        ]
      ]

  tag-left : (j : ℕ) → j < 32 → tag_there (get_or row_left j 0) ≡ slice_get (remove ts i) j
  tag-left j h =
      let m = packed.most in let same = packed.same in
      elim (dec_lt j i) [
        | yes l ↦ ap tag_there (closed_row.others j (inl l)) ∙ packed.tags_are j h ∙ sym (get-removed_before ts i j l)
        | no l ↦ elim (dec_lt j last) [
          | yes k ↦
              let next : j + 1 ≡ suc j = omega arith in
              ap tag_there (closed_row.moved j (omega arith) k) ∙ ap (λ n. tag_there (get_or (get_or rows b []) n 0)) next ∙ packed.tags_are (suc j) (omega arith) ∙ sym (get-removed_after ts i j (omega arith))
          | no k ↦ elim (same_or_not j last) [
            | inl e ↦ ap (λ n. tag_there (get_or row_left n 0)) e ∙ ap tag_there closed_row.end ∙ sym (get-past ts (suc j) (omega arith)) ∙ sym (get-removed_after ts i j (omega arith))
            | inr e ↦ ap tag_there (closed_row.others j (inr (omega arith))) ∙ packed.tags_are j h ∙ get-past ts j (omega arith) ∙ sym (get-past ts (suc j) (omega arith)) ∙ sym (get-removed_after ts i j (omega arith))
          ]
        ]
      ]

  packed-left : IsPackedWindow (set rows b row_left) new b (remove xs i) (remove ts i)
  packed-left = record {
    cells_are = slot-left;
    tags_are = λ j h. ap (λ (r : List ℕ). tag_there (get_or r j 0)) (get_or-set_same rows b row_left [] within) ∙ tag-left j h;
    most = let n = length-removed xs i there in let m = packed.most in omega arith;
    same = let s = packed.same in let n = length-removed xs i there in let l = length-removed ts i (omega arith) in omega arith;
  }

  pub windows-shifted : windows (set rows b row_left) new ≡ set (windows rows cells) b window
  windows-shifted = windows-changed rows cells new kept b row_left within wide count outside window packed-left

  pub columns-shifted : IsColumns (set rows b row_left) new
  columns-shifted = columns-changed rows cells new kept b row_left within wide count outside window packed-left
