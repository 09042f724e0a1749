-- An entry is put into the next slot of a bucket.
use Rattle.std.proofs.Common.{◌≡◌, ℕ, ◌+◌, ◌*◌, ◌<◌, ◌≤◌, ◌⊎◌, List, [], ◌∷◌, ◌++◌, length, set, get_or, Option, Some, None, sym, ap, ◌∙◌, arith, inl, inr, length-set, length-append}
use Rattle.std.proofs.lemmas.List.{get_or-set_same, get_or-set_other}
use Rattle.scc_array.proofs.Counting.{tag-there}
use Rattle.scc_array.proofs.Gets.{get-end, get-before_end}
use Rattle.scc_array.proofs.Windows.{windows-changed, columns-changed, same_or_not}
use Rattle.scc_array.specs.Windows.{Window, windows, tag_there, IsPackedWindow, IsColumns}

module _ {E : Type 0} (rows : List (List ℕ)) (cells : List (Option E)) (kept : IsColumns rows cells) (b : ℕ) (within : b < length rows)
    (xs : List E) (ts : List ℕ) (packed : IsPackedWindow rows cells b xs ts) (short : length xs < 32) (e : E) (t : ℕ) (some : 0 < t) where
  abbrev k : ℕ
  k = length xs

  abbrev row : List ℕ
  row = get_or rows b []

  abbrev new_places : List (Option E)
  new_places = set cells (32 * b + k) (Some e)

  abbrev new_rows : List (List ℕ)
  new_rows = set rows b (set row k t)

  wide : length (set row k t) ≡ 32
  wide = length-set row k t ∙ kept.lanes b within

  outside : (p : ℕ) → (p < 32 * b) ⊎ (32 * b + 32 ≤ p) → get_or new_places p None ≡ get_or cells p None
  outside p o = get_or-set_other cells (32 * b + k) p (Some e) None (λ same. elim o [ inl l ↦ omega arith | inr l ↦ omega arith ])

  packed-pushed : IsPackedWindow new_rows new_places b (xs ++ e ∷ []) (ts ++ t ∷ [])
  packed-pushed =
      let n = kept.sized in let same = packed.same in let lanes = kept.lanes b within in
      record {
        cells_are = λ j h. elim (same_or_not j k) [
          | inl q ↦ ap (λ i. get_or new_places (32 * b + i) None) q ∙ get_or-set_same cells (32 * b + k) (Some e) None (omega arith) ∙ sym (get-end xs e j q)
          | inr q ↦ get_or-set_other cells (32 * b + k) (32 * b + j) (Some e) None (λ p. q (omega arith)) ∙ packed.cells_are j h ∙ sym (get-before_end xs e j q)
        ];
        tags_are = λ j h. ap (λ r. tag_there (get_or r j 0)) (get_or-set_same rows b (set row k t) [] within) ∙ elim (same_or_not j k) [
          | inl q ↦ ap (λ i. tag_there (get_or (set row k t) i 0)) q ∙ ap tag_there (get_or-set_same row k t 0 (omega arith)) ∙ tag-there t some ∙ sym (get-end ts t j (q ∙ sym same))
          | inr q ↦ ap tag_there (get_or-set_other row k j t 0 q) ∙ packed.tags_are j h ∙ sym (get-before_end ts t j (λ p. q (p ∙ same)))
        ];
        most = omega (arith, length-append xs (e ∷ []));
        same = length-append ts (t ∷ []) ∙ ap (λ m. m + 1) same ∙ sym (length-append xs (e ∷ []));
      }

  abbrev window : Window E
  window = record { slots = xs ++ e ∷ []; tags = ts ++ t ∷ [] }

  pub windows-pushed : windows new_rows new_places ≡ set (windows rows cells) b window
  windows-pushed = windows-changed rows cells new_places kept b (set row k t) within wide (length-set cells (32 * b + k) (Some e)) outside window packed-pushed

  pub columns-pushed : IsColumns new_rows new_places
  columns-pushed = columns-changed rows cells new_places kept b (set row k t) within wide (length-set cells (32 * b + k) (Some e)) outside window packed-pushed
