-- Columns in which all slots are free.
use Rattle.std.proofs.Common.{◌≡◌, ℕ, ◌+◌, ◌*◌, ◌^◌, ◌<◌, ◌≤◌, List, [], length, get_or, replicate, Option, None, refl, sym, ap, ◌∙◌, subst, arith}
use Rattle.std.proofs.lemmas.List.{ext_get_or, get_or-replicate, length-replicate}
use Rattle.scc_array.proofs.Windows.{windows-are, columns-are}
use Rattle.scc_array.specs.Windows.{Window, empty_window, window_of, windows, tag_there, IsPackedWindow, IsColumns}

abbrev pub blank : List ℕ
blank = replicate 32 0

abbrev pub rows : ℕ → List (List ℕ)
rows n = replicate n blank

-- a clone of a row of zeros is equal to that row
pub blank-cloned : (y : List ℕ) → length y ≡ 32 → ((i : ℕ) → i < 32 → get_or y i 0 ≡ get_or blank i 0) → y ≡ blank
blank-cloned y long each = ext_get_or 0 y blank long (λ i h. each i (omega arith))

module _ {E : Type 0} (n : ℕ) where
  abbrev pub cells : List (Option E)
  cells = replicate (32 * n) None

  abbrev pub ws : List (Window E)
  ws = replicate n empty_window

  each : (i : ℕ) → i < length (rows n) → IsPackedWindow (rows n) cells i (window_of ws i).slots (window_of ws i).tags
  each i h =
      let l : i < n = let m = length-replicate n blank in omega arith in
      subst (λ (w : Window E). IsPackedWindow (rows n) cells i w.slots w.tags) (sym (get_or-replicate n i empty_window empty_window l)) (record {
        cells_are = λ j k. get_or-replicate (32 * n) (32 * i + j) None None (omega arith);
        tags_are = λ j k. ap (λ (r : List ℕ). tag_there (get_or r j 0)) (get_or-replicate n i blank [] l) ∙ ap tag_there (get_or-replicate 32 j 0 0 k);
        most = omega arith;
        same = refl;
      })

  pub windows-empty : windows (rows n) cells ≡ ws
  windows-empty = windows-are (rows n) cells ws (length-replicate n (empty_window {E = E}) ∙ sym (length-replicate n blank)) each

  pub columns-empty : n ≤ 2 ^ 58 → IsColumns (rows n) cells
  columns-empty h = columns-are (rows n) cells ws (length-replicate n (empty_window {E = E}) ∙ sym (length-replicate n blank)) each (let m = length-replicate n blank in omega arith) (length-replicate (32 * n) None ∙ ap (λ k. 32 * k) (sym (length-replicate n blank)))
      (λ i k. ap length (get_or-replicate n i blank [] (let m = length-replicate n blank in omega arith)))
