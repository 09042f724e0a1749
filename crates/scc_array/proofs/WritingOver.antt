-- An entry written over.
use Rattle.std.proofs.Common.{◌≡◌, ℕ, ◌+◌, ◌*◌, ◌<◌, ◌≤◌, ◌⊎◌, List, [], length, set, get_or, Option, Some, None, sym, ap, ◌∙◌, subst, arith, inl, inr, length-set}
use Rattle.std.proofs.lemmas.List.{get_or-set_same, get_or-set_other, set-get_or}
use Rattle.std.specs.List.{slice_get}
use Rattle.scc_array.proofs.Gets.{get-set, get-set_other}
use Rattle.scc_array.proofs.Windows.{windows-changed, columns-changed, same_or_not}
use Rattle.scc_array.specs.Windows.{Window, windows, tag_there, IsPackedWindow, IsColumns}

module _ {E : Type 0} (rows : List (List ℕ)) (cells : List (Option E)) (kept : IsColumns rows cells) (b : ℕ) (within : b < length rows)
    (xs : List E) (ts : List ℕ) (packed : IsPackedWindow rows cells b xs ts) (i : ℕ) (there : i < length xs) (x : E) where
  abbrev new : List (Option E)
  new = set cells (32 * b + i) (Some x)

  abbrev window : Window E
  window = record { slots = set xs i x; tags = ts }

  outside : (p : ℕ) → (p < 32 * b) ⊎ (32 * b + 32 ≤ p) → get_or new p None ≡ get_or cells p None
  outside p o = let m = packed.most in get_or-set_other cells (32 * b + i) p (Some x) None (λ e. elim o [ inl l ↦ omega arith | inr l ↦ omega arith ])

  packed-over : IsPackedWindow (set rows b (get_or rows b [])) new b (set xs i x) ts
  packed-over =
      let s = kept.sized in let m = packed.most in
      record {
        cells_are = λ j h. elim (same_or_not j i) [
          | inl q ↦ ap (λ k. get_or new (32 * b + k) None) q ∙ get_or-set_same cells (32 * b + i) (Some x) None (omega arith) ∙ sym (get-set xs i x there) ∙ ap (slice_get (set xs i x)) (sym q)
          | inr q ↦ get_or-set_other cells (32 * b + i) (32 * b + j) (Some x) None (λ e. q (omega arith)) ∙ packed.cells_are j h ∙ sym (get-set_other xs i j x q)
        ];
        tags_are = λ j h. ap (λ r. tag_there (get_or (get_or r b []) j 0)) (set-get_or rows b []) ∙ packed.tags_are j h;
        most = let n = length-set xs i x in omega arith;
        same = packed.same ∙ sym (length-set xs i x);
      }

  pub windows-written : windows rows new ≡ set (windows rows cells) b window
  windows-written = ap (λ r. windows r new) (sym (set-get_or rows b [])) ∙ windows-changed rows cells new kept b (get_or rows b []) within (kept.lanes b within) (length-set cells (32 * b + i) (Some x)) outside window packed-over

  pub columns-written : IsColumns rows new
  columns-written = subst (λ r. IsColumns r new) (set-get_or rows b []) (columns-changed rows cells new kept b (get_or rows b []) within (kept.lanes b within) (length-set cells (32 * b + i) (Some x)) outside window packed-over)
