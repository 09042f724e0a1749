-- Columns whose buckets have no entries.
use Rattle.std.proofs.Common.{◌≡◌, ◌≢◌, zero, suc, ℕ, ◌+◌, ◌*◌, ◌/◌, ◌%◌, ◌<◌, List, [], length, get_or, Option, Some, None, refl, sym, ap, ◌∙◌, arith}
use Rattle.std.proofs.lemmas.List.{get_or_past}
use Rattle.std.specs.List.{slice_get}
use native.Mathlib.Decide.{dec_lt}
use Rattle.scc_array.proofs.Bucket.{packed-there}
use Rattle.scc_array.proofs.Gets.{get-past, get-none, get-some, get-within}
use Rattle.scc_array.proofs.Windows.{length-windows}
use Rattle.scc_array.specs.Windows.{Window, window_of, windows, window_at, tag_there, IsPackedWindow, IsColumns}

pub split-slot : (p : ℕ) → p ≡ 32 * (p / 32) + p % 32
split-slot p = omega arith

pub rest-small : (p : ℕ) → p % 32 < 32
rest-small p = omega arith

pub all-free : {E : Type 0} (rows : List (List ℕ)) (cells : List (Option E)) (kept : IsColumns rows cells) (ws : List (Window E)) (view : windows rows cells ≡ ws)
    → ((i : ℕ) → i < length ws → (window_of ws i).slots ≡ []) → (p : ℕ) → get_or cells p None ≡ None
all-free rows cells kept ws view none p =
    let n = ap length view in let m = length-windows rows cells in let s = kept.sized in
    elim (dec_lt p (length cells)) [
      | yes l ↦
          let within : p / 32 < length ws = let e = split-slot p in omega arith in
          let packed = packed-there rows cells kept ws view (p / 32) within in
          ap (λ k. get_or cells k None) (split-slot p) ∙ packed.cells_are (p % 32) (rest-small p) ∙ ap (λ l. slice_get l (p % 32)) (none (p / 32) within)
      | no h ↦ get_or_past cells p None (omega arith)
    ]

nonzero-tag : (t : ℕ) → t ≢ 0 → (u : ℕ) × (tag_there t ≡ Some u)
nonzero-tag zero h = absurd (h refl)
nonzero-tag (suc t) h = (suc t, refl)

module _ {E : Type 0} (rows : List (List ℕ)) (cells : List (Option E)) (kept : IsColumns rows cells) (p : ℕ) (within : p < length cells) where
  abbrev i : ℕ
  i = p / 32

  abbrev j : ℕ
  j = p % 32

  abbrev tag : ℕ
  tag = get_or (get_or rows i []) j 0

  packed : IsPackedWindow rows cells i (window_at rows cells i).slots (window_at rows cells i).tags
  packed = let s = kept.sized in let e = split-slot p in kept.packed i (omega arith)

  -- a slot whose tag isn't 0 holds an entry; any other slot is free
  pub used-filled : tag ≢ 0 → (x : E) × (get_or cells p None ≡ Some x)
  used-filled h =
      let w = window_at rows cells i in let t = nonzero-tag tag h in
      let l = get-within w.tags j t.0 (sym (packed.tags_are j (rest-small p)) ∙ t.1) in
      let x = get-some w.slots j (let n = packed.same in omega arith) in
      (x.0, ap (λ k. get_or cells k None) (split-slot p) ∙ packed.cells_are j (rest-small p) ∙ x.1)

  pub unused-free : tag ≡ 0 → get_or cells p None ≡ None
  unused-free h =
      let w = window_at rows cells i in
      let l = get-none w.tags j (sym (packed.tags_are j (rest-small p)) ∙ ap tag_there h) in
      ap (λ k. get_or cells k None) (split-slot p) ∙ packed.cells_are j (rest-small p) ∙ get-past w.slots j (let n = packed.same in omega arith)
