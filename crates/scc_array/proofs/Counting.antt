-- How many slots are in use by a row of tags, and which slots have a given tag.
use Rattle.std.proofs.Common.{◌≡◌, ◌==◌, ℕ, zero, suc, ◌+◌, ◌*◌, ◌<◌, ◌≤◌, Bool, true, false, cond, List, [], length, map, get_or, Option, Some, None, refl, sym, ap, ◌∙◌, subst, arith, eq-eqb}
use Rattle.std.proofs.lemmas.Bool.{eqb-true}
use Rattle.std.proofs.lemmas.List.{get_or-map, length-map, get_or_past}
use Rattle.std.proofs.lemmas.Nat.Bits.{bit_at-zero}
use Rattle.std.proofs.lemmas.Simd.{bit_mask_l}
use Rattle.std.specs.Int.{bit_at}
use Rattle.std.specs.List.{slice_get}
use lib.Lanes.{mask_l}
use native.Mathlib.Decide.{dec_lt}
use Rattle.scc_array.proofs.Gets.{get-past, get-some}
use Rattle.scc_array.specs.Windows.{tag_there, IsPackedWindow}

abbrev pub same_mask : ℕ → List ℕ → ℕ
same_mask t row = mask_l (map (λ x. x == t) row)

-- the bit of a lane is 1 if its tag is equal to t, and 0 otherwise
pub lane-bit : (t : ℕ) (row : List ℕ) (j : ℕ) → j < length row → bit_at (same_mask t row) j ≡ cond (get_or row j 0 == t) 1 0
lane-bit t row j h = bit_mask_l (map (λ x. x == t) row) j ∙ ap (λ b. cond b 1 0) (get_or-map (λ x. x == t) row j 0 false h)

pub lane-set : (t : ℕ) (row : List ℕ) (j : ℕ) → j < length row → get_or row j 0 ≡ t → bit_at (same_mask t row) j ≡ 1
lane-set t row j h e = lane-bit t row j h ∙ ap (λ b. cond b 1 0) (eq-eqb (get_or row j 0) t e)

past-lanes : (t : ℕ) (row : List ℕ) (j : ℕ) → length row ≤ j → bit_at (same_mask t row) j ≡ 0
past-lanes t row j h = bit_mask_l (map (λ x. x == t) row) j ∙ ap (λ b. cond b 1 0) (get_or_past (map (λ x. x == t) row) j false (let n = length-map row (λ x. x == t) in omega arith))

cond-one : (b : Bool) → ◌≡◌ {A = ℕ} (cond b 1 0) 1 → b ≡ true
cond-one true e = refl
cond-one false e = absurd (omega arith)

pub lane-within : (t : ℕ) (row : List ℕ) (j : ℕ) → bit_at (same_mask t row) j ≡ 1 → j < length row
lane-within t row j e = elim (dec_lt j (length row)) [ yes l ↦ l | no h ↦ let z = past-lanes t row j (omega arith) in absurd (omega arith) ]

pub lane-is : (t : ℕ) (row : List ℕ) (j : ℕ) → bit_at (same_mask t row) j ≡ 1 → get_or row j 0 ≡ t
lane-is t row j e = eqb-true (get_or row j 0) t (cond-one _ (sym (lane-bit t row j (lane-within t row j e)) ∙ e))

pub tag-some : (t u : ℕ) → tag_there t ≡ Some u → t ≡ u
tag-some zero u e = absurd (let n : None ≡ Some u = e in cc)
tag-some (suc t) u e = cc

tag-none : (t : ℕ) → tag_there t ≡ None → t ≡ 0
tag-none zero e = refl
tag-none (suc t) e = absurd (let n : Some (suc t) ≡ None = e in cc)

pub some-positive : (t u : ℕ) → tag_there t ≡ Some u → 0 < t
some-positive zero u e = absurd (let n : None ≡ Some u = e in cc)
some-positive (suc t) u e = omega arith

pub tag-there : (t : ℕ) → 0 < t → tag_there t ≡ Some t
tag-there zero h = absurd (omega arith)
tag-there (suc t) h = refl

module _ {E : Type 0} (rows : List (List ℕ)) (cells : List (Option E)) (i : ℕ) (xs : List E) (ts : List ℕ) (p : IsPackedWindow rows cells i xs ts) where
  abbrev row : List ℕ
  row = get_or rows i []

  pub slot-used : (j : ℕ) → j < length xs → (x : E) × (get_or cells (32 * i + j) None ≡ Some x)
  slot-used j h = let m = p.most in let g = get-some xs j h in (g.0, p.cells_are j (omega arith) ∙ g.1)

  pub slot-free : (j : ℕ) → length xs ≤ j → j < 32 → get_or cells (32 * i + j) None ≡ None
  slot-free j h l = p.cells_are j l ∙ get-past xs j h

  pub tag-used : (j : ℕ) → j < length xs → 0 < get_or row j 0
  tag-used j h = let m = p.most in let n = p.same in let g = get-some ts j (omega arith) in some-positive (get_or row j 0) g.0 (p.tags_are j (omega arith) ∙ g.1)

  pub tag-free : (j : ℕ) → length xs ≤ j → j < 32 → get_or row j 0 ≡ 0
  tag-free j h l = let n = p.same in tag-none (get_or row j 0) (p.tags_are j l ∙ get-past ts j (omega arith))

  -- a lane whose tag isn't 0 belongs to an entry
  pub tag-entry : (j t : ℕ) → 0 < t → j < 32 → get_or row j 0 ≡ t → slice_get ts j ≡ Some t
  tag-entry j t h l e = sym (p.tags_are j l) ∙ ap tag_there e ∙ tag-there t h

  pub entry-tag : (j t : ℕ) → slice_get ts j ≡ Some t → j < 32 → get_or row j 0 ≡ t
  entry-tag j t e l = tag-some (get_or row j 0) t (p.tags_are j l ∙ e)

  module _ (wide : length row ≡ 32) where
    pub full-count : same_mask 0 row ≡ 0 → 32 ≡ length xs
    full-count e =
        let m = p.most in
        elim (dec_lt (length xs) 32) [
          | yes l ↦
              let one = lane-set 0 row (length xs) (omega arith) (tag-free (length xs) (omega arith) l) in
              let none = bit_at-zero (length xs) in let there : bit_at 0 (length xs) ≡ 1 = subst (λ k. bit_at k (length xs) ≡ 1) e one in absurd (omega arith)
          | no h ↦ omega arith
        ]

    pub lowest-count : (k : ℕ) → bit_at (same_mask 0 row) k ≡ 1 → ((j : ℕ) → bit_at (same_mask 0 row) j ≡ 1 → k ≤ j) → k ≡ length xs
    lowest-count k one first =
        let m = p.most in let within = lane-within 0 row k one in let zero_there = lane-is 0 row k one in
        let below : length xs ≤ k = elim (dec_lt k (length xs)) [ yes l ↦ let u = tag-used k l in absurd (omega arith) | no h ↦ omega arith ] in
        elim (dec_lt (length xs) 32) [
          | yes l ↦ let f = first (length xs) (lane-set 0 row (length xs) (omega arith) (tag-free (length xs) (omega arith) l)) in omega arith
          | no h ↦ omega arith
        ]
