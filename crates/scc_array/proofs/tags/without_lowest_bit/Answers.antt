use Rattle.std.proofs.Common.{◌≡◌, ◌+◌, ◌*◌, ◌/◌, ◌%◌, ◌<◌, ◌≢◌, ◌-◌, ◌^◌, ℕ, zero, suc, arith, ap, sym, ◌∙◌, bit_and}
use Rattle.std.specs.Int.{bit_at, trailing_zeros, w32}
use Rattle.std.proofs.lemmas.Nat.Bits.{bit_at-trailing_zeros, bit_at_and, bit_at_cat_low, bit_at_cat_high, bit_at-zero, bit_at-lt, bit_at_above, bit_at_lowest, same_from_bits}
use lib.Pow.{pow_pos}
use native.Mathlib.Decide.{dec_lt}
use Rattle.scc_array.proofs.tags.without_lowest_bit.Goals as goal

split : (b p : ℕ) → 0 < p → b ≡ b / p * p + b % p
split b p h = grind arith

above_zero : (r t : ℕ) → bit_at r t ≡ 1 → 0 < r
above_zero zero t h = absurd (let z = bit_at-zero t in omega arith)
above_zero (suc r) t h = omega arith

-- one less keeps the bits above a bit that is set
pred_keeps : (b t k : ℕ) → bit_at b t ≡ 1 → t < k → 0 < 2 ^ k → bit_at (b - 1) k ≡ bit_at b k
pred_keeps b t k h l pos =
    let q : ℕ = b / 2 ^ k in
    let r : ℕ = b % 2 ^ k in
    let e : b ≡ q * 2 ^ k + r = split b (2 ^ k) pos in
    let small : r < 2 ^ k = omega arith in
    let low : bit_at (q * 2 ^ k + r) t ≡ bit_at r t = bit_at_cat_low q k r t l in
    let nonzero : 0 < r = above_zero r t (sym low ∙ ap (λ x. bit_at x t) (sym e) ∙ h) in
    let pred : b - 1 ≡ q * 2 ^ k + (r - 1) = omega arith in
    let hi1 : bit_at (q * 2 ^ k + (r - 1)) k ≡ bit_at q (k - k) = bit_at_cat_high q k (r - 1) k (omega arith) (omega arith) in
    let hi2 : bit_at (q * 2 ^ k + r) k ≡ bit_at q (k - k) = bit_at_cat_high q k r k small (omega arith) in
    ap (λ x. bit_at x k) pred ∙ hi1 ∙ sym hi2 ∙ ap (λ x. bit_at x k) (sym e)

cleared : (b k : ℕ) → 0 < b → b < 2 ^ 32 → bit_at b k ≡ 1 → k ≢ trailing_zeros w32 b → bit_at (bit_and b (b - 1)) k ≡ 1
cleared b k p q h n =
    let t = bit_at-trailing_zeros w32 b p q in
    let above : trailing_zeros w32 b < k = grind (arith, t.2 k) in
    let kept = pred_keeps b (trailing_zeros w32 b) k t.1 above (pow_pos k) in
    bit_at_and b (b - 1) k ∙ omega arith

pub returns-clause-others : goal.returns-clause-others
returns-clause-others c =
    λ k h n. cleared c.args.bits k c.requires c.ranges.bits.fits h n

-- if all bits below t are 0, the remainder by 2 ^ t is 0
low_zero : (b t : ℕ) → ((i : ℕ) → i < t → bit_at b i ≡ 0) → 0 < 2 ^ t → b % 2 ^ t ≡ 0
low_zero b t f pos =
    same_from_bits (b % 2 ^ t) 0 (λ i. elim (dec_lt i t) [
      | yes l ↦ sym (bit_at_cat_low (b / 2 ^ t) t (b % 2 ^ t) i l) ∙ ap (λ x. bit_at x i) (sym (split b (2 ^ t) pos)) ∙ f i l ∙ sym (bit_at-zero i)
      | no n ↦ let small : b % 2 ^ t < 2 ^ t = omega arith in bit_at_above (b % 2 ^ t) t i small (omega arith) ∙ sym (bit_at-zero i)
    ])

pred_of_times : (q x : ℕ) → 0 < q → 0 < x → q * x - 1 ≡ (q - 1) * x + (x - 1)
pred_of_times zero x p h = absurd (omega arith)
pred_of_times (suc q) x p h =
    let one : suc q - 1 ≡ q = omega arith in
    let more : suc q * x ≡ x + q * x = grind arith in
    rw one (omega arith)

-- one less clears the lowest bit that is set
pred_clears : (b t : ℕ) → bit_at b t ≡ 1 → ((i : ℕ) → i < t → bit_at b i ≡ 0) → 0 < 2 ^ t → bit_at (b - 1) t ≡ 0
pred_clears b t h f pos =
    let q : ℕ = b / 2 ^ t in
    let r : b % 2 ^ t ≡ 0 = low_zero b t f pos in
    let s : b ≡ q * 2 ^ t + b % 2 ^ t = split b (2 ^ t) pos in
    let e : b ≡ q * 2 ^ t + 0 = s ∙ ap (λ x. q * 2 ^ t + x) r in
    let none : t - t ≡ 0 = omega arith in
    let high : bit_at (q * 2 ^ t + 0) t ≡ bit_at q 0 = bit_at_cat_high q t 0 t pos (omega arith) ∙ ap (bit_at q) none in
    let odd : q % 2 ≡ 1 = sym (bit_at_lowest q) ∙ sym high ∙ ap (λ x. bit_at x t) (sym e) ∙ h in
    let some : 0 < q = omega arith in
    let even : (q - 1) % 2 ≡ 0 = omega arith in
    let less : b - 1 ≡ (q - 1) * 2 ^ t + (2 ^ t - 1) = (let z : b ≡ q * 2 ^ t = omega arith in ap (λ x. x - 1) z) ∙ pred_of_times q (2 ^ t) some pos in
    let below : bit_at ((q - 1) * 2 ^ t + (2 ^ t - 1)) t ≡ bit_at (q - 1) 0 = bit_at_cat_high (q - 1) t (2 ^ t - 1) t (omega arith) (omega arith) ∙ ap (bit_at (q - 1)) none in
    ap (λ x. bit_at x t) less ∙ below ∙ bit_at_lowest (q - 1) ∙ even

left_over : (b k : ℕ) → 0 < b → b < 2 ^ 32 → bit_at (bit_and b (b - 1)) k ≡ 1 → (bit_at b k ≡ 1) × (k ≢ trailing_zeros w32 b)
left_over b k p q h =
    let t = bit_at-trailing_zeros w32 b p q in
    let gone : bit_at (b - 1) (trailing_zeros w32 b) ≡ 0 = pred_clears b (trailing_zeros w32 b) t.1 t.2 (pow_pos (trailing_zeros w32 b)) in
    let both = bit_at_and b (b - 1) k in
    let near = bit_at-lt b k in
    let far = bit_at-lt (b - 1) k in
    let other : bit_at (b - 1) k ≡ 1 = omega arith in
    (omega arith, λ same. let z : bit_at (b - 1) k ≡ 0 = ap (bit_at (b - 1)) same ∙ gone in omega arith)

pub returns-clause-only : goal.returns-clause-only
returns-clause-only c =
    λ k h. left_over c.args.bits k c.requires c.ranges.bits.fits h
