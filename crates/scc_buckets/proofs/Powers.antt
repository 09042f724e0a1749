-- Powers of two.
use Rattle.std.proofs.Common.{◌≡◌, ℕ, ◌+◌, ◌-◌, ◌*◌, ◌/◌, ◌^◌, ◌<◌, ◌≤◌, inl, inr, max, sym, ap, ◌∙◌, subst, refl, arith}
use Rattle.std.specs.Int.{IsPowerOfTwo}
use Rattle.scc_common.specs.Sizes.{IsBucketCount, IsArraySize, IsLawful, IsSmaller}
use native.Mathlib.Decide.{dec_lt}
use lib.Pow.{pow_mono, pow-add}

-- a smaller power of two is at most half of the greater one
half : (p q j k : ℕ) → p ≡ 2 ^ k → q ≡ 2 ^ j → q < p → q ≤ p / 2
half p q j k ep eq l = elim (dec_lt j k) [
  | yes h ↦
      let m : 2 ^ (j + 1) ≤ 2 ^ k = pow_mono {i = j + 1} {j = k} (omega arith) in
      let a : 2 ^ (j + 1) ≡ 2 ^ j * 2 ^ 1 = pow-add 2 j 1 in
      omega arith
  | no h ↦ let m : 2 ^ k ≤ 2 ^ j = pow_mono {i = k} {j = j} (omega arith) in absurd (omega arith)
]

pub least-next : (n p : ℕ) → 64 < n → n < 2 ^ 63 → IsPowerOfTwo p → n ≤ p → p / 2 < max 1 n → IsArraySize n p
least-next n p big small w le half_below = record {
  power = w;
  least = omega arith;
  most = elim (dec_lt (2 ^ 63) p) [
    | yes h ↦ let m : 2 ^ 63 ≤ p / 2 = half p (2 ^ 63) 63 w.0 w.1 refl h in absurd (omega arith)
    | no h ↦ omega arith
  ];
  enough = omega arith;
  fewest = λ q v _ f. elim (dec_lt q p) [
    | yes h ↦ let m : q ≤ p / 2 = half p q v.0 w.0 w.1 v.1 h in absurd (omega arith)
    | no h ↦ omega arith
  ];
}

-- a power of two that is at least 64 is 32 times a power of two
by_32 : (p k : ℕ) → p ≡ 2 ^ k → 64 ≤ p → (p / 32 ≡ 2 ^ (k - 5)) × (32 * (p / 32) ≡ p)
by_32 p k e l = elim (dec_lt k 5) [
  | yes h ↦ let m : 2 ^ k ≤ 2 ^ 5 = pow_mono {i = k} {j = 5} (omega arith) in absurd (omega arith)
  | no h ↦
      let s : k - 5 + 5 ≡ k = omega arith in
      let a : 2 ^ k ≡ 2 ^ (k - 5) * 2 ^ 5 = ap (λ j. 2 ^ j) (sym s) ∙ pow-add 2 (k - 5) 5 in
      (omega arith, omega arith)
]

pub array-of_size : (n p : ℕ) → IsArraySize n p → IsBucketCount (p / 32) × (32 * (p / 32) ≡ p)
array-of_size n p h =
    let b = by_32 p h.power.0 h.power.1 h.least in
    (record { power = (h.power.0 - 5, b.0); least = omega (arith, h.least); most = omega (arith, h.most) }, b.1)

-- twice the number of an array's buckets may be the number of an array's buckets
pub double-array : (n : ℕ) → IsLawful n → 0 < n → n < 2 ^ 58 → IsBucketCount (2 * n)
double-array n h pos l = elim h [
  | inl z ↦ absurd (omega arith)
  | inr a ↦
      let k : ℕ = a.power.0 in
      let e : n ≡ 2 ^ k = a.power.1 in
      let p : 2 ^ (k + 1) ≡ 2 ^ k * 2 ^ 1 = pow-add 2 k 1 in
      record {
        power = (k + 1, omega arith);
        least = omega (arith, a.least);
        most = elim (dec_lt k 58) [
          | yes q ↦ let m : 2 ^ (k + 1) ≤ 2 ^ 58 = pow_mono {i = k + 1} {j = 58} (omega arith) in omega arith
          | no q ↦ let m : 2 ^ 58 ≤ 2 ^ k = pow_mono {i = 58} {j = k} (omega arith) in absurd (omega arith)
        ];
      }
]

-- there is one array size for n slots
pub size-once : (n p q : ℕ) → IsArraySize n p → IsArraySize n q → p ≡ q
size-once n p q a b =
    let l = a.fewest q b.power b.least b.enough in
    let m = b.fewest p a.power a.least a.enough in
    omega arith

pub max-array : (a b : ℕ) → IsBucketCount a → IsBucketCount b → IsBucketCount (max a b)
max-array a b p q = elim (dec_lt a b) [
  | yes h ↦ let e : b ≡ max a b = omega arith in subst IsBucketCount e q
  | no h ↦ let e : a ≡ max a b = omega arith in subst IsBucketCount e p
]

-- the number of buckets that an array may shrink to is the greater of two numbers
pub smaller-to : (k l minimum held from : ℕ) → IsArraySize minimum (32 * k) → IsArraySize (2 * held) (32 * l) → 8 * held ≤ 32 * from → max k l < from → IsSmaller minimum held from (max k l)
smaller-to k l minimum held from sm sl few less = record {
  few = few;
  fewer = less;
  size = λ m n am an. let em = size-once _ _ _ sm am in let en = size-once _ _ _ sl an in omega arith;
}

pub smaller-only : (k l n minimum held from : ℕ) → IsArraySize minimum (32 * k) → IsArraySize (2 * held) (32 * l) → IsSmaller minimum held from n → n ≡ max k l
smaller-only k l n minimum held from sm sl h = let e = h.size (32 * k) (32 * l) sm sl in omega arith
