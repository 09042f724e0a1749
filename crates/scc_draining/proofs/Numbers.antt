-- The bucket of a hash in each of two arrays. One array's number of buckets is a multiple of the other's.
use Rattle.std.proofs.Common.{◌≡◌, ℕ, zero, suc, ◌+◌, ◌*◌, ◌/◌, ◌%◌, ◌^◌, ◌<◌, ◌≤◌, sym, ap, ◌∙◌, subst, arith, div-lt_iff_lt-mul, mul_comm}
use Rattle.std.proofs.Math.Nat.{div-div-eq-div-mul, div-eq_of_eq-mul_left, div-eq_of_lt-le, div-mul-le_self, lt-div-mul-add, mul-div-mul_left}
use Rattle.scc_common.specs.Routing.{bucket_number}
use Rattle.scc_draining.specs.Moves.{AreMultiples, grown, shrunk}

scaled : (x m r d : ℕ) → 0 < r → x * (r * m) / d / r ≡ x * m / d
scaled x m r d some =
    let e : x * (r * m) ≡ r * (x * m) = omega arith in
    let f : d * r ≡ r * d = omega arith in
    div-div-eq-div-mul (x * (r * m)) d r ∙ ap (λ z. z / (d * r)) e ∙ ap (λ z. r * (x * m) / z) f ∙ mul-div-mul_left (x * m) d some

-- the bucket number among r * m buckets, divided by r, is the bucket number among m buckets
pub number-div : (t m r h : ℕ) → 0 < r → bucket_number t (r * m) h / r ≡ bucket_number t m h
number-div t m r h some = scaled ((h * 2 ^ t) % 2 ^ 64) m r (2 ^ 64) some

-- the quotient of two numbers of buckets, times the smaller number, is the greater number
pub quotient : (m n : ℕ) → 0 < m → m ≤ n → AreMultiples m n → (n / m) * m ≡ n
quotient m n some less (grown r pos e) = ap (λ q. q * m) (div-eq_of_eq-mul_left some e) ∙ sym e
quotient m n some less (shrunk zero pos e) = absurd (omega arith)
quotient m n some less (shrunk (suc k) pos e) =
    let same : n ≡ 1 * m = let z : suc k * n ≡ n + k * n = omega arith in omega arith in
    ap (λ q. q * m) (div-eq_of_eq-mul_left some same) ∙ sym same

pub multiples-flip : (m n : ℕ) → AreMultiples m n → AreMultiples n m
multiples-flip m n (grown r pos e) = shrunk r pos e
multiples-flip m n (shrunk r pos e) = grown r pos e

pub some-quotient : (q m n : ℕ) → q * m ≡ n → 0 < n → 0 < q
some-quotient zero m n e some = absurd (let z : zero * m ≡ 0 = omega arith in omega arith)
some-quotient (suc k) m n e some = omega arith

-- if the array grew, a target has one old bucket
pub only-grown : (m n t h target : ℕ) → 0 < m → m ≤ n → target < n → AreMultiples m n → bucket_number t n h ≡ target → bucket_number t m h ≡ target / (n / m)
only-grown m n t h target some less within many at =
    let e = quotient m n some less many in
    let pos = some-quotient (n / m) m n e (omega arith) in
    sym (number-div t m (n / m) h pos) ∙ ap (λ z. bucket_number t z h / (n / m)) e ∙ ap (λ z. z / (n / m)) at

-- if the array has twice as many buckets as before, a target has one old bucket
pub only-doubled : (m n t h target : ℕ) → n ≡ 2 * m → bucket_number t n h ≡ target → bucket_number t m h ≡ target / 2
only-doubled m n t h target twice at = sym (number-div t m 2 h (omega arith)) ∙ ap (λ z. bucket_number t z h / 2) (sym twice) ∙ ap (λ z. z / 2) at

-- if the array shrank, these old buckets hold the entries of a target
pub only-shrunk : (m n t h target : ℕ) → n < m → target < n → AreMultiples m n → bucket_number t n h ≡ target → (target * (m / n) ≤ bucket_number t m h) × (bucket_number t m h < target * (m / n) + m / n)
only-shrunk m n t h target less within many at =
    let e = quotient n m (omega arith) (omega arith) (multiples-flip m n many) in
    let pos = some-quotient (m / n) n m e (omega arith) in
    let q : bucket_number t m h / (m / n) ≡ target = ap (λ z. bucket_number t z h / (m / n)) (sym e) ∙ number-div t n (m / n) h pos ∙ at in
    let low : target * (m / n) ≤ bucket_number t m h = subst (λ z. z * (m / n) ≤ bucket_number t m h) q (div-mul-le_self (bucket_number t m h) (m / n)) in
    let high : bucket_number t m h < target * (m / n) + m / n = subst (λ z. bucket_number t m h < z * (m / n) + m / n) q (lt-div-mul-add pos) in
    (low, high)

-- if the array shrank, these old buckets hold only entries of a target
pub joined-shrunk : (m n t h target : ℕ) → n < m → target < n → AreMultiples m n → target * (m / n) ≤ bucket_number t m h → bucket_number t m h < target * (m / n) + m / n → bucket_number t n h ≡ target
joined-shrunk m n t h target less within many low high =
    let e = quotient n m (omega arith) (omega arith) (multiples-flip m n many) in
    let pos = some-quotient (m / n) n m e (omega arith) in
    let q : bucket_number t m h / (m / n) ≡ bucket_number t n h = ap (λ z. bucket_number t z h / (m / n)) (sym e) ∙ number-div t n (m / n) h pos in
    let more : (target + 1) * (m / n) ≡ target * (m / n) + m / n = omega arith in
    sym q ∙ div-eq_of_lt-le {k = target} (m / n) low (subst (λ z. bucket_number t m h < z) (sym more) high)

-- if the array grew, the number of a target's old bucket is below the number of old buckets
pub source-within : (m n target : ℕ) → 0 < m → m ≤ n → target < n → AreMultiples m n → target / (n / m) < m
source-within m n target some less within many =
    let e = quotient m n some less many in
    let pos = some-quotient (n / m) m n e (omega arith) in
    let f : m * (n / m) ≡ n = mul_comm m (n / m) ∙ e in
    (div-lt_iff_lt-mul pos).1 (subst (λ z. target < z) (sym f) within)
