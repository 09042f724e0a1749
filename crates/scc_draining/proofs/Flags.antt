-- Flags of waiting buckets, and their number.
use Rattle.std.proofs.Common.{◌≡◌, ℕ, zero, suc, ◌+◌, ◌<◌, Bool, true, false, cond, List, [], ◌∷◌, length, set, get_or, refl, ap, arith}
use Rattle.std.specs.List.{count_by}
use Rattle.std.proofs.lemmas.List.Sums.{sum_by-set, sum_by-cons}
use Rattle.scc_buckets.proofs.PairSplits.{by_answer}
use Rattle.scc_draining.specs.Waiting.{waits_at}

-- if the number of flags that are up is 0, each flag is down
pub none-up : (ws : List Bool) → count_by (λ w. w) ws ≡ 0 → (k : ℕ) → waits_at ws k ≡ false
none-up [] h k = refl
none-up (w ∷ ws) h zero = by_answer w (λ q. absurd (let s = sum_by-cons (λ x. cond x 1 0) w ws in let z : cond {A = ℕ} w 1 0 ≡ 1 = ap (λ (v : Bool). cond {A = ℕ} v 1 0) q in omega arith)) (λ q. q)
none-up (w ∷ ws) h (suc k) = none-up ws (let s = sum_by-cons (λ x. cond x 1 0) w ws in omega arith) k

-- if each flag is down, the number of flags that are up is 0
pub all-down : (ws : List Bool) → ((k : ℕ) → k < length ws → waits_at ws k ≡ false) → count_by (λ w. w) ws ≡ 0
all-down [] h = refl
all-down (w ∷ ws) h = let z : w ≡ false = h 0 (omega arith) in rw z (all-down ws (λ k l. h (suc k) (omega arith)))

pub one-down : (ws : List Bool) (i : ℕ) → i < length ws → waits_at ws i ≡ true → count_by (λ w. w) ws ≡ count_by (λ w. w) (set ws i false) + 1
one-down ws i l up =
    let s : count_by (λ w. w) (set ws i false) + cond {A = ℕ} (get_or ws i false) 1 0 ≡ count_by (λ w. w) ws + 0 = sum_by-set (λ x. cond x 1 0) ws i false false l in
    let z : cond {A = ℕ} (get_or ws i false) 1 0 ≡ 1 = ap (λ (w : Bool). cond {A = ℕ} w 1 0) up in
    omega arith

-- the number of a flag that is up is below the number of flags
pub up-within : (ws : List Bool) (i : ℕ) → waits_at ws i ≡ true → i < length ws
up-within [] i h = absurd (let z : false ≡ true = h in cc)
up-within (w ∷ ws) zero h = omega arith
up-within (w ∷ ws) (suc i) h = let l = up-within ws i h in omega arith
