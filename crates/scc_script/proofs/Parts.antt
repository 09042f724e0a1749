-- A text that is cut at the first byte of one kind.
use Rattle.std.proofs.Common.{◌≡◌, ◌≢◌, ℕ, ◌+◌, ◌-◌, ◌<◌, List, [], ◌∷◌, length, take, drop, get_or, false, arith, eq-eqb}
use Rattle.std.specs.List.{position_or_len}
use Rattle.std.proofs.lemmas.Bool.{ne_eqb}
use Rattle.std.proofs.lemmas.Grind.{common_steps}
use Rattle.std.proofs.lemmas.List.Elements.{All-from_get_or}
use Rattle.std.proofs.lemmas.List.Sums.{position_or_len_is}
use Rattle.std.proofs.lemmas.List.Splits.{slice_split_none, slice_split_first, length-slice_split}
use Rattle.std.specs.Prelude.{◌==◌}
use Rattle.scc_script.specs.Grammar.{parts}

pub parts_none : (b : ℕ) (s : List ℕ) → ((k : ℕ) → k < length s → get_or s k 0 ≢ b) → parts b s ≡ s ∷ []
parts_none b s h =
    slice_split_none (λ x. x == b) s (All-from_get_or (λ x. (x == b) ≡ false) s 0 (λ k l. ne_eqb (get_or s k 0) b (h k l)))

pub parts_cut : (b : ℕ) (s : List ℕ) (i : ℕ) → i < length s → get_or s i 0 ≡ b → ((k : ℕ) → k < i → get_or s k 0 ≢ b) → parts b s ≡ take i s ∷ parts b (drop (i + 1) s)
parts_cut b s i l e h =
    let at : position_or_len (λ x. x == b) s ≡ i =
    position_or_len_is (λ x. x == b) s i 0 (omega arith) (λ k lk. ne_eqb (get_or s k 0) b (h k lk)) (λ _. eq-eqb (get_or s i 0) b e) in
    let within : position_or_len (λ x. x == b) s < length s = omega arith in
    rw at at (slice_split_first (λ x. x == b) s 0 within)

-- each text has at least one part
pub parts_some : (b : ℕ) (s : List ℕ) → 0 < length (parts b s)
parts_some b s = omega (arith, length-slice_split (λ x. x == b) s)

-- if all bytes that are left are taken, none is dropped
pub take-rest : (s : List ℕ) (i : ℕ) → take (length s - i) (drop i s) ≡ drop i s
take-rest s i = grind (arith, common_steps)
