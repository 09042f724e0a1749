-- The number that a field is written for.
use Rattle.std.proofs.Common.{◌≡◌, ℕ, ◌+◌, ◌^◌, ◌<◌, ◌≤◌, List, length, take, get_or, true, false, arith, sym, ◌∙◌, ap, Some, None, lit≤}
use Rattle.std.specs.List.{list_all}
use Rattle.std.specs.Char.{is_ascii_digit}
use Rattle.std.specs.Str.Parse.{digits_value}
use Rattle.std.proofs.lemmas.Grind.{common_steps}
use Rattle.std.proofs.lemmas.List.Folds.{list_all_at, list_all_more}
use Rattle.std.proofs.lemmas.Str.Parse.{digits_value-take-le}
use Rattle.scc_script.specs.Grammar.{number_of}

-- if a byte of the field is no digit, the field is no number
pub none_by_digit : (s : List ℕ) (i : ℕ) → i < length s → is_ascii_digit (get_or s i 0) ≡ false → number_of s ≡ None
none_by_digit s i l h =
    let no : list_all is_ascii_digit s ≡ false = list_all_at is_ascii_digit s i 0 l h in
    grind arith

-- if the first digits already write too much, the field is no number
pub none_by_size : (s : List ℕ) (i : ℕ) → 2 ^ 64 ≤ digits_value 10 (take i s) → number_of s ≡ None
none_by_size s i h =
    let most : 2 ^ 64 ≤ digits_value 10 s = omega (arith, digits_value-take-le 10 s i (lit≤ tt)) in
    grind arith

-- a field of digits alone is the number that they write, if they don't write too much
pub some_whole : (s : List ℕ) → 0 < length s → list_all is_ascii_digit s ≡ true → digits_value 10 s < 2 ^ 64 → number_of s ≡ Some (digits_value 10 s)
some_whole s l h b = grind arith

-- if the first i bytes are digits, and the next byte is a digit, the first `i + 1` bytes are digits
pub more_digits : (s : List ℕ) (i : ℕ) → i < length s → list_all is_ascii_digit (take i s) ≡ true → is_ascii_digit (get_or s i 0) ≡ true → list_all is_ascii_digit (take (i + 1) s) ≡ true
more_digits s i l h d = rw (list_all_more is_ascii_digit s i 0 l) (rw h d)

-- at the end of the field, n is the number of the field
pub some_at_end : (s : List ℕ) (i n : ℕ) → 0 < length s → length s ≤ i → list_all is_ascii_digit (take i s) ≡ true → n ≡ digits_value 10 (take i s) → n < 2 ^ 64 → Some n ≡ number_of s
some_at_end s i n l e h v b =
    let whole : take i s ≡ s = grind (arith, common_steps) in
    let all : list_all is_ascii_digit s ≡ true = rw whole at h in
    let value : n ≡ digits_value 10 s = rw whole at v in
    let least : digits_value 10 s < 2 ^ 64 = omega arith in
    ap Some value ∙ sym (some_whole s l all least)
