-- Digits write no less than the first of them. So a field is refused as soon as its first digits write too much.
use Rattle.std.proofs.Common.{◌≤◌, ◌+◌, ◌^◌, take, get_or, arith, rules, sym, ◌∙◌}
use Rattle.std.specs.Str.Parse.{digits_value}
use Rattle.std.proofs.lemmas.Int.Digits.{digits_value_more}
use Rattle.std.proofs.lemmas.Str.{digit_value_digit}
use Rattle.scc_script.proofs.Numbers.{none_by_size, more_digits, some_at_end}
use Rattle.scc_script.proofs.number.parse_number.Goals as goal

pub returns-in_err-checked_mul : goal.returns-in_err-checked_mul
returns-in_err-checked_mul c =
    let i = c.loop-byte.byte-index in
    let s = c.args.field.now in
    let many : 2 ^ 64 ≤ digits_value 10 (take (i + 1) s) = omega (arith, digits_value_more 10 s i (omega arith), c.in_err-checked_mul.ensures) in
    c.from_residual.ensures ∙ sym (none_by_size s (i + 1) many)

pub returns-in_err-value : goal.returns-in_err-value
returns-in_err-value c =
    let i = c.loop-byte.byte-index in
    let s = c.args.field.now in
    let many : 2 ^ 64 ≤ digits_value 10 (take (i + 1) s) =
    omega (arith, digits_value_more 10 s i (omega arith), digit_value_digit (get_or s i 0) c.if-not-is_ascii_digit.ensures.cases, c.in_err-value.ensures, c.in_ok-checked_mul.ensures) in
    c.from_residual-in_err-value.ensures ∙ sym (none_by_size s (i + 1) many)

pub loop-byte-preserved : goal.loop-byte-preserved
loop-byte-preserved c =
    let i = c.loop-byte.byte-index in
    let s = c.args.field.now in
    record {
      digits = more_digits s i (omega arith) c.loop-byte.invariant.digits (search rules);
      value = omega (arith, digits_value_more 10 s i (omega arith), digit_value_digit (get_or s i 0) c.if-not-is_ascii_digit.ensures.cases, c.in_ok-value.ensures, c.in_ok-checked_mul.ensures);
      small = omega (arith, c.in_ok-value.ensures);
    }

pub returns : goal.returns
returns c =
    some_at_end c.args.field.now c.loop-byte.byte-index c.loop-byte.value (search rules) (omega arith)
    c.loop-byte.invariant.digits c.loop-byte.invariant.value c.loop-byte.invariant.small
