use Rattle.std.proofs.Common.{◌≡◌, ◌<◌, ap, rules, arith}
use Rattle.std.specs.Char.{digit_value}
use Rattle.syntax.specs.Lexical.{number_of}
use Rattle.syntax.proofs.Numbers.{next_is_no_larger}
use Rattle.syntax.proofs.lexer.value_of.Goals as goal

pub returns-in_err-checked_mul-clause-large : goal.returns-in_err-checked_mul-clause-large
returns-in_err-checked_mul-clause-large c digits =
    let next = next_is_no_larger c.args.digits.now c.loop-c.c-index c.c-item.result (omega arith) in
    let large : 9223372036854775807 < number_of c.args.digits.now = omega (arith, next, c.in_err-checked_mul.ensures, c.loop-c.invariant) in
    search (rules, large)

pub returns-in_err-value-clause-large : goal.returns-in_err-value-clause-large
returns-in_err-value-clause-large c digits =
    let next = next_is_no_larger c.args.digits.now c.loop-c.c-index c.c-item.result (omega arith) in
    let digit : c.in_ok-digit.digit ≡ digit_value c.c-item.result = search rules in
    let item = ap digit_value c.c-item.is in
    let large : 9223372036854775807 < number_of c.args.digits.now =
    omega (arith, next, digit, item, c.in_err-value.ensures, c.in_ok-checked_mul.ensures, c.from.ensures, c.loop-c.invariant) in
    search (rules, large)
