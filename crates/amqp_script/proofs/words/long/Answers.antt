use Rattle.std.proofs.Common.{arith, rules, lit<, ◌^◌}
use Rattle.amqp_script.proofs.Decimal.{nothing_read, one_more, no_digit, too_large, all_read}
use Rattle.amqp_script.proofs.words.long.Goals as goal

pub returns-in_err-digit : goal.returns-in_err-digit
returns-in_err-digit c =
    rw c.from_residual.ensures (no_digit (2 ^ 64) c.args.word.now c.loop-octet.octet-index c.loop-octet.value c.loop-octet-test.true c.loop-octet.invariant.1 (rw c.from.ensures at c.in_err-digit.ensures.value))

pub returns-in_err-checked_mul : goal.returns-in_err-checked_mul
returns-in_err-checked_mul c =
    rw c.from_residual-in_err-checked_mul.ensures (too_large (2 ^ 64) c.args.word.now c.loop-octet.octet-index c.loop-octet.value c.loop-octet-test.true c.loop-octet.invariant.1 (omega (arith, c.in_err-checked_mul.ensures)))

pub returns-in_err-value : goal.returns-in_err-value
returns-in_err-value c =
    let digit = rw c.from.ensures at c.in_ok-digit.ensures.value in
    rw c.from_residual-in_err-value.ensures (too_large (2 ^ 64) c.args.word.now c.loop-octet.octet-index c.loop-octet.value c.loop-octet-test.true c.loop-octet.invariant.1 (omega (arith, digit.1, c.in_ok-checked_mul.ensures, c.in_err-value.ensures)))

pub loop-octet-init : goal.loop-octet-init
loop-octet-init c = (lit< tt, nothing_read c.args.word.now)

pub loop-octet-preserved : goal.loop-octet-preserved
loop-octet-preserved c =
    let digit = rw c.from.ensures at c.in_ok-digit.ensures.value in
    (omega (arith, c.in_ok-value.ensures), one_more c.args.word.now c.loop-octet.octet-index c.loop-octet.value c.in_ok-value.value c.loop-octet-test.true c.loop-octet.invariant.1 digit.0 (omega (arith, digit.1, c.in_ok-checked_mul.ensures, c.in_ok-value.ensures)))

pub returns : goal.returns
returns c = all_read (2 ^ 64) c.args.word.now c.loop-octet.octet-index c.loop-octet.value (omega arith) (search rules) c.loop-octet.invariant.1 c.loop-octet.invariant.0
