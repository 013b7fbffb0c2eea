use Rattle.std.proofs.Common.{◌≡◌, ◌++◌, ◌/◌, ◌%◌, ◌^◌, ◌<◌, false, List, ℕ, [], ◌∷◌, ap, ◌∙◌, append_assoc, arith}
use Rattle.std.specs.Fmt.{digits}
use Rattle.amqp_trace.specs.Printed.{hex_digit}
use Rattle.amqp_trace.proofs.Digits.{one_digit, more_digits}
use Rattle.amqp_trace.proofs.text.Line.+digits.Goals as goal

pub returns-then-n-lt16 : goal.returns-then-n-lt16
returns-then-n-lt16 t c = record { text = rw (one_digit c.args.n c.if-n-lt16.true) c.put_digit.ensures.text }

pub returns : goal.returns
returns t c =
    let more : digits 16 false c.args.n ≡ digits 16 false (c.args.n / 16) ++ (hex_digit (c.args.n % 16) ∷ []) = more_digits c.args.n c.if-n-lt16.false (omega (arith, c.ranges.n)) in
    record { text = rw (more, ← append_assoc c.args.self.now (digits 16 false (c.args.n / 16)) (hex_digit (c.args.n % 16) ∷ []), ← c.in_ok-put_digits.ensures.text) c.put_digit-2.ensures.text }
