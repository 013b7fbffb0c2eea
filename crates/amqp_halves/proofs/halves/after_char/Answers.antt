use Rattle.std.proofs.Common.{◌+◌, arith}
use Rattle.amqp_halves.specs.Halves.{whole}
use Rattle.amqp_halves.proofs.Texts.{past_char, no_char, no_texts_next}
use Rattle.amqp_halves.proofs.halves.after_char.Goals as goal

pub loop-less-preserved : goal.loop-less-preserved
loop-less-preserved c = no_texts_next _ _ c.loop-less.invariant c.if-are_utf8.ensures

pub returns-in-Some : goal.returns-in-Some
returns-in-Some c =
    past_char (whole c.args.octets) c.first_four-count.result.0 (whole c.in-Some.field-0-0) (whole c.in-Some.rest) c.first_four-count.result.1 (c.loop-less.less + 1) c.first_four-count.ensures.octets c.first_four-count.ensures.count (omega arith) (omega arith)
    c.if-are_utf8.ensures c.in-Some.ensures

pub returns : goal.returns
returns c =
    no_char (whole c.args.octets) c.first_four-count.result.0 c.first_four-count.result.1 c.first_four-count.ensures.octets c.first_four-count.ensures.count c.requires (λ k a b. c.loop-less.invariant k a (omega arith))
