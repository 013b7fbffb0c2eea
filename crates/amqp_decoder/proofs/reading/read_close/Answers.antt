use Rattle.amqp_decoder.specs.Parts.{error_in}
use Rattle.std.specs.Prelude.{option_map}
use Rattle.amqp_performatives.specs.declared.performative.Performative.TheVariants.{Close}
use Rattle.amqp_decoder.proofs.ByDescriptor.{none_close}
use Rattle.amqp_decoder.proofs.reading.read_close.Goals as goal

pub returns-in-Ok : goal.returns-in-Ok
returns-in-Ok c = λ d is. (rw c.in-Ok.ensures.fair c.in-Some.ensures.0, is, rw c.in-Ok.ensures.part c.in-Some.ensures.1)

pub returns-in-Err : goal.returns-in-Err
returns-in-Err c = λ d is. (Close (record { error = option_map error_in c.in-Some.error }), (c.in-Some.ensures.0, is, c.in-Some.ensures.1))

pub returns-in-None : goal.returns-in-None
returns-in-None c = λ d is. none_close d c.args.fields is (λ b. c.in-None.ensures b.error)
