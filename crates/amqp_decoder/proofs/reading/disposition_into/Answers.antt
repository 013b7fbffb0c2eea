use Rattle.amqp_decoder.specs.ReadBodies.{disposition_in}
use Rattle.amqp_performatives.specs.declared.performative.Performative.TheVariants.{Disposition}
use Rattle.amqp_decoder.proofs.ByDescriptor.{none_disposition}
use Rattle.amqp_decoder.proofs.reading.disposition_into.Goals as goal

pub returns-in-Ok : goal.returns-in-Ok
returns-in-Ok c = λ d is. (rw c.in-Ok.ensures.fair c.in-Some.ensures.0, is, rw c.in-Ok.ensures.part c.in-Some.ensures.1)

pub returns-in-Err : goal.returns-in-Err
returns-in-Err c = λ d is. (Disposition (disposition_in (c.set_disposition.new.body, c.set_disposition.new.state)), (c.in-Some.ensures.0, is, c.in-Some.ensures.1))

pub returns-in-None : goal.returns-in-None
returns-in-None c = λ d is. none_disposition d c.args.fields is c.in-None.ensures
