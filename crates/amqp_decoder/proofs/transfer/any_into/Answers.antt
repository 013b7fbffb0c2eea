use Rattle.amqp_decoder.specs.ReadBodies.{transfer_in}
use Rattle.amqp_performatives.specs.declared.performative.Performative.TheVariants.{Transfer}
use Rattle.amqp_decoder.proofs.ByDescriptor.{none_transfer}
use Rattle.amqp_decoder.proofs.transfer.any_into.Goals as goal

pub returns-in-Ok : goal.returns-in-Ok
returns-in-Ok c = λ d is. (rw c.in-Ok.ensures.fair c.in-Some.ensures.0, is, rw c.in-Ok.ensures.part c.in-Some.ensures.1)

pub returns-in-Err : goal.returns-in-Err
returns-in-Err c = λ d is. (Transfer (transfer_in (c.in-Some.body, c.in-Some.state)), (c.in-Some.ensures.0, is, c.in-Some.ensures.1))

pub returns-in-None : goal.returns-in-None
returns-in-None c = λ d is. none_transfer d c.args.fields is c.in-None.ensures
