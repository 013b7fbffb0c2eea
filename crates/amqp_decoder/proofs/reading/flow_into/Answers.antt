use Rattle.amqp_decoder.specs.ReadBodies.{flow_in}
use Rattle.amqp_performatives.specs.declared.performative.Performative.TheVariants.{Flow}
use Rattle.amqp_decoder.proofs.ByDescriptor.{none_flow}
use Rattle.amqp_decoder.proofs.reading.flow_into.Goals as goal

pub returns-in-Ok : goal.returns-in-Ok
returns-in-Ok c = λ d is. (rw c.in-Ok.ensures.fair c.in-Some.ensures.0, is, rw c.in-Ok.ensures.part c.in-Some.ensures.1)

pub returns-in-Err : goal.returns-in-Err
returns-in-Err c = λ d is. (Flow (flow_in (c.set_flow.new.body, c.in-Some.properties)), (c.in-Some.ensures.0, is, c.in-Some.ensures.1))

pub returns-in-None : goal.returns-in-None
returns-in-None c = λ d is. none_flow d c.args.fields is c.in-None.ensures
