use Rattle.amqp_types.specs.Heads.{datum_of}
use Rattle.amqp_decoder.proofs.ByDescriptor.{front_left, front_fault, front_missing}
use Rattle.amqp_decoder.proofs.front.read_performative_into.Goals as goal

pub returns-in-Ok : goal.returns-in-Ok
returns-in-Ok c = front_left c.args.octets.now (datum_of c.in-Some.opened.descriptor) c.in-Some.opened.fields c.in-Some.opened.used c.in-Some.ensures _ c.described_into.new.slot c.in-Ok.ensures

pub returns-in-Err : goal.returns-in-Err
returns-in-Err c = front_fault c.args.octets.now (datum_of c.in-Some.opened.descriptor) c.in-Some.opened.fields c.in-Some.opened.used c.in-Err.fault c.in-Some.ensures c.in-Err.ensures

pub returns-in-None : goal.returns-in-None
returns-in-None c = front_missing c.args.octets.now c.in-None.ensures
