use Rattle.amqp_decoder.proofs.OfKind.{none_received, none_modified}
use Rattle.amqp_decoder.proofs.states.state_fields.Goals as goal

pub returns-in-None : goal.returns-in-None
returns-in-None c = rw c.in-Received.is (none_received c.args.fields c.in-None.ensures)

pub returns-in-None-modified_fields : goal.returns-in-None-modified_fields
returns-in-None-modified_fields c = rw c.in-Modified.is (none_modified c.args.fields c.in-None-modified_fields.ensures)
