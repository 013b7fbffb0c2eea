use Rattle.amqp_types.proofs.Octets.{field_empty}
use Rattle.amqp_types.proofs.leaves.field.Goals as goal

pub returns-in-Zero : goal.returns-in-Zero
returns-in-Zero c = field_empty c.args.width c.args.octets.now c.in-Zero.is
