use Rattle.amqp_types.proofs.Shortest.{canon_is_shortest}
use Rattle.amqp_types.proofs.write.canon_is_shortest.Goals as goal

pub returns : goal.returns
returns c = canon_is_shortest
