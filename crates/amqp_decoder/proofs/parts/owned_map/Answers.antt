use Rattle.amqp_types.specs.View.{view}
use Rattle.amqp_decoder.proofs.FirstField.{map_owned}
use Rattle.amqp_decoder.proofs.parts.owned_map.Goals as goal

pub returns-in-Some-pairs_of : goal.returns-in-Some-pairs_of
returns-in-Some-pairs_of c = rw c.in-Some.is (map_owned c.in-Some-pairs_of.pairs (view c.in_ok-read-in-Some.read) c.in-Some.borrowed.octets.now c.in-Some.borrowed.whole c.in-Some-pairs_of.ensures c.in_ok-read-in-Some.ensures)
