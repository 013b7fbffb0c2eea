use Rattle.amqp_performatives.proofs.Same.{errors_alike, states_alike, performatives_alike}
use Rattle.amqp_performatives.proofs.equality.equal_is_same.Goals as goal

pub returns : goal.returns
returns c = record { performatives = performatives_alike; states = states_alike; errors = errors_alike }
