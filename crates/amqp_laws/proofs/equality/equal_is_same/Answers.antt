use Rattle.amqp_laws.proofs.Same.{entries_alike}
use Rattle.amqp_laws.proofs.equality.equal_is_same.Goals as goal

pub returns : goal.returns
returns c = entries_alike
