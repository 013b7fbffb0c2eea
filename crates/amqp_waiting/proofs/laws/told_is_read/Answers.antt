use Rattle.amqp_waiting.proofs.Values.{state_seen}
use Rattle.amqp_waiting.proofs.ReadBack.{map_back}
use Rattle.amqp_waiting.proofs.laws.told_is_read.Goals as goal

pub returns-clause-canonical : goal.returns-clause-canonical
returns-clause-canonical c = state_seen

pub returns-clause-read : goal.returns-clause-read
returns-clause-read c = map_back
