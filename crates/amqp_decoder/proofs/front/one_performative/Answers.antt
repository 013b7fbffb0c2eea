use Rattle.amqp_decoder.proofs.OnePerformative.{one_performative}
use Rattle.amqp_decoder.proofs.front.one_performative.Goals as goal

pub returns : goal.returns
returns c = one_performative
