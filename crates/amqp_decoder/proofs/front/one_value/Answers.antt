use Rattle.amqp_decoder.proofs.OneValue.{one_value}
use Rattle.amqp_decoder.proofs.front.one_value.Goals as goal

pub returns : goal.returns
returns c = one_value
