use Rattle.amqp_messages.proofs.Canonical.{message_spelled, one_message}
use Rattle.amqp_messages.proofs.write.message_read_back.Goals as goal

pub returns-clause-there : goal.returns-clause-there
returns-clause-there c = message_spelled

pub returns-clause-alone : goal.returns-clause-alone
returns-clause-alone c = one_message
