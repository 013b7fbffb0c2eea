use Rattle.amqp_flow.proofs.SerialLaws.{numbered-only}
use Rattle.amqp_flow.proofs.serial.laws.Goals as goal

pub returns-clause-numbered : goal.returns-clause-numbered
returns-clause-numbered c = numbered-only
