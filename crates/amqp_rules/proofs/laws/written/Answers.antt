use Rattle.amqp_rules.proofs.Writing.{heard-written, own-written}
use Rattle.amqp_rules.proofs.laws.written.Goals as goal

pub returns-clause-own : goal.returns-clause-own
returns-clause-own t = own-written

pub returns-clause-heard : goal.returns-clause-heard
returns-clause-heard t = heard-written
