use Rattle.amqp_policy.proofs.ReceivedLaws.{doubt_is, no_two, count_is}
use Rattle.amqp_policy.proofs.received.received_laws.Goals as goal

pub returns-clause-doubt : goal.returns-clause-doubt
returns-clause-doubt c = doubt_is

pub returns-clause-once : goal.returns-clause-once
returns-clause-once c = no_two

pub returns-clause-counted : goal.returns-clause-counted
returns-clause-counted c = count_is
