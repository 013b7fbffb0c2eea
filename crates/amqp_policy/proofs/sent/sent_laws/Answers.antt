use Rattle.amqp_policy.proofs.SentLaws.{all_lawful, doubt_is, unresolved_is}
use Rattle.amqp_policy.proofs.sent.sent_laws.Goals as goal

pub returns-clause-lawful : goal.returns-clause-lawful
returns-clause-lawful g c = all_lawful

pub returns-clause-doubt : goal.returns-clause-doubt
returns-clause-doubt g c = doubt_is

pub returns-clause-unresolved : goal.returns-clause-unresolved
returns-clause-unresolved g c = unresolved_is
